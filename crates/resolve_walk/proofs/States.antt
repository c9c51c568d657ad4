-- The state of a walk, for the crates that read it: what is due at an event, and when nothing is left. Assumes nothing.
use mathlib.Core.Path.{◌≡◌, ap, ◌∙◌, subst}
use mathlib.Core.List.{List}
use Prim.Native.Nat.{ℕ, ◌≤◌, ◌<◌}
use native.Mathlib.Omega.{arith}
use Rattle.type_category.specs.declared.type_category.AdsTypeCategory.{AdsTypeCategory}
use Rattle.resolve_walk_scratch.specs.Scratch.{stack_of}
use Rattle.resolve_walk_events.specs.declared.Event.{Event}
use Rattle.resolve_walk_events.specs.declared.Event.TheVariants.{Old, New, Full}
use Rattle.resolve_walk_events.specs.declared.Event.TheVariants as event
use Rattle.resolve_walk.specs.Walk.{Walk, over, walk}
use Rattle.resolve_walk.specs.State.{LeftToWalk, Falls, DueAfter, IsDue, work, Stepped, Started}
use Rattle.resolve_walk.proofs.Goes.{walk_none}

-- ---- what is due

falls-due : (sc : List ℕ) (left m : ℕ) (e : Event) → Falls sc left m e → DueAfter left e
falls-due sc left m (Old d) f = tt
falls-due sc left m (event.NotFound c d) f = f.0
falls-due sc left m (New t d c) f = f.0
falls-due sc left m (event.TooLong d) f = f.0
falls-due sc left m Full f = f

pub step-due : (book : List ℕ) (width : ℕ) (ls : List ℕ) (left : ℕ) {sc sc' : List ℕ} {depth : ℕ} {e : Event} → Stepped book width sc ls left depth e sc' → IsDue left e
step-due book width ls left {sc} {sc'} {depth} {e} s = record { due = falls-due sc' left (work sc left depth) e s.falls }

pub start-due : (book : List ℕ) (width root : ℕ) {sc sc' : List ℕ} {e : Event} → Started book width root sc e sc' → IsDue 4096 e
start-due book width root s = record { due = s.due }

module _ (left : ℕ) {e : Event} (p : IsDue left e) where
  pub due_as : (x : Event) → e ≡ x → DueAfter left x
  due_as x h = subst (λ (y : Event). DueAfter left y) h p.due

  pub due-new : (t d : ℕ) (c : AdsTypeCategory) → e ≡ New t d c → 0 < left
  due-new t d c h = due_as (New t d c) h

  pub due-lacking : (c d : ℕ) → e ≡ event.NotFound c d → 0 < left
  due-lacking c d h = due_as (event.NotFound c d) h

  pub due-long : (d : ℕ) → e ≡ event.TooLong d → 0 < left
  due-long d h = due_as (event.TooLong d) h

-- ---- an empty stack

pub over-is : (book : List ℕ) (width : ℕ) (ls : List ℕ) {sc : List ℕ} {left depth : ℕ} {w : Walk} → LeftToWalk book width sc ls left depth w → depth ≤ 0 → w ≡ over
unfolding stack_of
over-is book width ls {sc} {left} {depth} l h =
    let z : depth ≡ 0 = omega arith in
    l.is ∙ ap (λ (d : ℕ). walk book width left l.v (stack_of sc d)) z ∙ walk_none book width left l.v
