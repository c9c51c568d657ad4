-- Read-modify-write: what the walk's functions owe at each exit. Assumes nothing.
use mathlib.Core.Path.{◌≡◌, refl, sym, ap, ◌∙◌, subst}
use mathlib.Core.Bool.{Bool, true, false}
use mathlib.Core.List.{List, []}
use Prim.Native.Nat.{ℕ, ◌+◌, ◌-◌, ◌≤◌, ◌<◌}
use native.Mathlib.Omega.{arith}
use Rattle.type_category.specs.declared.type_category.AdsTypeCategory.{AdsTypeCategory}
use Rattle.type_category.specs.Category.{category_of}
use Rattle.resolvers.specs.declared.Resolved.TheVariants.{Base, NotFound, TooLong}
use Rattle.resolvers.proofs.Numbers.{long-numbers}
use Rattle.resolve_walk_events.specs.declared.Event.{Event}
use Rattle.resolve_walk_events.specs.declared.Event.TheVariants.{Old, New, Full}
use Rattle.resolve_walk_events.specs.declared.Event.TheVariants as event
use Rattle.resolve_walk.specs.Walk.{Walk, full, met, walk_of}
use Rattle.resolve_walk.specs.State.{After, Falls, Stepped, Started, work}
use Rattle.resolve_walk.proofs.States.{over-is}
use Rattle.std.specs.declared.ops.ControlFlow.{ControlFlow}
use Rattle.std.specs.declared.ops.ControlFlow.TheVariants.{Continue, Break}
use Rattle.resolve_walk.specs.declared.Rest.{Rest}
use Rattle.resolve_read_modify_write.specs.declared.Rmw.{Rmw}
use Rattle.resolve_read_modify_write.specs.declared.Rmw.TheVariants as rmw
use Rattle.resolve_read_modify_write.specs.Reads.{keeps_state, rmw_of}
use Rattle.resolve_read_modify_write.specs.State.{loop_work, RmwThen, Decided, Here}
use Rattle.resolve_read_modify_write.specs.Calls.{rmw_answer}

-- ---- the reading, event by event

module _ (book : List ℕ) (width : ℕ) {w next : Walk} {b : ℕ} {x : List ℕ} where
  rmw_block : {t : ℕ} → w ≡ met b x (Base t) next → keeps_state (category_of book width t) ≡ true → rmw_of book width w ≡ rmw.Yes
  unfolding rmw_of
  rmw_block e h = ap (rmw_of book width) e ∙ rw h

  rmw_other : {t : ℕ} → w ≡ met b x (Base t) next → keeps_state (category_of book width t) ≡ false → rmw_of book width w ≡ rmw_of book width next
  unfolding rmw_of
  rmw_other e h = ap (rmw_of book width) e ∙ rw h

  rmw_lacking : {c : ℕ} → w ≡ met b x (NotFound c) next → rmw_of book width w ≡ rmw.NotFound c
  unfolding rmw_of
  rmw_lacking e = ap (rmw_of book width) e

  rmw_long : w ≡ met b x TooLong next → rmw_of book width w ≡ rmw.Refused 8
  unfolding rmw_of
  rmw_long e = ap (rmw_of book width) e ∙ rw long-numbers

rmw_full : (book : List ℕ) (width : ℕ) {w : Walk} {b : ℕ} {x : List ℕ} → w ≡ full b x → rmw_of book width w ≡ rmw.Refused 9
unfolding rmw_of
rmw_full book width e = ap (rmw_of book width) e

-- ---- an event is decided

module _ (left : ℕ) {e : Event} where
  after_as : (x : Event) → e ≡ x → (book : List ℕ) (width : ℕ) (sc : List ℕ) (w : Walk) → After book width sc [] left w e → After book width sc [] left w x
  after_as x h book width sc w a = subst (λ (y : Event). After book width sc [] left w y) h a

  falls_as : (x : Event) → e ≡ x → (sc : List ℕ) (m : ℕ) → Falls sc left m e → Falls sc left m x
  falls_as x h sc m f = subst (λ (y : Event). Falls sc left m y) h f

  pub decide-old : (d : ℕ) → e ≡ Old d → Decided e left (Continue (record { left = left; depth = d }))
  unfolding loop_work
  decide-old d h =
      record {
        goes = λ book width all sc w q a. record { rest = w; left_over = after_as (Old d) h book width sc w a; reads = q };
        falls = λ sc m f. omega (arith, falls_as (Old d) h sc m f);
      }

  module _ (t d : ℕ) (c : AdsTypeCategory) (h : e ≡ New t d c) (g : Bool) (eg : g ≡ keeps_state c) where
    pub decide-block : g ≡ true → Decided e left (Break rmw.Yes)
    unfolding loop_work
    decide-block k =
        record {
          goes = λ book width all sc w q a.
              let g = after_as (New t d c) h book width sc w a in
              sym (q ∙ rmw_block book width g.is (rw (← g.kind) (sym eg ∙ k)));
          falls = λ sc m f. omega arith;
        }

    pub decide-new : g ≡ false → Decided e left (Continue (record { left = left - 1; depth = d }))
    unfolding loop_work
    decide-new k =
        record {
          goes = λ book width all sc w q a.
              let g = after_as (New t d c) h book width sc w a in
              record { rest = g.next; left_over = g.left_over; reads = q ∙ rmw_other book width g.is (rw (← g.kind) (sym eg ∙ k)) };
          falls = λ sc m f. omega (arith, (falls_as (New t d c) h sc m f).1);
        }

  pub decide-lacking : (c d : ℕ) → e ≡ event.NotFound c d → Decided e left (Break (rmw.NotFound c))
  unfolding loop_work
  decide-lacking c d h =
      record {
        goes = λ book width all sc w q a. sym (q ∙ rmw_lacking book width (after_as (event.NotFound c d) h book width sc w a).is);
        falls = λ sc m f. omega arith;
      }

  pub decide-long : (d : ℕ) → e ≡ event.TooLong d → Decided e left (Break (rmw.Refused 8))
  unfolding loop_work
  decide-long d h =
      record {
        goes = λ book width all sc w q a. sym (q ∙ rmw_long book width (after_as (event.TooLong d) h book width sc w a).is);
        falls = λ sc m f. omega arith;
      }

  pub decide-full : e ≡ Full → Decided e left (Break (rmw.Refused 9))
  unfolding loop_work
  decide-full h =
      record {
        goes = λ book width all sc w q a. sym (q ∙ rmw_full book width (after_as Full h book width sc w a).is);
        falls = λ sc m f. omega arith;
      }

-- ---- the loop

pub here-start : (book : List ℕ) (width root : ℕ) {sc₀ sc : List ℕ} {e : Event} {r : ControlFlow Rmw Rest} → Started book width root sc₀ e sc → Decided e 4096 r → Here book width (walk_of book width root) sc r
here-start book width root {sc} s d = record { so = d.goes book width (walk_of book width root) sc (walk_of book width root) refl s.goes }

module _ (book : List ℕ) (width root : ℕ) {sc : List ℕ} {here : ControlFlow Rmw Rest} (q : Here book width (walk_of book width root) sc here) where
  here_as : (x : ControlFlow Rmw Rest) → here ≡ x → RmwThen book width (walk_of book width root) sc x
  here_as x h = subst (λ (y : ControlFlow Rmw Rest). RmwThen book width (walk_of book width root) sc y) h q.so

  pub here-is : (x : Rmw) → here ≡ Break x → x ≡ rmw_answer true book width root
  unfolding rmw_answer
  here-is x h = here_as (Break x) h

  module _ (x : Rest) (h : here ≡ Continue x) where
    pub here-room : x.depth + x.left ≤ 4096
    here-room = (here_as (Continue x) h).left_over.room

    pub here_end : x.depth ≡ 0 → rmw.No ≡ rmw_answer true book width root
    unfolding rmw_answer rmw_of
    here_end z =
        let a = here_as (Continue x) h in
        sym (a.reads ∙ ap (rmw_of book width) (over-is book width [] a.left_over (omega arith)))

    module _ {sc' : List ℕ} {e : Event} {r : ControlFlow Rmw Rest} (s : Stepped book width sc [] x.left x.depth e sc') (d : Decided e x.left r) where
      pub here-again : Here book width (walk_of book width root) sc' r
      here-again =
          let a = here_as (Continue x) h in
          record { so = d.goes book width (walk_of book width root) sc' a.rest a.reads (s.goes a.rest a.left_over) }

      pub here-falls : loop_work sc' r < loop_work sc here
      unfolding loop_work
      here-falls = rw h (d.falls sc' (work sc x.left x.depth) s.falls)
