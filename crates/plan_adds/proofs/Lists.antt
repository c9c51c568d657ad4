-- Adding several types: the loops, and both together. Assumes nothing.
use mathlib.Core.Path.{◌≡◌, refl, sym, ap, ◌∙◌}
use mathlib.Core.Bool.{Bool, true, false, cond}
use mathlib.Core.List.{List, [], ◌∷◌}
use Prim.Native.Nat.{ℕ, suc, ◌+◌, ◌-◌, ◌/◌, ◌≤◌, ◌<◌}
use native.Mathlib.Omega.{arith}
use native.Mathlib.Numerals.{add-one}
use borrow.Author.Tests.{lt-ltb, le-ltb}
use lib.ListN.{length, get_or, take, drop, drop_of_length-le}
use lib.Seq.{drop-cons}
use lib.Dec.{ltb}
use Rattle.type_book.specs.Book.{blocks}
use Rattle.closure.specs.Calls.{Ours}
use Rattle.std.specs.Prelude.{Result, Ok, Err}
use Rattle.plan_adds.specs.declared.Unfetched.{Unfetched}
use Rattle.plan_adds.specs.declared.Unfetched.TheVariants as unfetched
use Rattle.plan_adds.specs.declared.Swept.{Swept}
use Rattle.plan_adds.specs.declared.Added.{Added}
use Rattle.plan_adds.specs.declared.Added.TheVariants.{More, NotFound, Full}
use Rattle.plan_adds.specs.Adds.{Adding, ours, on, then_on, add_listed, due_of, sweep_by, sweep_from, sweep, add_all}
use Rattle.plan_adds.specs.State.{Ready, Kept, fetched_said, FetchedIs, added_said, AddedIs, SweptIs, SweepIs}
use Rattle.plan_adds.proofs.Fetches.{ready-cut, kept-all, kept_then}

-- ---- the loop of `add_listed`

-- before block i of the list
pub record AddsTo (adding : Adding) (c bs buffer₀ : List ℕ) (len₀ i : ℕ) (buffer : List ℕ) (at : ℕ) (known : List ℕ) : Type 0 where
  pub rest : adding ≡ add_listed c (drop i bs) (ours buffer at)
  pub ready : Ready c buffer at known
  pub kept : Kept buffer₀ len₀ buffer at

pub adds-start : (c bs buffer : List ℕ) (len : ℕ) (known : List ℕ) → Ready c buffer len known
    → AddsTo (add_listed c bs (ours buffer len)) c bs buffer len 0 buffer len known
adds-start c bs buffer len known o = record { rest = refl; ready = o; kept = kept-all buffer len }

module _ (adding : Adding) (c bs buffer₀ : List ℕ) (len₀ i : ℕ) (buffer : List ℕ) (at : ℕ) (known : List ℕ)
    (o : AddsTo adding c bs buffer₀ len₀ i buffer at known) where
  pub adds-ready : Ready c buffer at known
  adds-ready = o.ready

  pub adds-end : length bs ≤ i → AddedIs adding c buffer₀ len₀ (More at) buffer known
  unfolding added_said add_listed
  adds-end h =
      let q : drop i bs ≡ [] = drop_of_length-le bs h in
      record { is = sym (o.rest ∙ rw q); ready = o.ready; kept = o.kept }

  module _ (l : i < length bs) (f : Result ℕ Unfetched) (after known' : List ℕ) (g : FetchedIs c (get_or bs i 0) buffer at f after known') where
    taken : drop i bs ≡ get_or bs i 0 ∷ drop (i + 1) bs
    taken = drop-cons bs i 0 l ∙ rw add-one

    onward : adding ≡ then_on (fetched_said (get_or bs i 0) at f after) (add_listed c (drop (i + 1) bs))
    unfolding add_listed
    onward = o.rest ∙ rw (taken, g.is)

    pub adds_again : (k : ℕ) → f ≡ Ok k → AddsTo adding c bs buffer₀ len₀ (i + 1) after k known'
    unfolding fetched_said then_on
    adds_again k e =
        record {
          rest = onward ∙ rw e;
          ready = rw e at g.ready;
          kept = kept_then buffer₀ len₀ buffer at after k o.kept (rw e at g.kept);
        }

    pub adds-lacks : (x : Unfetched) → f ≡ Err x → x ≡ unfetched.NotFound → AddedIs adding c buffer₀ len₀ (NotFound (get_or bs i 0) at) after known'
    unfolding fetched_said then_on added_said
    adds-lacks x e q =
        record {
          is = sym (onward ∙ rw (e, q));
          ready = rw e at g.ready;
          kept = kept_then buffer₀ len₀ buffer at after at o.kept (rw e at g.kept);
        }

    pub adds-full : (x : Unfetched) → f ≡ Err x → x ≡ unfetched.Full → AddedIs adding c buffer₀ len₀ (Full at) after known'
    unfolding fetched_said then_on added_said
    adds-full x e q =
        record {
          is = sym (onward ∙ rw (e, q));
          ready = rw e at g.ready;
          kept = kept_then buffer₀ len₀ buffer at after at o.kept (rw e at g.kept);
        }

-- ---- the loop of `sweep`

pub record SweepsTo (final : Ours) (c : List ℕ) (width : ℕ) (buffer₀ : List ℕ) (len₀ i due : ℕ) (buffer : List ℕ) (at : ℕ) (known : List ℕ) : Type 0 where
  pub rest : final ≡ sweep_from c width (65536 - i) i due (ours buffer at)
  pub ready : Ready c buffer at known
  pub kept : Kept buffer₀ len₀ buffer at

pub sweeps_start : (c : List ℕ) (width : ℕ) (buffer : List ℕ) (len i : ℕ) (known : List ℕ) → Ready c buffer len known
    → SweepsTo (sweep c width i (ours buffer len)) c width buffer len i 0 buffer len known
sweeps_start c width buffer len i known o = record { rest = refl; ready = o; kept = kept-all buffer len }

module _ (final : Ours) (c : List ℕ) (width : ℕ) (buffer₀ : List ℕ) (len₀ i due : ℕ) (buffer : List ℕ) (at : ℕ) (known : List ℕ)
    (o : SweepsTo final c width buffer₀ len₀ i due buffer at known) where
  pub sweeps_ready : Ready c buffer at known
  sweeps_ready = o.ready

  pub sweeps_end : 65536 ≤ i → SweepIs final c buffer₀ len₀ at buffer known
  unfolding sweep_from
  sweeps_end h = let q : 65536 - i ≡ 0 = omega arith in record { is = sym (o.rest ∙ rw q); ready = o.ready; kept = o.kept }

  module _ (l : i < 65536) where
    left : 65536 - i ≡ suc (65536 - (i + 1))
    left = omega arith

    turn : (t : Bool) → ltb i (blocks (take at buffer)) ≡ t
        → final ≡ cond t (sweep_by (sweep_from c width (65536 - (i + 1)) (i + 1)) c i (ours buffer at) (due_of (take at buffer) width i due)) (ours buffer at)
    unfolding sweep_from
    turn t e = o.rest ∙ rw (left, e)

    cut : at ≡ length (take at buffer)
    cut = ready-cut c buffer at known o.ready

    pub sweeps_stop : at / 512 ≤ i → SweepIs final c buffer₀ len₀ at buffer known
    sweeps_stop h =
        record {
          is = sym (turn false (le-ltb i (blocks (take at buffer)) (omega (arith, cut))));
          ready = o.ready;
          kept = o.kept;
        }

    pub sweeps_again : i < at / 512 → (r : Swept) (after known' : List ℕ) → SweptIs c width i due buffer at r after known'
        → SweepsTo final c width buffer₀ len₀ (i + 1) r.due after r.len known'
    sweeps_again h r after known' g =
        record {
          rest = turn true (lt-ltb i (blocks (take at buffer)) (omega (arith, cut))) ∙ sym (g.is (sweep_from c width (65536 - (i + 1)) (i + 1)));
          ready = g.ready;
          kept = kept_then buffer₀ len₀ buffer at after r.len o.kept g.kept;
        }

-- ---- the listed types, and then what types of our book are made of

pub all-ready : (adding : Adding) (c buffer : List ℕ) (len : ℕ) (a : Added) (after known : List ℕ) → AddedIs adding c buffer len a after known → (l : ℕ) → a ≡ More l
    → Ready c after l known
all-ready adding c buffer len a after known o l e = rw e at o.ready

module _ (c : List ℕ) (width : ℕ) (bs buffer : List ℕ) (len from : ℕ) (a : Added) (after known : List ℕ)
    (o : AddedIs (add_listed c bs (ours buffer len)) c buffer len a after known) where
  onward-all : add_all c width from bs (ours buffer len) ≡ then_on (added_said a after) (λ z. on (sweep c width from z))
  unfolding add_all
  onward-all = rw (← o.is)

  pub all-lacks : (b l : ℕ) → a ≡ NotFound b l → AddedIs (add_all c width from bs (ours buffer len)) c buffer len (NotFound b l) after known
  unfolding added_said then_on
  all-lacks b l e = record { is = sym (onward-all ∙ rw e); ready = rw e at o.ready; kept = rw e at o.kept }

  pub all-full : (l : ℕ) → a ≡ Full l → AddedIs (add_all c width from bs (ours buffer len)) c buffer len (Full l) after known
  unfolding added_said then_on
  all-full l e = record { is = sym (onward-all ∙ rw e); ready = rw e at o.ready; kept = rw e at o.kept }

  pub all-swept : (l : ℕ) → a ≡ More l → (r : ℕ) (last known' : List ℕ) → SweepIs (sweep c width from (ours after l)) c after l r last known'
      → AddedIs (add_all c width from bs (ours buffer len)) c buffer len (More r) last known'
  unfolding added_said then_on
  all-swept l e r last known' g =
      record {
        is = ap on g.is ∙ sym (onward-all ∙ rw e);
        ready = g.ready;
        kept = kept_then buffer len after l last r (rw e at o.kept) g.kept;
      }
