-- Adding one type: one law for each way out. Assumes nothing.
use mathlib.Core.Path.{◌≡◌, refl, sym, ap, ◌∙◌, subst}
use mathlib.Core.Bool.{Bool, true, false, cond}
use mathlib.Core.List.{List}
use Prim.Native.Nat.{ℕ, ◌+◌, ◌≤◌}
use native.Mathlib.Omega.{arith}
use borrow.Author.Tests.{eq-eqb, ne_eqb, eqb-true, eqb-false}
use lib.ListN.{length, take, length-take}
use lib.Dec.{eqb}
use Rattle.type_book.specs.Book.{is_type, type_name_of}
use Rattle.type_provider.specs.Find.{find}
use Rattle.type_index.specs.Index.{FoundBy}
use Rattle.type_book_check.specs.Check.{check_book, ValidBook}
use Rattle.type_book_check.proofs.Numbers.{valid-number}
use Rattle.type_cache.proofs.Numbers.{appended-is}
use Rattle.type_cache.specs.declared.Appended.{Appended}
use Rattle.type_cache.specs.declared.Appended.TheVariants.{Done, Refused}
use Rattle.type_cache.specs.Append.{append_refusal, append_call, append_buffer}
use Rattle.type_cache.specs.Same.{definition_of}
use Rattle.type_cache.proofs.Appends.{refused-cut, done_none, buffer-kept}
use Rattle.plan_type_adds.specs.Knows.{Knows, AppendedIn}
use Rattle.resolvers.proofs.Chains.{found-valid, found_type}
use Rattle.type_provider.proofs.Numbers.{found-is}
use Rattle.std.specs.Prelude.{Ok, Err, Option, Some, None}
use Rattle.plan_adds.specs.declared.Unfetched.TheVariants as unfetched
use Rattle.plan_adds.specs.Adds.{ours, append_of, fetch_by, fetch_of, on, room}
use Rattle.plan_adds.specs.State.{Ready, Kept, fetched_said, FetchedIs}

-- ---- our book in its buffer
module _ (c buffer : List ℕ) (len : ℕ) (known : List ℕ) (o : Ready c buffer len known) where
  pub ready-cut : len ≡ length (take len buffer)
  ready-cut = refused-cut buffer len buffer (check_book buffer len) refl 0 (valid-number _ o.valid) refl

  pub ready-fits : len ≤ length buffer
  ready-fits = omega (arith, ready-cut, length-take len buffer)

pub kept-all : (buffer : List ℕ) (len : ℕ) → Kept buffer len buffer len
kept-all buffer len = record { types = λ m h. h }

pub kept_then : (a : List ℕ) (k : ℕ) (b : List ℕ) (l : ℕ) (c : List ℕ) (m : ℕ) → Kept a k b l → Kept b l c m → Kept a k c m
kept_then a k b l c m p q = record { types = λ n h. q.types n (p.types n h) }

-- ---- the look-up in the controller's book
pub theirs-is : (c : List ℕ) → ValidBook c → (book : List ℕ) (b : ℕ) (name : List ℕ) → name ≡ type_name_of book b → (f : Option ℕ) → FoundBy c name f
    → f ≡ find c (type_name_of book b)
theirs-is c v book b name e f h = found-is _ _ (found-valid c v name f h) ∙ ap (find c) e

-- ---- the answers of appending
refused-is : (buffer : List ℕ) (len : ℕ) (d : List ℕ) (k : ℕ) → append_call buffer len d ≡ Refused k → (append_refusal buffer len d ≡ k) × (append_refusal buffer len d ≡ 0 → ⊥)
unfolding append_call
refused-is buffer len d k h = by (eqb (append_refusal buffer len d) 0) refl h
  where
    by : (t : Bool) → eqb (append_refusal buffer len d) 0 ≡ t → cond t (Done (len + length d)) (Refused (append_refusal buffer len d)) ≡ Refused k
        → (append_refusal buffer len d ≡ k) × (append_refusal buffer len d ≡ 0 → ⊥)
    by true e g = let z : ◌≡◌ {A = ℕ} 0 1 = cc in absurd (omega arith)
    by false e g = (cc, eqb-false _ _ e)

module _ (c : List ℕ) (b : ℕ) (buffer : List ℕ) (len : ℕ) (f : Option ℕ) (ef : f ≡ find c (type_name_of (take len buffer) b)) where
  pub fetch_lacks : f ≡ None → (known : List ℕ) → Ready c buffer len known → FetchedIs c b buffer len (Err unfetched.NotFound) buffer known
  unfolding fetched_said fetch_by
  fetch_lacks h known o = record { is = rw (← ef, h); ready = o; kept = kept-all buffer len }

  module _ (n : ℕ) (h : f ≡ Some n) where
    pub fetch_type : is_type c n ≡ true
    fetch_type = found_type c (type_name_of (take len buffer) b) n (sym ef ∙ h)

    at : fetch_of c b (ours buffer len) ≡ append_of c n (ours buffer len)
    unfolding fetch_by
    at = rw (← ef, h)

    module _ (r : Appended) (after known : List ℕ) (a : AppendedIn c n buffer len r after known) where
      abbrev d : List ℕ
      d = definition_of c n

      pub fetch_done : (l : ℕ) → r ≡ Done l → FetchedIs c b buffer len (Ok l) after known
      unfolding fetched_said append_of
      fetch_done l e =
          let z : append_call buffer len d ≡ Done l = sym (appended-is _ _ a.appends.answer) ∙ e in
          let q : append_refusal buffer len d ≡ 0 = done_none buffer len d l z in
          record {
            is = sym (at ∙ rw (q, z, ← a.appends.bytes));
            ready = record { valid = rw e at a.valid; knows = rw e at a.knows };
            kept = record { types = rw e at a.types };
          }

      module _ (k : ℕ) (e : r ≡ Refused k) where
        z : append_call buffer len d ≡ Refused k
        z = sym (appended-is _ _ a.appends.answer) ∙ e

        ready : Ready c after len known
        ready = record { valid = rw e at a.valid; knows = rw e at a.knows }

        kept : Kept buffer len after len
        kept = record { types = rw e at a.types }

        pub fetch_full : k ≡ 15 → FetchedIs c b buffer len (Err unfetched.Full) after known
        unfolding fetched_said append_of
        fetch_full g =
            let w = refused-is buffer len d k z in
            let q : append_refusal buffer len d ≡ 15 = w.0 ∙ g in
            let y : after ≡ buffer = a.appends.bytes ∙ buffer-kept buffer len d w.1 in
            record { is = sym (at ∙ rw (q, y)); ready = ready; kept = kept }

        pub fetch_known : (k ≡ 15 → ⊥) → FetchedIs c b buffer len (Ok len) after known
        unfolding fetched_said append_of
        fetch_known g =
            let w = refused-is buffer len d k z in
            record { is = sym (at ∙ rw (ne_eqb (append_refusal buffer len d) 15 (λ y. g (sym w.0 ∙ y)), z, ← a.appends.bytes)); ready = ready; kept = kept }
