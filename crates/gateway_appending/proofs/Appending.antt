-- Appending to a book that was checked once: one law for each way out. Assumes nothing.
use mathlib.Core.Path.{◌≡◌, refl, sym, ap, ◌∙◌, subst}
use mathlib.Core.Bool.{Bool, true, false, cond}
use mathlib.Core.List.{List, ◌++◌}
use Prim.Native.Nat.{ℕ, ◌+◌, ◌/◌, ◌≤◌, ◌<◌}
use native.Mathlib.Omega.{arith}
use borrow.Author.Tests.{eqb-true}
use lib.ListN.{length, take, length-take}
use Rattle.type_book.specs.Book.{blocks, is_type, name_of}
use Rattle.type_provider.specs.Find.{searched}
use Rattle.type_index.specs.declared.Trust.{Trust}
use Rattle.type_index.specs.declared.Trust.TheVariants as trust
use Rattle.type_index.specs.Trust.{holds_all, Trusted}
use Rattle.type_index_grow.specs.Grow.{takes, with_last}
use Rattle.type_index_grow.proofs.Grows.{grown-holds}
use Rattle.type_book_check.specs.declared.BookCheck.TheVariants.{Valid}
use Rattle.type_book_check.specs.Check.{check_book, ValidBook}
use Rattle.type_book_check.proofs.Valid.{valid-below}
use Rattle.type_book_check.proofs.Append.{append_blocks}
use Rattle.type_book_check.proofs.Numbers.{valid-number}
use Rattle.type_cache.specs.declared.Appended.TheVariants.{Done}
use Rattle.type_cache.specs.Append.{addition_refusal, is_known, has_room, append_refusal, CopyIs, AppendIs}
use Rattle.type_cache.proofs.Appends.{refused-cut, refused_addition, refused-known, refused_none, refused-room, append_refused, append_done}
use Rattle.type_cache.proofs.Adds.{Grown, grown}
use Rattle.gateway_appending.specs.declared.Growth.TheVariants.{Entered, Loose, Refused}
use Rattle.gateway_appending.specs.Growth.{appended_of, trust_after, stays_trusted, GoesIs, IndexIs, AppendedBy}

-- ---- the refusal

module _ (buffer : List ℕ) (len : ℕ) (d : List ℕ) (b : check_book buffer len ≡ Valid) where
  pub once_cut : len ≡ length (take len buffer)
  once_cut = refused-cut buffer len d (check_book buffer len) refl 0 (valid-number _ b) refl

  module _ (a : ℕ) (ea : a ≡ addition_refusal d) where
    pub once_addition : (a ≡ 0 → ⊥) → a ≡ append_refusal buffer len d
    once_addition h = refused_addition buffer len d (check_book buffer len) refl 0 (valid-number _ b) refl a ea h

    module _ (za : a ≡ 0) (name : List ℕ) (en : name ≡ name_of d 0) (g : Bool) (eg : g ≡ is_known (take len buffer) name) where
      pub once_known : g ≡ true → 4 ≡ append_refusal buffer len d
      once_known h = refused-known buffer len d (check_book buffer len) refl 0 (valid-number _ b) refl a ea za name en g eg h

      module _ (zg : g ≡ false) (r : Bool) (er : r ≡ has_room (length buffer) len (length d)) where
        pub once_none : r ≡ true → 0 ≡ append_refusal buffer len d
        once_none h = refused_none buffer len d (check_book buffer len) refl 0 (valid-number _ b) refl a ea za name en g eg zg r er h

        pub once_room : r ≡ false → 15 ≡ append_refusal buffer len d
        once_room h = refused-room buffer len d (check_book buffer len) refl 0 (valid-number _ b) refl a ea za name en g eg zg r er h

-- ---- the call

-- only an index that is known to lead to every type goes on, and it takes the new one
on-held : (t : Trust) (longer index : List ℕ) (n : ℕ) → true ≡ stays_trusted t longer index n → t ≡ trust.Held
unfolding stays_trusted
on-held trust.Held longer index n e = refl
on-held trust.Unknown longer index n e = absurd (let z : ◌≡◌ {A = ℕ} 0 1 = cc in omega arith)
on-held trust.Foreign longer index n e = absurd (let z : ◌≡◌ {A = ℕ} 0 1 = cc in omega arith)

on-takes : (t : Trust) (longer index : List ℕ) (n : ℕ) → true ≡ stays_trusted t longer index n → takes longer index n ≡ true
unfolding stays_trusted
on-takes trust.Held longer index n e = sym e
on-takes trust.Unknown longer index n e = absurd (let z : ◌≡◌ {A = ℕ} 0 1 = cc in omega arith)
on-takes trust.Foreign longer index n e = absurd (let z : ◌≡◌ {A = ℕ} 0 1 = cc in omega arith)

module _ (buffer : List ℕ) (len : ℕ) (d : List ℕ) (b : check_book buffer len ≡ Valid) (r : ℕ) (e : r ≡ append_refusal buffer len d) where
  abbrev book : List ℕ
  book = take len buffer

  module _ (z : r ≡ 0) where
    w : Grown buffer len d
    w = grown buffer len d (sym e ∙ z)

    -- the new type's block
    pub once_block : len / 512 ≡ blocks (take len buffer)
    once_block = ap (λ (x : ℕ). x / 512) (once_cut buffer len d b)

    pub once_small : len / 512 < 4294967296
    once_small = rw once_block (omega (arith, w.few))

    module _ (l : ℕ) (after : List ℕ) (o : CopyIs buffer len d l after) where
      p : AppendIs buffer len d (Done l) after
      p = append_done buffer len d r e z l after o

      pub once_book : take l after ≡ take len buffer ++ d
      once_book = let q : l ≡ len + length d = o.new in rw (p.bytes, q) w.book

      check : check_book after l ≡ Valid
      check = let q : l ≡ len + length d = o.new in rw (p.bytes, q) w.check

      pub once_longer : l ≡ length (take l after)
      once_longer = once_cut after l d check

      pub once_fits : l ≤ length after
      once_fits = omega (arith, once_longer, length-take l after)

      -- it is one that a look-up searches
      pub once_below : len / 512 < searched (take l after)
      once_below =
          let s : 0 < blocks d = valid-below d w.valid 0 0 (eqb-true _ _ w.one.is) in
          let x : blocks (book ++ d) ≡ blocks book + blocks d = append_blocks book d w.old w.valid in
          rw (once_book, once_block) (omega (arith, x, s, w.few))

      module _ (index : List ℕ) (t : Trust) (k : Trusted (take len buffer) index t) (index' : List ℕ) where
        module _ (g : GoesIs t (take l after) index (len / 512) true index') where
          on : true ≡ stays_trusted t (book ++ d) index (blocks book)
          on = rw (← once_book, ← once_block) g.answer

          is : index' ≡ with_last (book ++ d) index (blocks book)
          is =
              let q : index' ≡ cond (stays_trusted t (book ++ d) index (blocks book)) (with_last (book ++ d) index (blocks book)) index =
              rw (← once_book, ← once_block) g.numbers in
              q ∙ rw (← on)

          holds : holds_all (take l after) index' ≡ true
          holds =
              rw (once_book, is)
              (grown-holds book d w.old w.valid w.one w.new w.few index (k.held (on-held t _ index _ on)) (on-takes t _ index _ on))

          once_entered-to : AppendedBy buffer len d index t (Entered l) after index'
          unfolding appended_of trust_after IndexIs
          once_entered-to = record { appends = p; valid = check; numbers = rw (← once_block) g; trusted = record { held = λ h. holds } }

        once_loose_to : GoesIs t (take l after) index (len / 512) false index' → AppendedBy buffer len d index t (Loose l) after index'
        unfolding appended_of trust_after IndexIs
        once_loose_to g =
            record {
              appends = p;
              valid = check;
              numbers = rw (← once_block) g;
              trusted = record { held = λ h. absurd (let z : ◌≡◌ {A = ℕ} 0 1 = cc in omega arith) };
            }

        pub once_entered : (g : Bool) → GoesIs t (take l after) index (len / 512) g index' → g ≡ true → AppendedBy buffer len d index t (Entered l) after index'
        once_entered g is h = once_entered-to (rw h at is)

        pub once_loose : (g : Bool) → GoesIs t (take l after) index (len / 512) g index' → g ≡ false → AppendedBy buffer len d index t (Loose l) after index'
        once_loose g is h = once_loose_to (rw h at is)

  pub once_refused : (index : List ℕ) (t : Trust) → Trusted (take len buffer) index t → (r ≡ 0 → ⊥) → AppendedBy buffer len d index t (Refused r) buffer index
  unfolding appended_of trust_after IndexIs
  once_refused index t k h = record { appends = append_refused buffer len d r e h; valid = b; numbers = refl; trusted = k }
