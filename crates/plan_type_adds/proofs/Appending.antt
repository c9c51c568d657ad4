-- Appending where both books were checked once: one law for each way out. Assumes nothing.
use Rattle.std.specs.Prelude.{Option, Some, None}
use mathlib.Core.Path.{◌≡◌, refl, sym, ap, ◌∙◌, subst}
use mathlib.Core.Bool.{Bool, true, false, not, ◌||◌}
use mathlib.Core.List.{List, ◌++◌}
use Prim.Native.Nat.{ℕ, zero, suc, ◌+◌, ◌*◌, ◌-◌, ◌≤◌, ◌<◌}
use native.Mathlib.Omega.{arith}
use borrow.Author.Tests.{eqb-true, eqb-false, not-true, not-false}
use lib.Dec.{eqb}
use lib.ListN.{length, get_or, take, drop, set, length-set, length-drop}
use Rattle.type_book.specs.Book.{blocks, is_type, fields_of, entries_of, name_of}
use Rattle.type_provider.specs.Find.{find, is_found}
use Rattle.type_book_check.specs.declared.BookCheck.TheVariants.{Valid}
use Rattle.type_book_check.specs.Check.{check_book, ValidBook}
use Rattle.type_book_check.proofs.Valid.{valid-type, valid-size, valid-below, valid-own}
use Rattle.type_book_check.proofs.Numbers.{valid-number}
use Rattle.type_cache.specs.declared.Appended.TheVariants.{Done, Refused}
use Rattle.type_cache.specs.Append.{is_known, has_room, append_refusal, CopyIs, AppendIs, append_buffer}
use Rattle.type_cache.specs.Same.{blocks_of, definition_of}
use Rattle.type_cache.proofs.Appends.{refused-known, refused_none, refused-room, append_refused, append_done, append_fits, unknown, room_fits}
use Rattle.type_cache.proofs.Definitions.{same-sym, same-type}
use Rattle.type_cache.proofs.Adds.{definition_size, definition_name, definition_whole, Grown, grown, Added, added}
use Rattle.plan_type_adds.specs.Knows.{has_mark, Knows, AppendedIn}
use Rattle.plan_type_adds.proofs.Knowing.{marked-set, marked_other}

-- ---- the definition

module _ (c : List ℕ) (v : ValidBook c) (n : ℕ) (t : is_type c n ≡ true) (f e : ℕ) (ef : f ≡ fields_of c n) (ee : e ≡ entries_of c n) where
  pub definition_ends : n * 512 + (f + e + 1) * 512 ≤ length c
  definition_ends = omega (arith, (valid-type c v n t).room, (valid-size c v).whole)

  pub definition_is : take (n * 512 + (f + e + 1) * 512 - n * 512) (drop (n * 512) c) ≡ definition_of c n
  unfolding definition_of
  definition_is = let q : n * 512 + (f + e + 1) * 512 - n * 512 ≡ (fields_of c n + entries_of c n + 1) * 512 = omega arith in rw q

-- ---- the call

at_same : (m n : ℕ) → Some m ≡ Some n → m ≡ n
at_same m n e = cc

known_of : (f : Option ℕ) (k : ℕ) → f ≡ Some k → is_found f ≡ true
known_of f k e = rw e

known-none : (f : Option ℕ) → f ≡ None → is_found f ≡ false
known-none f e = rw e

module _ (c : List ℕ) (w : ValidBook c) (n : ℕ) (t : is_type c n ≡ true) (buffer : List ℕ) (len : ℕ) (b : check_book buffer len ≡ Valid)
    (known : List ℕ) (k : Knows c (take len buffer) known) (g : Bool) (eg : g ≡ has_mark known n) where
  abbrev d : List ℕ
  d = definition_of c n

  -- the mark is what appending asks of the name
  marks-name : g ≡ is_known (take len buffer) (name_of d 0)
  marks-name = eg ∙ k.is n t ∙ ap (is_known (take len buffer)) (sym (definition_name c w n t))

  pub in_known : g ≡ true → AppendedIn c n buffer len (Refused 4) buffer known
  in_known h =
      record {
        appends = append_refused buffer len d 4
            (refused-known buffer len d (check_book buffer len) refl 0 (valid-number _ b) refl 0 (sym (definition_whole c w n t)) refl (name_of d 0) refl g marks-name h)
            (λ z. omega arith);
        valid = b;
        knows = k;
        types = λ m y. y;
      }

  pub in_below : n < length known
  in_below = omega (arith, valid-below c w n 0 (eqb-true _ _ t), (valid-size c w).few, k.long)

  module _ (z : g ≡ false) (a : List ℕ) (ea : a ≡ definition_of c n) (r : Bool) (er : r ≡ has_room (length buffer) len (length a)) where
    has : r ≡ has_room (length buffer) len (length d)
    has = er ∙ rw ea

    pub in_room : not r ≡ true → AppendedIn c n buffer len (Refused 15) buffer known
    in_room h =
        record {
          appends = append_refused buffer len d 15
              (refused-room buffer len d (check_book buffer len) refl 0 (valid-number _ b) refl 0 (sym (definition_whole c w n t)) refl (name_of d 0) refl g marks-name z r has
              (not-true r h))
              (λ q. omega arith);
          valid = b;
          knows = k;
          types = λ m y. y;
        }

    module _ (h : not r ≡ false) where
      none : 0 ≡ append_refusal buffer len d
      none =
          refused_none buffer len d (check_book buffer len) refl 0 (valid-number _ b) refl 0 (sym (definition_whole c w n t)) refl (name_of d 0) refl g marks-name z r has
          (not-false r h)

      pub in_fits : len + length a ≤ length buffer
      in_fits = rw ea (append_fits buffer len d 0 none refl)

      grows : Grown buffer len d
      grows = grown buffer len d (sym none)

      lacks : find (take len buffer) (name_of c n) ≡ None
      lacks = unknown (take len buffer) (name_of c n) (sym (k.is n t) ∙ sym eg ∙ z)

      longer : Added (take len buffer) c n (take len buffer ++ d)
      longer = added (take len buffer) c n grows.old w t lacks (omega (arith, grows.few, definition_size c w n t))

      -- what the longer book knows
      knows_more : (m : ℕ) → is_type c m ≡ true → has_mark (set known n 1) m ≡ is_known (take len buffer ++ d) (name_of c m)
      knows_more m tm = by (eqb m n) refl
        where
          by : (q : Bool) → eqb m n ≡ q → has_mark (set known n 1) m ≡ is_known (take len buffer ++ d) (name_of c m)
          by true e = let o : m ≡ n = eqb-true m n e in rw o (marked-set known n in_below ∙ sym (known_of _ _ longer.found))
          by false e = marked_other known n m (eqb-false m n e) ∙ k.is m tm ∙ old (find (take len buffer) (name_of c m)) refl
            where
              old : (f : Option ℕ) → find (take len buffer) (name_of c m) ≡ f → is_known (take len buffer) (name_of c m) ≡ is_known (take len buffer ++ d) (name_of c m)
              old (Some j) q = known_of _ j q ∙ sym (known_of _ j (longer.old (name_of c m) j q))
              old None q =
                  known-none _ q
                  ∙ sym (known-none _ (longer.other (name_of c m) q
                  (λ y. eqb-false m n e (at_same m n (sym (valid-own c w m tm) ∙ ap (find c) y ∙ valid-own c w n t)))))

      -- a type block of the book is one of the longer book
      type-kept : (m : ℕ) → is_type (take len buffer) m ≡ true → is_type (take len buffer ++ d) m ≡ true
      type-kept m y = rw (← (same-type (take len buffer) (take len buffer ++ d) m m grows.old y (same-sym _ _ m m (longer.kept m y))).kind) y

      pub in_done : (l : ℕ) (after : List ℕ) → CopyIs buffer len a l after → AppendedIn c n buffer len (Done l) after (set known n 1)
      in_done l after o =
          let p : AppendIs buffer len d (Done l) after = append_done buffer len d 0 none refl l after (rw ea at o) in
          let q : l ≡ len + length d = rw ea at o.new in
          let y : take l after ≡ take len buffer ++ d = rw (p.bytes, q) grows.book in
          record {
            appends = p;
            valid = rw (p.bytes, q) grows.check;
            knows = record { long = length-set known n 1 ∙ k.long; is = λ m tm. knows_more m tm ∙ ap (λ (y : List ℕ). is_known y (name_of c m)) (sym y) };
            types = λ m h'. subst (λ (x : List ℕ). is_type x m ≡ true) (sym y) (type-kept m h');
          }
