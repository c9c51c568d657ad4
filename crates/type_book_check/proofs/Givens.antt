-- A root that is given by its number or by its name: one law for each way out of the functions that check it, and what a call with it answers. Assumes
-- nothing.
use Rattle.std.specs.Prelude.{Option, Some, None}
use mathlib.Core.Path.{◌≡◌, refl, sym, ap, ◌∙◌}
use mathlib.Core.Bool.{Bool, true, false, cond, not}
use mathlib.Core.List.{List}
use Prim.Native.Nat.{ℕ, ◌≤◌}
use native.Mathlib.Omega.{arith}
use borrow.Author.Tests.{eq-eqb, ne_eqb, eqb-true, not-true, not-false}
use lib.ListN.{length, take}
use lib.Seq.{length-take-le}
use lib.Dec.{eqb}
use Rattle.enc_number.specs.Answer.{refusal_of}
use Rattle.type_book.specs.Book.{is_type}
use Rattle.type_provider.specs.Find.{find}
use Rattle.type_provider.proofs.Finds.{find-named, named-kind}
use Rattle.type_book_check.specs.Check.{check_book, book_numbers, ValidBook, root_of, check_root, at_root}
use Rattle.type_book_check.specs.declared.BookCheck.{BookCheck}
use Rattle.type_book_check.specs.declared.RootCheck.{RootCheck}
use Rattle.type_book_check.specs.declared.RootCheck.TheVariants as checked
use Rattle.type_book_check.specs.declared.GivenRoot.{GivenRoot}
use Rattle.type_book_check.specs.declared.GivenRoot.TheVariants.{Block, Lacking, Refused}
use Rattle.type_book_check.specs.Given.{Given, number, name, given_numbers, is_root_name, numbered_root, found_root, given_root, check_given, at_given}
use Rattle.type_book_check.proofs.Numbers.{zero-valid}
use Rattle.type_book_check.proofs.Checks.{passes, book-length}
use Rattle.type_book_check.proofs.Valid.{valid-book}

-- ---- the numbers tell it

pub given_is : (r a : GivenRoot) → given_numbers r ≡ given_numbers a → r ≡ a
unfolding given_numbers
given_is (Block n) (Block m) e = let q : n ≡ m = cc in ap Block q
given_is (Block n) Lacking e = absurd (let z : ◌≡◌ {A = ℕ} 0 7 = cc in omega arith)
given_is (Block n) (Refused m) e = absurd (let z : ◌≡◌ {A = ℕ} 2 1 = ap length e in omega arith)
given_is Lacking (Block m) e = absurd (let z : ◌≡◌ {A = ℕ} 7 0 = cc in omega arith)
given_is Lacking Lacking e = refl
given_is Lacking (Refused m) e = absurd (let z : ◌≡◌ {A = ℕ} 2 1 = ap length e in omega arith)
given_is (Refused n) (Block m) e = absurd (let z : ◌≡◌ {A = ℕ} 1 2 = ap length e in omega arith)
given_is (Refused n) Lacking e = absurd (let z : ◌≡◌ {A = ℕ} 1 2 = ap length e in omega arith)
given_is (Refused n) (Refused m) e = let q : n ≡ m = cc in ap Refused q

pub given-says : (r a : GivenRoot) → r ≡ a → given_numbers r ≡ given_numbers a
given-says r a e = ap given_numbers e

-- ---- a name in a book

module _ (book bytes : List ℕ) (t : Bool) (e : t ≡ is_root_name bytes) where
  pub named_unformed : not t ≡ true → Refused 23 ≡ given_root book (name bytes)
  unfolding given_root
  named_unformed h = rw (← e, not-true t h)

  module _ (h : not t ≡ false) (f : Option ℕ) (q : f ≡ find book bytes) where
    pub named-found : (n : ℕ) → f ≡ Some n → Block n ≡ given_root book (name bytes)
    unfolding given_root found_root
    named-found n o = rw (← e, not-false t h, ← q, o)

    pub named-lacks : f ≡ None → Lacking ≡ given_root book (name bytes)
    unfolding given_root found_root
    named-lacks o = rw (← e, not-false t h, ← q, o)

-- ---- the book before the root

module _ (buffer : List ℕ) (len : ℕ) (c : BookCheck) (e : c ≡ check_book buffer len) (k : ℕ) (q : k ≡ refusal_of (book_numbers c)) where
  pub given-refused : (root : Given) → (k ≡ 0 → ⊥) → Refused k ≡ check_given buffer len root
  unfolding check_given
  given-refused root h = rw (← e, ← q, ne_eqb k 0 h)

  module _ (z : k ≡ 0) where
    pub given-answer : (root : Given) (r : GivenRoot) → r ≡ given_root (take len buffer) root → r ≡ check_given buffer len root
    unfolding check_given
    given-answer root r o = rw (← e, ← q, eq-eqb k 0 z) o

    pub given-cut : len ≡ length (take len buffer)
    given-cut = sym (book-length buffer len (passes buffer len (sym e ∙ zero-valid c (sym q ∙ z))).size)

-- ---- what a call with a root answers

module _ {A : Type 0} (refuse : ℕ → A) (lacking : A) (go : ℕ → A) (k : GivenRoot) {c : GivenRoot} (e : k ≡ c) where
  pub given-at-refused : (n : ℕ) → k ≡ Refused n → refuse n ≡ at_given refuse lacking go c
  unfolding at_given
  given-at-refused n h = rw (← e, h)

  pub given-at-lacking : k ≡ Lacking → lacking ≡ at_given refuse lacking go c
  unfolding at_given
  given-at-lacking h = rw (← e, h)

  pub given-at-block : (t : ℕ) → k ≡ Block t → go t ≡ at_given refuse lacking go c
  unfolding at_given
  given-at-block t h = rw (← e, h)

-- a root by its number is the instance of a root: what a call answers is what `at_root` gives
pub at-number : {A : Type 0} (refuse : ℕ → A) (lacking : A) (go : ℕ → A) (buffer : List ℕ) (len n : ℕ)
    → at_given refuse lacking go (check_given buffer len (number n)) ≡ at_root refuse go (check_root buffer len n)
unfolding check_given check_root given_root at_given at_root numbered_root
at-number refuse lacking go buffer len n = by (eqb (refusal_of (book_numbers (check_book buffer len))) 0) (root_of (take len buffer) n)
  where
    by : (t : Bool) (r : RootCheck) → at_given refuse lacking go (cond t (numbered_root r) (Refused (refusal_of (book_numbers (check_book buffer len)))))
        ≡ at_root refuse go (cond t r (checked.Refused (refusal_of (book_numbers (check_book buffer len)))))
    by true (checked.Root t) = refl
    by true (checked.Refused m) = refl
    by false r = refl

-- an answer `Block r` to a name: the book lies in its buffer and is valid, and block r is the type that the look-up of the name finds
pub record Rooted (buffer : List ℕ) (len : ℕ) (bytes : List ℕ) (r : ℕ) : Type 0 where
  pub fits : len ≤ length buffer
  pub valid : ValidBook (take len buffer)
  pub found : find (take len buffer) bytes ≡ Some r
  pub kind : is_type (take len buffer) r ≡ true

-- an answer `Lacking`: the book lies in its buffer and is valid, and the look-up of the name finds nothing
pub record Lacked (buffer : List ℕ) (len : ℕ) (bytes : List ℕ) : Type 0 where
  pub fits : len ≤ length buffer
  pub valid : ValidBook (take len buffer)
  pub nothing : find (take len buffer) bytes ≡ None

module _ (buffer : List ℕ) (len : ℕ) (bytes : List ℕ) where
  abbrev refusal : ℕ
  refusal = refusal_of (book_numbers (check_book buffer len))

  found-block : (t : Bool) (f : Option ℕ) (r : ℕ) → cond t (found_root f) (Refused 23) ≡ Block r → f ≡ Some r
  unfolding found_root
  found-block true (Some n) r h = let q : n ≡ r = cc in ap Some q
  found-block true None r h = let z : ◌≡◌ {A = ℕ} 0 1 = cc in absurd (omega arith)
  found-block false f r h = let z : ◌≡◌ {A = ℕ} 0 1 = cc in absurd (omega arith)

  found-lacking : (t : Bool) (f : Option ℕ) → cond t (found_root f) (Refused 23) ≡ Lacking → f ≡ None
  unfolding found_root
  found-lacking true (Some n) h = let z : ◌≡◌ {A = ℕ} 0 1 = cc in absurd (omega arith)
  found-lacking true None h = refl
  found-lacking false f h = let z : ◌≡◌ {A = ℕ} 0 1 = cc in absurd (omega arith)

  pub named-valid : (r : ℕ) → check_given buffer len (name bytes) ≡ Block r → Rooted buffer len bytes r
  unfolding check_given given_root
  named-valid r h = by (eqb refusal 0) refl h
    where
      by : (t : Bool) → eqb refusal 0 ≡ t → cond t (cond (is_root_name bytes) (found_root (find (take len buffer) bytes)) (Refused 23)) (Refused refusal) ≡ Block r → Rooted buffer len bytes r
      by true e g =
          let o : find (take len buffer) bytes ≡ Some r = found-block (is_root_name bytes) _ r g in
          record {
            fits = (passes buffer len (zero-valid _ (eqb-true _ _ e))).size.fits;
            valid = valid-book buffer len (zero-valid _ (eqb-true _ _ e));
            found = o;
            kind = named-kind (take len buffer) bytes r (find-named (take len buffer) bytes r o).named;
          }
      by false e g = let z : ◌≡◌ {A = ℕ} 0 1 = cc in absurd (omega arith)

  pub lacking-valid : check_given buffer len (name bytes) ≡ Lacking → Lacked buffer len bytes
  unfolding check_given given_root
  lacking-valid h = by (eqb refusal 0) refl h
    where
      by : (t : Bool) → eqb refusal 0 ≡ t → cond t (cond (is_root_name bytes) (found_root (find (take len buffer) bytes)) (Refused 23)) (Refused refusal) ≡ Lacking → Lacked buffer len bytes
      by true e g =
          record {
            fits = (passes buffer len (zero-valid _ (eqb-true _ _ e))).size.fits;
            valid = valid-book buffer len (zero-valid _ (eqb-true _ _ e));
            nothing = found-lacking (is_root_name bytes) _ g;
          }
      by false e g = let z : ◌≡◌ {A = ℕ} 0 1 = cc in absurd (omega arith)

-- what a call with a root by its name knows once the check is done
module _ (buffer : List ℕ) (len : ℕ) (bytes : List ℕ) (k : GivenRoot) (e : k ≡ check_given buffer len (name bytes)) where
  module _ (t : ℕ) (h : k ≡ Block t) where
    pub named-room : len ≤ length buffer
    named-room = (named-valid buffer len bytes t (sym e ∙ h)).fits

    pub named-cut : len ≡ length (take len buffer)
    named-cut = sym (length-take-le len buffer named-room)

    pub named-book : ValidBook (take len buffer)
    named-book = (named-valid buffer len bytes t (sym e ∙ h)).valid

    pub named-type : is_type (take len buffer) t ≡ true
    named-type = (named-valid buffer len bytes t (sym e ∙ h)).kind

  module _ (h : k ≡ Lacking) where
    pub lacking-room : len ≤ length buffer
    lacking-room = (lacking-valid buffer len bytes (sym e ∙ h)).fits

    pub lacking-cut : len ≡ length (take len buffer)
    lacking-cut = sym (length-take-le len buffer lacking-room)

    pub lacking-book : ValidBook (take len buffer)
    lacking-book = (lacking-valid buffer len bytes (sym e ∙ h)).valid
