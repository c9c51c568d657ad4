-- The two calls: one law for each way out. Assumes nothing.
use mathlib.Core.Path.{◌≡◌, refl, sym, ◌∙◌}
use mathlib.Core.Bool.{Bool, true, false, cond, not, ◌&&◌}
use mathlib.Core.List.{List}
use Prim.Native.Nat.{ℕ, ◌/◌, ◌%◌, ◌≤◌}
use native.Mathlib.Omega.{arith}
use borrow.Author.Tests.{eq-eqb, ne_eqb, le-leb, leb-true, eqb-true, not-true, not-false}
use lib.ListN.{length, take}
use lib.Seq.{length-take-le}
use lib.Dec.{eqb, leb}
use Rattle.enc_number.specs.Answer.{refusal_of}
use Rattle.type_book.specs.Book.{blocks}
use Rattle.type_doubles.specs.Doubles.{distinct}
use Rattle.type_book_check.specs.Check.{size_right, sums, all_in_place, scan_of, check_blocks, check_book, book_numbers, root_of, check_root}
use Rattle.type_book_check.specs.declared.BookCheck.{BookCheck}
use Rattle.type_book_check.specs.declared.BookCheck.TheVariants.{Valid, Size, Sum, Form, Doubled}
use Rattle.type_book_check.specs.declared.RootCheck.{RootCheck}
use Rattle.type_book_check.specs.declared.RootCheck.TheVariants.{Refused}
use Rattle.type_book_check.proofs.Numbers.{zero-valid}
use Rattle.type_block_form.proofs.Bytes.{and_left, and_right}

-- ---- refusal 1
-- what 1 leaves
pub record Sized (room len : ℕ) : Type 0 where
  pub fits : len ≤ room
  pub whole : len % 512 ≡ 0
  pub few : len / 512 ≤ 65536

pub sized : (room len : ℕ) → size_right room len ≡ true → Sized room len
unfolding size_right
sized room len h =
    let b : eqb (len % 512) 0 && leb (len / 512) 65536 ≡ true = and_right (leb len room) _ h in
    record {
      fits = leb-true _ _ (and_left (leb len room) _ h);
      whole = eqb-true _ _ (and_left (eqb (len % 512) 0) _ b);
      few = leb-true _ _ (and_right (eqb (len % 512) 0) _ b);
    }

module _ (buffer : List ℕ) (len : ℕ) where
  module _ (z : Sized (length buffer) len) where
    pub book-length : length (take len buffer) ≡ len
    book-length = length-take-le len buffer z.fits

    pub book-blocks : blocks (take len buffer) ≤ 65536
    book-blocks = rw book-length z.few

  module _ (t : Bool) (e : t ≡ size_right (length buffer) len) where
    pub book-size : not t ≡ true → Size ≡ check_book buffer len
    unfolding check_book
    book-size h = rw (← e, not-true t h)

    module _ (h : not t ≡ false) where
      fine : Sized (length buffer) len
      fine = sized _ _ (sym e ∙ not-false t h)

      pub book-cut : len ≡ length (take len buffer)
      book-cut = sym (book-length fine)

      pub book-few : blocks (take len buffer) ≤ 65536
      book-few = book-blocks fine

      module _ (k : BookCheck) (o : k ≡ scan_of (take len buffer)) where
        pub book-refused : (k ≡ Valid → ⊥) → k ≡ check_book buffer len
        unfolding check_book check_blocks scan_of
        book-refused n = rw (← e, not-false t h) (each (sums (take len buffer)) (all_in_place (take len buffer)) o)
          where
            each : (u v : Bool) → k ≡ cond u (cond v Valid Form) Sum → k ≡ cond u (cond v (cond (distinct (take len buffer)) Valid Doubled) Form) Sum
            each true true g = absurd (n g)
            each true false g = g
            each false v g = g

        -- a book whose blocks are right
        named : k ≡ Valid → cond (distinct (take len buffer)) Valid Doubled ≡ check_book buffer len
        unfolding check_book check_blocks scan_of
        named g = rw (← e, not-false t h) (each (sums (take len buffer)) (all_in_place (take len buffer)) (sym o ∙ g))
          where
            each : (u v : Bool) → cond u (cond v Valid Form) Sum ≡ Valid
                → cond (distinct (take len buffer)) Valid Doubled ≡ cond u (cond v (cond (distinct (take len buffer)) Valid Doubled) Form) Sum
            each true true z = refl
            each true false z = cc
            each false v z = cc

        module _ (g : k ≡ Valid) (w : Bool) (q : w ≡ distinct (take len buffer)) where
          pub book_doubled : w ≡ false → Doubled ≡ check_book buffer len
          book_doubled d = rw (← q, d) at (named g)

          pub book-valid : w ≡ true → Valid ≡ check_book buffer len
          book-valid d = rw (← q, d) at (named g)

-- ---- what a valid book passed
passed : (t : Bool) (a b : BookCheck) → (b ≡ Valid → ⊥) → cond t a b ≡ Valid → t ≡ true
passed true a b n e = refl
passed false a b n e = absurd (n e)

then : (t : Bool) (a b : BookCheck) → t ≡ true → cond t a b ≡ Valid → a ≡ Valid
then t a b h e = rw h at e

pub record Passed (room len : ℕ) (book : List ℕ) : Type 0 where
  pub size : Sized room len
  pub sum : sums book ≡ true
  pub place : all_in_place book ≡ true
  pub name : distinct book ≡ true

pub passes : (buffer : List ℕ) (len : ℕ) → check_book buffer len ≡ Valid → Passed (length buffer) len (take len buffer)
unfolding check_book check_blocks
passes buffer len e =
    let book : List ℕ = take len buffer in
    let s : size_right (length buffer) len ≡ true = passed _ _ _ (λ q. let z : ◌≡◌ {A = ℕ} 0 1 = cc in omega arith) e in
    let a : cond (sums book) (cond (all_in_place book) (cond (distinct book) Valid Doubled) Form) Sum ≡ Valid = then _ _ _ s e in
    let u : sums book ≡ true = passed _ _ _ (λ q. let z : ◌≡◌ {A = ℕ} 0 1 = cc in omega arith) a in
    let b : cond (all_in_place book) (cond (distinct book) Valid Doubled) Form ≡ Valid = then _ _ _ u a in
    let v : all_in_place book ≡ true = passed _ _ _ (λ q. let z : ◌≡◌ {A = ℕ} 0 1 = cc in omega arith) b in
    let d : cond (distinct book) Valid Doubled ≡ Valid = then _ _ _ v b in
    record {
      size = sized _ _ s;
      sum = u;
      place = v;
      name = passed _ _ _ (λ q. let z : ◌≡◌ {A = ℕ} 0 1 = cc in omega arith) d;
    }

pub passed-size : (buffer : List ℕ) (len : ℕ) → check_book buffer len ≡ Valid → size_right (length buffer) len ≡ true
unfolding check_book
passed-size buffer len e = passed _ _ _ (λ q. let z : ◌≡◌ {A = ℕ} 0 1 = cc in omega arith) e

pub size_in : (room len : ℕ) → len ≤ room → Sized len len → size_right room len ≡ true
unfolding size_right
size_in room len l z = rw (le-leb len room l, eq-eqb (len % 512) 0 z.whole) (le-leb (len / 512) 65536 z.few)

pub size-again : (room len : ℕ) → size_right room len ≡ true → size_right len len ≡ true
size-again room len h =
    let z : Sized room len = sized room len h in
    size_in len len (omega arith) (record { fits = omega arith; whole = z.whole; few = z.few })

pub passes-again : (buffer : List ℕ) (len : ℕ) → size_right (length buffer) len ≡ true → sums (take len buffer) ≡ true → all_in_place (take len buffer) ≡ true → distinct (take len buffer) ≡ true → check_book buffer len ≡ Valid
unfolding check_book check_blocks
passes-again buffer len z s p d = rw (z, s, p, d)

-- ---- the root
module _ (buffer : List ℕ) (len root : ℕ) (c : BookCheck) (e : c ≡ check_book buffer len) (k : ℕ) (q : k ≡ refusal_of (book_numbers c)) where
  pub root-refused : (k ≡ 0 → ⊥) → Refused k ≡ check_root buffer len root
  unfolding check_root
  root-refused h = rw (← e, ← q, ne_eqb k 0 h)

  module _ (z : k ≡ 0) where
    pub root_answer : (r : RootCheck) → r ≡ root_of (take len buffer) root → r ≡ check_root buffer len root
    unfolding check_root
    root_answer r o = rw (← e, ← q, eq-eqb k 0 z) o

    sizes : Sized (length buffer) len
    sizes = (passes buffer len (sym e ∙ zero-valid c (sym q ∙ z))).size

    pub root-cut : len ≡ length (take len buffer)
    root-cut = sym (book-length buffer len sizes)

    pub root-few : blocks (take len buffer) ≤ 65536
    root-few = book-blocks buffer len sizes
