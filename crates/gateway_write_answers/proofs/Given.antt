-- Every refusal of a write has one of the numbers that the papers have for it, for a root however it is given. Assumes nothing.
use Rattle.std.specs.Prelude.{Option, Some, None}
use mathlib.Core.Path.{◌≡◌, refl}
use mathlib.Core.Bool.{Bool, true, false, cond}
use mathlib.Core.List.{List, [], ◌∷◌, ◌++◌}
use Prim.Native.Nat.{ℕ}
use native.Mathlib.Omega.{arith}
use lib.ListN.{length, take}
use lib.Dec.{eqb}
use Rattle.enc_number.specs.Answer.{refusal_of}
use Rattle.type_provider.specs.Find.{find}
use Rattle.type_book_check.specs.Check.{check_book, book_numbers}
use Rattle.type_book_check.specs.declared.BookCheck.{BookCheck}
use Rattle.type_book_check.specs.declared.BookCheck.TheVariants.{Valid, Size, Sum, Form, Doubled}
use Rattle.type_book_check.specs.declared.GivenRoot.TheVariants.{Refused}
use Rattle.type_book_check.specs.Given.{Given, number, name, lacking_root, is_root_name, found_root, given_root, check_given, at_given}
use Rattle.type_book_check.proofs.Givens.{at-number}
use Rattle.tape_form.specs.Form.{formed}
use Rattle.ser.specs.Write.{write_ctx, Outcome, refused}
use Rattle.ser.specs.Call.{lacking_write, book_write, write_call, given_write, write_numbers}
use Rattle.gateway_write_answers.specs.Answers.{among, refusals, Numbered}
use Rattle.gateway_write_answers.specs.Given.{GivenNumbered}
use Rattle.gateway_write_answers.proofs.Told.{call_numbered, book-numbered}

different : {X : Type 0} → ◌≡◌ {A = ℕ} 0 1 → X
different z = absurd (omega arith)

-- one of some numbers is one of more
among_more : (n : ℕ) (xs ys : List ℕ) → among n xs ≡ true → among n (xs ++ ys) ≡ true
unfolding among
among_more n [] ys h = different cc
among_more n (x ∷ xs) ys h = by (eqb n x) (among_more n xs ys) h
  where
    by : (b : Bool) → (among n xs ≡ true → among n (xs ++ ys) ≡ true) → cond b true (among n xs) ≡ true → cond b true (among n (xs ++ ys)) ≡ true
    by true f q = refl
    by false f q = f q

with_more : (o : Outcome) → Numbered o → GivenNumbered o
with_more o p = record { nought = p.nought; told = λ e. among_more _ refusals _ (p.told e) }

-- ---- refusals, number by number

module _ (image : List ℕ) where
  refused_1 : GivenNumbered (refused 1 0 image)
  unfolding write_numbers among
  refused_1 = record { nought = λ e. different cc; told = λ e. refl }

  refused_2 : GivenNumbered (refused 2 0 image)
  unfolding write_numbers among
  refused_2 = record { nought = λ e. different cc; told = λ e. refl }

  refused_3 : GivenNumbered (refused 3 0 image)
  unfolding write_numbers among
  refused_3 = record { nought = λ e. different cc; told = λ e. refl }

  refused_4 : GivenNumbered (refused 4 0 image)
  unfolding write_numbers among
  refused_4 = record { nought = λ e. different cc; told = λ e. refl }

  refused_7 : GivenNumbered (refused 7 lacking_root image)
  unfolding write_numbers among
  refused_7 = record { nought = λ e. different cc; told = λ e. refl }

  refused_10 : GivenNumbered (refused 10 0 image)
  unfolding write_numbers among
  refused_10 = record { nought = λ e. different cc; told = λ e. refl }

  refused_16 : GivenNumbered (refused 16 0 image)
  unfolding write_numbers among
  refused_16 = record { nought = λ e. different cc; told = λ e. refl }

  refused_23 : GivenNumbered (refused 23 0 image)
  unfolding write_numbers among
  refused_23 = record { nought = λ e. different cc; told = λ e. refl }

  lacking_by : (x y : Bool) → GivenNumbered (cond x (cond y (refused 7 lacking_root image) (refused 16 0 image)) (refused 10 0 image))
  lacking_by true true = refused_7
  lacking_by true false = refused_16
  lacking_by false y = refused_10

  -- a root by its name: what the check of the book, the name's form and the look-up come to
  name_by : (book : List ℕ) (width room : ℕ) (tape text : List ℕ) (k : BookCheck) (t : Bool) (f : Option ℕ)
      → GivenNumbered (at_given (λ n. refused n 0 image) (lacking_write book tape text room image) (λ n. book_write (write_ctx book width tape text) n room image)
      (cond (eqb (refusal_of (book_numbers k)) 0) (cond t (found_root f) (Refused 23)) (Refused (refusal_of (book_numbers k)))))
  unfolding at_given lacking_write book_numbers found_root
  name_by book width room tape text Valid true (Some n) = with_more _ (book-numbered book width tape text n room image)
  name_by book width room tape text Valid true None = lacking_by (eqb room (length image)) (formed book tape text)
  name_by book width room tape text Valid false f = refused_23
  name_by book width room tape text Size t f = refused_1
  name_by book width room tape text Sum t f = refused_2
  name_by book width room tape text Form t f = refused_3
  name_by book width room tape text Doubled t f = refused_4

-- a write for a root by its number is the instance
number_write : (buffer : List ℕ) (len width n : ℕ) (image : List ℕ) (room : ℕ) (tape text : List ℕ)
    → given_write buffer len width (number n) image room tape text ≡ write_call buffer len width n image room tape text
unfolding given_write write_call
number_write buffer len width n image room tape text = at-number _ _ _ buffer len n

-- of any call, for a root however it is given
pub given_numbered : (buffer : List ℕ) (len width : ℕ) (root : Given) (image : List ℕ) (room : ℕ) (tape text : List ℕ)
    → GivenNumbered (given_write buffer len width root image room tape text)
unfolding given_write check_given given_root
given_numbered buffer len width (number n) image room tape text =
    rw (number_write buffer len width n image room tape text) (with_more _ (call_numbered buffer len width n image room tape text))
given_numbered buffer len width (name bytes) image room tape text =
    name_by image (take len buffer) width room tape text (check_book buffer len) (is_root_name bytes) (find (take len buffer) bytes)
