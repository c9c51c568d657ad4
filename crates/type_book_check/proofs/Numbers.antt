-- The numbers of a book's and of a root's check tell it. Assumes nothing.
use mathlib.Core.Path.{◌≡◌, refl, sym, ap}
use Prim.Native.Nat.{ℕ}
use native.Mathlib.Omega.{arith}
use lib.ListN.{length}
use Rattle.enc_number.specs.Answer.{refusal_of}
use Rattle.type_book_check.specs.Check.{book_numbers, root_numbers}
use Rattle.type_book_check.specs.declared.BookCheck.{BookCheck}
use Rattle.type_book_check.specs.declared.BookCheck.TheVariants.{Valid, Size, Sum, Form, Doubled}
use Rattle.type_book_check.specs.declared.RootCheck.{RootCheck}
use Rattle.type_book_check.specs.declared.RootCheck.TheVariants.{Root, Refused}

-- 0 is the number of a valid book alone
pub zero-valid : (c : BookCheck) → refusal_of (book_numbers c) ≡ 0 → c ≡ Valid
unfolding book_numbers
zero-valid Valid e = refl
zero-valid Size e = absurd (omega arith)
zero-valid Sum e = absurd (omega arith)
zero-valid Form e = absurd (omega arith)
zero-valid Doubled e = absurd (omega arith)

-- checks of the same number are the same
pub book-is : (r a : BookCheck) → book_numbers r ≡ book_numbers a → r ≡ a
unfolding book_numbers
book-is Valid a e = sym (zero-valid a (sym (ap refusal_of e)))
book-is Size Valid e = absurd (let z : ◌≡◌ {A = ℕ} 1 0 = cc in omega arith)
book-is Size Size e = refl
book-is Size Sum e = absurd (let z : ◌≡◌ {A = ℕ} 1 2 = cc in omega arith)
book-is Size Form e = absurd (let z : ◌≡◌ {A = ℕ} 1 3 = cc in omega arith)
book-is Size Doubled e = absurd (let z : ◌≡◌ {A = ℕ} 1 4 = cc in omega arith)
book-is Sum Valid e = absurd (let z : ◌≡◌ {A = ℕ} 2 0 = cc in omega arith)
book-is Sum Size e = absurd (let z : ◌≡◌ {A = ℕ} 2 1 = cc in omega arith)
book-is Sum Sum e = refl
book-is Sum Form e = absurd (let z : ◌≡◌ {A = ℕ} 2 3 = cc in omega arith)
book-is Sum Doubled e = absurd (let z : ◌≡◌ {A = ℕ} 2 4 = cc in omega arith)
book-is Form Valid e = absurd (let z : ◌≡◌ {A = ℕ} 3 0 = cc in omega arith)
book-is Form Size e = absurd (let z : ◌≡◌ {A = ℕ} 3 1 = cc in omega arith)
book-is Form Sum e = absurd (let z : ◌≡◌ {A = ℕ} 3 2 = cc in omega arith)
book-is Form Form e = refl
book-is Form Doubled e = absurd (let z : ◌≡◌ {A = ℕ} 3 4 = cc in omega arith)
book-is Doubled Valid e = absurd (let z : ◌≡◌ {A = ℕ} 4 0 = cc in omega arith)
book-is Doubled Size e = absurd (let z : ◌≡◌ {A = ℕ} 4 1 = cc in omega arith)
book-is Doubled Sum e = absurd (let z : ◌≡◌ {A = ℕ} 4 2 = cc in omega arith)
book-is Doubled Form e = absurd (let z : ◌≡◌ {A = ℕ} 4 3 = cc in omega arith)
book-is Doubled Doubled e = refl

-- the same check has the same number
pub book-says : (r a : BookCheck) → r ≡ a → book_numbers r ≡ book_numbers a
book-says r a e = ap book_numbers e

-- roots' checks of the same numbers are the same
pub root_is : (r a : RootCheck) → root_numbers r ≡ root_numbers a → r ≡ a
unfolding root_numbers
root_is (Root n) (Root m) e = let q : n ≡ m = cc in ap Root q
root_is (Root n) (Refused m) e = absurd (let z : ◌≡◌ {A = ℕ} 2 1 = ap length e in omega arith)
root_is (Refused n) (Root m) e = absurd (let z : ◌≡◌ {A = ℕ} 1 2 = ap length e in omega arith)
root_is (Refused n) (Refused m) e = let q : n ≡ m = cc in ap Refused q

-- the same check has the same numbers
pub root-says : (r a : RootCheck) → r ≡ a → root_numbers r ≡ root_numbers a
root-says r a e = ap root_numbers e

-- the number of a valid book
pub valid-number : (c : BookCheck) → c ≡ Valid → 0 ≡ refusal_of (book_numbers c)
unfolding book_numbers
valid-number c e = rw e
