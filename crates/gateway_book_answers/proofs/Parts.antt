-- A part of a book by its offset and length. Assumes nothing.
use mathlib.Core.Path.{◌≡◌, refl, ap}
use mathlib.Core.List.{List, [], ◌∷◌}
use Prim.Native.Nat.{ℕ, zero, suc, min}
use native.Mathlib.Omega.{arith}
use lib.ListN.{length, take, drop}
use Rattle.gateway_lent_values.specs.Values.{Gives}
use Rattle.gateway_book_answers.specs.Answers.{start_of, PartGiven}

take-taken : (k : ℕ) (b : List ℕ) → take (length (take k b)) b ≡ take k b
take-taken zero b = refl
take-taken (suc k) [] = refl
take-taken (suc k) (x ∷ b) = ap {B = List ℕ} (λ w. x ∷ w) (take-taken k b)

part-from : (s k : ℕ) (b : List ℕ) (p : ℕ) → p ≡ min s (length b) → take (length (take k (drop s b))) (drop p b) ≡ take k (drop s b)
part-from zero k b p e = let z : p ≡ 0 = omega arith in rw z (take-taken k b)
part-from (suc s) zero [] p e = refl
part-from (suc s) (suc k) [] p e = refl
part-from (suc s) k (x ∷ b) zero e = absurd (omega arith)
part-from (suc s) k (x ∷ b) (suc p) e = part-from s k b p (omega arith)

pub part-given : (book : List ℕ) (start k p : ℕ) {part before after : List ℕ} {r : ℕ} → part ≡ take k (drop start book) → p ≡ start_of book start
    → Gives (0 ∷ p ∷ length part ∷ []) before r after → PartGiven book (take k (drop start book)) start before r after
part-given book start k p n q g = record { gives = rw (← n, ← q) g; is = part-from start k book (start_of book start) refl }
