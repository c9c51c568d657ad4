-- What a call with a root answers: one law for each way that the check of a root can go. Assumes nothing.
use mathlib.Core.Path.{◌≡◌, refl}
use Prim.Native.Nat.{ℕ}
use Rattle.type_book_check.specs.declared.RootCheck.{RootCheck}
use Rattle.type_book_check.specs.declared.RootCheck.TheVariants.{Root, Refused}
use Rattle.type_book_check.specs.Check.{at_root}

module _ {A : Type 0} (refuse go : ℕ → A) (k : RootCheck) {c : RootCheck} (e : k ≡ c) where
  pub at-refused : (n : ℕ) → k ≡ Refused n → refuse n ≡ at_root refuse go c
  unfolding at_root
  at-refused n h = rw (← e, h)

  pub at_block : (t : ℕ) → k ≡ Root t → go t ≡ at_root refuse go c
  unfolding at_root
  at_block t h = rw (← e, h)

-- what holds of each refusal and each root block that the check can give holds of the answer
pub at_each : {A : Type 0} (P : A → Type 0) (refuse go : ℕ → A) (k : RootCheck)
    → ((n : ℕ) → k ≡ Refused n → P (refuse n)) → ((t : ℕ) → k ≡ Root t → P (go t)) → P (at_root refuse go k)
unfolding at_root
at_each P refuse go (Root t) r g = g t refl
at_each P refuse go (Refused n) r g = r n refl
