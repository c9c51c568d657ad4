-- What does not go together. Assumes nothing.
use mathlib.Core.Path.{◌≡◌}
use Prim.Native.Nat.{ℕ}
use native.Mathlib.Omega.{arith}

pub different : {X : Type 0} → ◌≡◌ {A = ℕ} 0 1 → X
different z = absurd (omega arith)
