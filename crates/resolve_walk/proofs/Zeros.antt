-- What is lent to a walk: long enough once 6 is past, and a scratch that is cleared before the walk and after it. Assumes nothing.
use mathlib.Core.Path.{◌≡◌, sym, ap, ◌∙◌}
use mathlib.Core.Bool.{Bool, false, not}
use mathlib.Core.List.{List}
use Prim.Native.Nat.{ℕ, ◌≤◌}
use native.Mathlib.Omega.{arith}
use lib.ListN.{length, replicate, length-replicate}
use borrow.Author.Tests.{leb-true, not-false}
use Rattle.resolve_walk.specs.Scratch.{scratch_fits, list_fits}

-- ---- 6

module _ (g : Bool) (h : not g ≡ false) where
  -- the scratch has room for the stack and the bits
  pub scratch-room : (sc : List ℕ) → g ≡ scratch_fits sc → 8192 ≤ length sc
  scratch-room sc e = let p = leb-true 8192 (length sc) (sym e ∙ not-false g h) in omega arith

  -- the list has room for every name
  pub list-room : (list : List ℕ) → g ≡ list_fits list → 4096 ≤ length list
  list-room list e = leb-true 4096 (length list) (sym e ∙ not-false g h)

-- ---- cleared

-- sc₁ is sc, cleared: it is zeros, and as long
pub zeros : (sc sc₁ : List ℕ) → sc₁ ≡ replicate (length sc) 0 → sc₁ ≡ replicate (length sc₁) 0
zeros sc sc₁ z = z ∙ ap (λ (n : ℕ). replicate n 0) (sym (ap length z ∙ length-replicate (length sc) 0))

pub zeros-room : (sc sc₁ : List ℕ) → sc₁ ≡ replicate (length sc) 0 → 8192 ≤ length sc → 8192 ≤ length sc₁
zeros-room sc sc₁ z h = let e = ap length z ∙ length-replicate (length sc) 0 in omega arith

-- sc₃ is cleared after a walk over sc₁
pub zeros-again : (sc sc₁ : List ℕ) → sc₁ ≡ replicate (length sc) 0 → (sc₂ : List ℕ) → length sc₂ ≡ length sc₁ → {sc₃ : List ℕ} → sc₃ ≡ replicate (length sc₂) 0 → sc₃ ≡ replicate (length sc) 0
zeros-again sc sc₁ z sc₂ e y = y ∙ ap (λ (n : ℕ). replicate n 0) (e ∙ ap length z ∙ length-replicate (length sc) 0)
