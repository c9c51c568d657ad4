-- The scalar value at a place of a UTF-8 text, at each exit of `scalar_8`. Assumes nothing.
use mathlib.Core.Path.{◌≡◌, refl}
use mathlib.Core.List.{List, []}
use Prim.Native.Nat.{ℕ, ◌+◌, ◌<◌}
use native.Mathlib.Omega.{arith}
use lib.ListN.{length, get_or}
use Rattle.enc_utf_8.specs.declared.Char.{Char}
use Rattle.enc_utf_8.specs.declared.Char.TheVariants.{Code, Error, End}
use Rattle.enc_utf_8.specs.Utf8.{scalars, next_at}
use Rattle.enc_utf_8.proofs.Decodes.{next-end, next_one}
use Rattle.enc_utf_8.proofs.Items.{next-code, next-error, next-none, scalars-code, scalars-error, scalars-none}
use Rattle.enc_utf_16.specs.Step.{ScalarAtIn}

pub no-scalars : scalars [] ≡ []
no-scalars = scalars-none [] 0 End (next-end [] 0 (omega arith)) refl

module _ (text : List ℕ) (at : ℕ) (r : Char) (e : r ≡ next_at text at) where
  pub scalar-code : (c next : ℕ) → r ≡ Code c next → ScalarAtIn scalars text at c next
  scalar-code c next q =
      let b = next-code text at r e c next q in
      record { is = scalars-code text at r e c next q; later = b.past; within = b.within }

  pub scalar-error : (next : ℕ) → r ≡ Error next → ScalarAtIn scalars text at 0xfffd next
  scalar-error next q =
      let b = next-error text at r e next q in
      record { is = scalars-error text at r e next q; later = b.past; within = b.within }

  -- a place before the end is not the end
  pub scalar-end : at < length text → r ≡ End → (code next : ℕ) → ScalarAtIn scalars text at code next
  scalar-end a q code next = absurd (omega (arith, (next-none text at r e q).past))

-- an ASCII byte is its own scalar value
pub scalar-ascii : (text : List ℕ) (at : ℕ) → at < length text → get_or text at 0 < 0x80 → ScalarAtIn scalars text at (get_or text at 0) (at + 1)
scalar-ascii text at h l = scalar-code text at (Code (get_or text at 0) (at + 1)) (next_one text at h l) (get_or text at 0) (at + 1) refl
