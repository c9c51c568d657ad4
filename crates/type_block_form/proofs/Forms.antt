-- What the form of one block tells, for the crates above. Assumes nothing.
use mathlib.Core.Path.{◌≡◌}
use mathlib.Core.Bool.{Bool, true, false, cond}
use mathlib.Core.List.{List}
use Prim.Native.Nat.{ℕ, ◌≤◌, ◌<◌}
use native.Mathlib.Omega.{arith}
use lib.ListN.{length}
use lib.Dec.{eqb, ltb}
use borrow.Author.Tests.{leb-true, ltb-true}
use Rattle.type_block_form.specs.Form.{unused_zero, flags_form}
use Rattle.type_block_form.proofs.Bytes.{and_left}

pub unused-room : (used : ℕ) (part : List ℕ) → unused_zero used part ≡ true → used ≤ length part
unfolding unused_zero
unused-room used part e = leb-true used (length part) (and_left _ _ e)

pub flags-below : (flags id : ℕ) → flags_form flags id ≡ true → flags < 64
unfolding flags_form
flags-below flags id h = by (eqb id 30) h
  where
    by : (t : Bool) → cond t (ltb flags 64) (ltb flags 32) ≡ true → flags < 64
    by true q = ltb-true flags 64 q
    by false q = let z = ltb-true flags 32 q in omega arith
