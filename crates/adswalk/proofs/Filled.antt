-- The length of an array that is filled with one value, without counting it out. Assumes nothing.
use Rattle.std.proofs.Common.{◌≡◌, ℕ, length, replicate, sym}
use lib.ListN.{length-replicate}

pub filled : (n a : ℕ) → n ≡ length (replicate {A = ℕ} n a)
filled n a = sym (length-replicate n a)
