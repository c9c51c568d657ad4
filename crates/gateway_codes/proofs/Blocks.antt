-- The number of a look-up's answer, by document 01's numbers of it. Assumes nothing.
use Rattle.std.specs.Prelude.{Option, Some, None}
use mathlib.Core.Path.{◌≡◌, refl}
use Prim.Native.Nat.{ℕ}
use Rattle.type_provider.specs.Find.{found_numbers}
use Rattle.gateway_codes.specs.Numbers.{found_number}

pub found_at : (f : Option ℕ) (n : ℕ) → f ≡ Some n → n ≡ found_number (found_numbers f)
unfolding found_numbers
found_at f n h = rw h

pub found_nothing : (f : Option ℕ) → f ≡ None → 0xffff_ffff ≡ found_number (found_numbers f)
unfolding found_numbers
found_nothing f h = rw h
