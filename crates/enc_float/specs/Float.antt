-- Reals in memory (IEEE 754, binary32 and binary64). Assumes nothing.
use Rattle.std.specs.Prelude.{◌≡◌, Bool, cond, List, [], ◌∷◌, ℕ, ◌%◌, ◌^◌, length, eqb, pos, negsuc, Float}
use Rattle.std.specs.Float.{nan, inf, fin, binary32, binary64}
use Rattle.std.specs.Float.Ieee.{nan_bits, of_bits, to_bits}
use Rattle.type_id.specs.declared.AdsTypeId.{AdsTypeId}
use Rattle.type_id.specs.declared.AdsTypeId.TheVariants.{Void, Int16, Int32, Real32, Real64, Int8, UInt8, UInt16, UInt32, Int64, UInt64, String, WString, Real80, Bit, MaxTypes, BigType, Unknown}
use Rattle.enc_float.specs.declared.Real.{Real}
use Rattle.enc_float.specs.declared.Real.TheVariants.{Single, Double, NanSingle, NanDouble}
use Rattle.enc_float.specs.declared.RealRead.{RealRead}
use Rattle.enc_float.specs.declared.RealRead.TheVariants as read
use Rattle.enc_float.specs.declared.RealWrite.{RealWrite}
use Rattle.enc_float.specs.declared.RealWrite.TheVariants as write
use Rattle.enc_number.specs.Answer.{truth_number}
use Rattle.enc_number.specs.Le.{le_value, le_bytes}
use Rattle.enc_number.specs.Refusals as refusal

-- the width in bytes of the id of a real, and 0 of every other; the 10 bytes of Real80 are not read
abbrev pub real_width : AdsTypeId → ℕ
real_width Void = 0
real_width Int16 = 0
real_width Int32 = 0
real_width Real32 = 4
real_width Real64 = 8
real_width Int8 = 0
real_width UInt8 = 0
real_width UInt16 = 0
real_width UInt32 = 0
real_width Int64 = 0
real_width UInt64 = 0
real_width String = 0
real_width WString = 0
real_width Real80 = 0
real_width Bit = 0
real_width MaxTypes = 0
real_width BigType = 0
real_width (Unknown n) = 0

-- the real of 4 bytes with the bit pattern n: a NaN keeps its pattern
unfoldable pub single_of : ℕ → Real
single_of n = cond (nan_bits binary32 n) (NanSingle n) (Single (of_bits binary32 n))

-- the real of 8 bytes with the bit pattern n: a NaN keeps its pattern
unfoldable pub double_of : ℕ → Real
double_of n = cond (nan_bits binary64 n) (NanDouble n) (Double (of_bits binary64 n))

-- the real of a bit pattern of 64 bits, or of its low 32
unfoldable pub real_of : Bool → ℕ → Real
real_of is-double n = cond is-double (double_of n) (single_of (n % 2 ^ 32))

-- the bit pattern of a real; `to_bits` gives the NaN of a float the pattern with only the highest digit set
abbrev pub real_bits : Real → ℕ
real_bits (Single x) = to_bits binary32 x
real_bits (Double x) = to_bits binary64 x
real_bits (NanSingle n) = n
real_bits (NanDouble n) = n

-- how many bytes a real fills
abbrev pub real_size : Real → ℕ
real_size (Single x) = 4
real_size (Double x) = 8
real_size (NanSingle n) = 4
real_size (NanDouble n) = 8

-- a float's own parts: a NaN, an infinity by its sign, or sign, digits and exponent; `negsuc k` is −(k + 1)
unfoldable pub float_numbers : Float → List ℕ
float_numbers nan = 0 ∷ []
float_numbers (inf s) = 1 ∷ truth_number s ∷ []
float_numbers (fin s m (pos k)) = 2 ∷ truth_number s ∷ m ∷ k ∷ []
float_numbers (fin s m (negsuc k)) = 3 ∷ truth_number s ∷ m ∷ k ∷ []

-- a real's numbers: 9 for 4 bytes and 10 for 8 (the tape's kinds), its bit pattern, and the parts of a float where one holds it
unfoldable pub real_numbers : Real → List ℕ
real_numbers (Single x) = 9 ∷ to_bits binary32 x ∷ float_numbers x
real_numbers (Double x) = 10 ∷ to_bits binary64 x ∷ float_numbers x
real_numbers (NanSingle n) = 9 ∷ n ∷ []
real_numbers (NanDouble n) = 10 ∷ n ∷ []

-- document 01's number and values of a read's answer
unfoldable pub real_read_numbers : RealRead → List ℕ
real_read_numbers (read.Value v) = 0 ∷ real_numbers v
real_read_numbers read.Size = refusal.wrong_size ∷ []
real_read_numbers read.Unsupported = refusal.unreadable ∷ []

-- document 01's number of a write's answer
unfoldable pub real_write_numbers : RealWrite → List ℕ
real_write_numbers write.Done = 0 ∷ []
real_write_numbers write.Size = refusal.wrong_size ∷ []

-- a read: the id is tested first, then the size
unfoldable pub read_real : AdsTypeId → List ℕ → RealRead
read_real t bs =
    cond (eqb (real_width t) 0) read.Unsupported
    (cond (eqb (length bs) (real_width t)) (read.Value (real_of (eqb (real_width t) 8) (le_value bs))) read.Size)

-- a write's answer
unfoldable pub write_real : Real → List ℕ → RealWrite
write_real v out = cond (eqb (length out) (real_size v)) write.Done write.Size

-- the buffer after a write: the real's bytes, or those there were if the write is refused
unfoldable pub real_after : RealWrite → Real → List ℕ → List ℕ
real_after write.Done v old = le_bytes (real_size v) (real_bits v)
real_after write.Size v old = old

-- a write's answer r and the buffer after it
pub record RealWritten (v : Real) (old : List ℕ) (r : RealWrite) (new : List ℕ) : Type 0 where
  pub answer : real_write_numbers r ≡ real_write_numbers (write_real v old)
  pub buffer : new ≡ real_after (write_real v old) v old
