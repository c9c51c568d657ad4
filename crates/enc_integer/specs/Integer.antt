-- Integers in memory (IEC 61131-3). A width w counts bytes, so that a number of that width is below 2 ^ (8 * w). Assumes nothing.
use Rattle.std.specs.Prelude.{◌≡◌, Bool, false, cond, List, [], ◌∷◌, ℕ, ◌-◌, ◌*◌, ◌%◌, ◌^◌, length, ltb, eqb, ℤ, pos, negsuc, ◌-ℤ◌}
use Rattle.type_id.specs.declared.AdsTypeId.{AdsTypeId}
use Rattle.enc_integer.specs.declared.Integer.{Integer}
use Rattle.enc_integer.specs.declared.Integer.TheVariants.{Signed, Unsigned}
use Rattle.enc_integer.specs.declared.IntegerRead.{IntegerRead}
use Rattle.enc_integer.specs.declared.IntegerRead.TheVariants as read
use Rattle.enc_integer.specs.declared.IntegerWrite.{IntegerWrite}
use Rattle.enc_integer.specs.declared.IntegerWrite.TheVariants as write
use Rattle.enc_number.specs.Le.{le_value, le_bytes}
use Rattle.enc_number.specs.Refusals as refusal
use Rattle.type_id.specs.TypeId.{id_width, id_signed}

-- an integer's numbers: 7 for a signed and 8 for an unsigned one (the tape's kinds), the width in bytes, the 64 bits that it holds
unfoldable pub integer_numbers : Integer → List ℕ
integer_numbers (Signed w b) = 7 ∷ w ∷ b ∷ []
integer_numbers (Unsigned w n) = 8 ∷ w ∷ n ∷ []

-- document 01's number and values of a read's answer
unfoldable pub integer_read_numbers : IntegerRead → List ℕ
integer_read_numbers (read.Value v) = 0 ∷ integer_numbers v
integer_read_numbers read.Size = refusal.wrong_size ∷ []
integer_read_numbers read.Unsupported = refusal.unreadable ∷ []

-- document 01's number of a write's answer
unfoldable pub integer_write_numbers : IntegerWrite → List ℕ
integer_write_numbers write.Done = 0 ∷ []
integer_write_numbers write.OutOfRange = refusal.out_of_range ∷ []
integer_write_numbers write.Size = refusal.wrong_size ∷ []
integer_write_numbers write.Unsupported = refusal.wrong_type ∷ []

-- two's complement: the integer that a number of w bytes stands for
unfoldable pub twos_complement : ℕ → ℕ → ℤ
twos_complement w n = cond (ltb n (2 ^ (8 * w - 1))) (pos n) (pos n -ℤ pos (2 ^ (8 * w)))

-- the number of w bytes that stands for an integer in two's complement: the integer modulo 2 ^ (8 * w)
unfoldable pub twos_bits : ℕ → ℤ → ℕ
twos_bits w (pos n) = n % 2 ^ (8 * w)
twos_bits w (negsuc n) = 2 ^ (8 * w) - 1 - n % 2 ^ (8 * w)

-- the mathematical value: a signed integer holds its two's complement of 8 bytes
abbrev pub integer_value : Integer → ℤ
integer_value (Signed w b) = twos_complement 8 b
integer_value (Unsigned w n) = pos n

-- the integer that bytes stand for, by the id's width and sign
unfoldable pub bytes_value : AdsTypeId → List ℕ → ℤ
bytes_value t bs = cond (id_signed t) (twos_complement (id_width t) (le_value bs)) (pos (le_value bs))

-- the 64 bits that an integer holds
abbrev pub pattern_of : Integer → ℕ
pattern_of (Signed w b) = b
pattern_of (Unsigned w n) = n

-- the integer that bytes hold, with its width
unfoldable pub integer_of : AdsTypeId → List ℕ → Integer
integer_of t bs =
    cond (id_signed t)
    (Signed (id_width t) (twos_bits 8 (bytes_value t bs)))
    (Unsigned (id_width t) (le_value bs))

-- a read: the id is tested first, then the size
unfoldable pub read_integer : AdsTypeId → List ℕ → IntegerRead
read_integer t bs = cond (eqb (id_width t) 0) read.Unsupported (cond (eqb (length bs) (id_width t)) (read.Value (integer_of t bs)) read.Size)

-- whether a signed integer of w bytes holds the value: from −2 ^ (8 * w - 1) to 2 ^ (8 * w - 1) − 1. `negsuc n` is −(n + 1)
unfoldable pub fits_signed : ℕ → ℤ → Bool
fits_signed w (pos n) = ltb n (2 ^ (8 * w - 1))
fits_signed w (negsuc n) = ltb n (2 ^ (8 * w - 1))

-- whether an unsigned integer of w bytes holds the value: from 0 to 2 ^ (8 * w) − 1
unfoldable pub fits_unsigned : ℕ → ℤ → Bool
fits_unsigned w (pos n) = ltb n (2 ^ (8 * w))
fits_unsigned w (negsuc n) = false

-- whether the value is in the id's range
unfoldable pub fits_id : AdsTypeId → ℤ → Bool
fits_id t z = cond (id_signed t) (fits_signed (id_width t) z) (fits_unsigned (id_width t) z)

-- a write's answer: the id is tested first, then the range, then the size
unfoldable pub write_integer : AdsTypeId → Integer → List ℕ → IntegerWrite
write_integer t v out =
    cond (eqb (id_width t) 0) write.Unsupported
    (cond (fits_id t (integer_value v)) (cond (eqb (length out) (id_width t)) write.Done write.Size) write.OutOfRange)

-- the buffer after a write: the new bytes, or those there were if the write is refused
unfoldable pub integer_after : IntegerWrite → List ℕ → List ℕ → List ℕ
integer_after write.Done new old = new
integer_after write.OutOfRange new old = old
integer_after write.Size new old = old
integer_after write.Unsupported new old = old

-- the bytes of a value in the id's width
unfoldable pub integer_bytes : AdsTypeId → Integer → List ℕ
integer_bytes t v = le_bytes (id_width t) (twos_bits (id_width t) (integer_value v))

-- a write's answer r and the buffer after it
pub record IntegerWritten (t : AdsTypeId) (v : Integer) (old : List ℕ) (r : IntegerWrite) (new : List ℕ) : Type 0 where
  pub answer : integer_write_numbers r ≡ integer_write_numbers (write_integer t v old)
  pub buffer : new ≡ integer_after (write_integer t v old) (integer_bytes t v) old
