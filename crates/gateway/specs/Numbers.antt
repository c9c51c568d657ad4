-- The answers of the calls below as numbers. Assumes nothing.
use Rattle.std.specs.Prelude.{◌≡◌, cond, List, ℕ, ◌+◌, length, Option}
use Rattle.enc_utf_8.specs.Buffer.{splice, fits_in}
use Rattle.type_index.specs.Index.{FoundBy}
use Rattle.type_provider.specs.Find.{found_numbers}
use Rattle.gateway_codes.specs.Numbers.{found_number}

-- `xs` written into `out` from `at` on, or the buffer as it was where it does not fit
pub record WroteAs (xs out : List ℕ) (at r : ℕ) (out' : List ℕ) : Type 0 where
  pub answer : r ≡ cond (fits_in xs at (length out)) (at + length xs) 0xffff_ffff_ffff_ffff
  pub buffer : out' ≡ cond (fits_in xs at (length out)) (splice out at xs) out

-- what a look-up by an index answers, by its numbers
pub record FoundAs (book name : List ℕ) (r : ℕ) : Type 0 where
  pub found : Option ℕ
  pub by : FoundBy book name found
  pub number : r ≡ found_number (found_numbers found)
