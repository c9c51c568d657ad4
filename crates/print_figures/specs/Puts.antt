-- Bytes that are put into a buffer one after the other, and what the whole leaves. Assumes nothing.
use Rattle.std.specs.Prelude.{◌≡◌, cond, List, ◌++◌, ℕ, ◌+◌, ◌-◌, length, take, drop, replicate, leb, Option, Some, None}
use Rattle.enc_utf_8.specs.Buffer.{splice, fits_in}

-- the place after `xs`, from a place on in a buffer of `room` bytes; or that they do not fit, now or before
unfoldable pub laid_after : Option ℕ → List ℕ → ℕ → Option ℕ
laid_after (Some at) xs room = cond (fits_in xs at room) (Some (at + length xs)) None
laid_after None xs room = None

-- what the buffer holds then: `xs` laid over it, as many of them as there is room for; where an earlier byte did not fit, nothing more
unfoldable pub over : Option ℕ → List ℕ → List ℕ → List ℕ
over (Some at) xs out = splice out at (take (length out - at) xs)
over None xs out = out

-- what a function that puts `xs` promises
pub record Puts (xs out : List ℕ) (p r : Option ℕ) (out' : List ℕ) : Type 0 where
  pub answer : r ≡ laid_after p xs (length out)
  pub buffer : out' ≡ over p xs out

-- what is left to do after the last byte: where not all fit, the buffer becomes zeros
pub record ClearedEnd (p : Option ℕ) (out : List ℕ) (r : Option ℕ) (out' : List ℕ) : Type 0 where
  pub answer : r ≡ p
  pub on : (n : ℕ) → p ≡ Some n → out' ≡ out
  pub off : p ≡ None → out' ≡ replicate (length out) 0

-- what a call that prints `xs` promises: where they fit, their number, and `xs` at the start of a buffer that else is as it was; else `Full` and zeros
pub record Printed (xs out : List ℕ) (r : Option ℕ) (out' : List ℕ) : Type 0 where
  pub answer : r ≡ cond (leb (length xs) (length out)) (Some (length xs)) None
  pub buffer : out' ≡ cond (leb (length xs) (length out)) (xs ++ drop (length xs) out) (replicate (length out) 0)
