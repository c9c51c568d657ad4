-- Bits in a list of numbers, and marks for the names that were met: three bits for each hash of a name.
-- No contract of a public function of the papers cites this. Assumes nothing.
use Rattle.std.specs.Prelude.{◌≡◌, Bool, true, ◌&&◌, List, ℕ, zero, suc, ◌+◌, ◌-◌, ◌*◌, ◌/◌, ◌%◌, ◌^◌, ◌<◌, length, get_or, take, drop, eqb}
use Rattle.std.specs.Int.Bits.{bit_xor}
use Rattle.enc_number.specs.Le.{le_value}

-- ---- the hash of a name

-- both halves of a number, each by a product of its own, in one number
unfoldable pub mixed_of : ℕ → ℕ
mixed_of x = bit_xor (x % 4294967296 * 2654435761) (x / 4294967296 * 2246822519)

-- a number of 64 bits as one of 32
unfoldable pub folded_of : ℕ → ℕ
folded_of x = bit_xor x (x / 4294967296) % 4294967296

-- a hash with the first eight bytes of a part, or with those that there are
unfoldable pub joined_of : ℕ → List ℕ → ℕ
joined_of h part = mixed_of (bit_xor h (le_value (take 8 part)))

-- a hash with k parts of eight bytes, part i of the name the first
unfoldable pub with_parts : List ℕ → ℕ → ℕ → ℕ → ℕ
with_parts name h i zero = h
with_parts name h i (suc k) = with_parts name (joined_of h (drop (8 * i) name)) (i + 1) k

-- the hash of a name, of 32 bits: its length, its whole parts of eight bytes, its last eight bytes
unfoldable pub hash_of : List ℕ → ℕ
hash_of name = folded_of (joined_of (with_parts name (length name) 0 (length name / 8)) (drop (length name - 8) name))

-- ---- bits

-- bit s is set: the marks are numbers of 32 bits, the lowest bit first
unfoldable pub bit_of : List ℕ → ℕ → Bool
bit_of marks s = eqb (get_or marks (s / 32) 0 / 2 ^ (s % 32) % 2) 1

-- bit s is set, and every other is as it was
pub record BitSet (marks : List ℕ) (s : ℕ) (marks' : List ℕ) : Type 0 where
  pub here : bit_of marks' s ≡ true
  pub others : (u : ℕ) → (u ≡ s → ⊥) → bit_of marks' u ≡ bit_of marks u
  pub same : length marks' ≡ length marks

-- ---- three bits for a hash

-- the slot of 20 bits of a hash among the bits of n numbers
unfoldable pub slot_of : ℕ → ℕ → ℕ
slot_of n part = part * n / 32768

-- that slot, which is one of the n numbers' bits
pub record SlotIs (n part r : ℕ) : Type 0 where
  pub is : r ≡ slot_of n part
  pub inside : r / 32 < n

-- the three bits of a hash are set: those of its upper, its middle and its lower 20 bits
unfoldable pub is_marked : List ℕ → ℕ → Bool
is_marked marks h =
    bit_of marks (slot_of (length marks) (h / 4096))
    && (bit_of marks (slot_of (length marks) (h / 64 % 1048576)) && bit_of marks (slot_of (length marks) (h % 1048576)))

-- a hash is marked, and no mark is lost
pub record Marked (marks : List ℕ) (h : ℕ) (marks' : List ℕ) : Type 0 where
  pub here : is_marked marks' h ≡ true
  pub kept : (g : ℕ) → is_marked marks g ≡ true → is_marked marks' g ≡ true
