-- ASCII: the bytes 00h to 7Fh, and the blocks that a text is looked through by. Assumes nothing.
use Rattle.std.specs.Prelude.{Bool, true, false, cond, List, [], ◌∷◌, ℕ, ◌+◌, ◌-◌, ltb}

-- no byte is above 7Fh
unfoldable pub is_ascii : List ℕ → Bool
is_ascii [] = true
is_ascii (b ∷ bs) = cond (ltb b 0x80) (is_ascii bs) false

-- the end of the block that starts at a place, in `len` bytes: 64 bytes on, or all where there are fewer
abbrev pub block_end : ℕ → ℕ → ℕ
block_end at len = cond (ltb (len - at) 64) len (at + 64)
