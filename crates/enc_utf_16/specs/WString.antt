-- Where the text of a WSTRING ends (document 01). Assumes nothing.
use Rattle.std.specs.Prelude.{cond, ◌&&◌, List, [], ◌∷◌, ℕ, ◌+◌, eqb}
use Rattle.enc_utf_8.specs.declared.TextEnd.{TextEnd}
use Rattle.enc_utf_8.specs.declared.TextEnd.TheVariants.{Terminated, Unterminated}

-- the end, with n bytes before: the first zero pair of the pairs that follow, else all, an odd byte included
unfoldable pub end16_from : ℕ → List ℕ → TextEnd
end16_from n [] = Unterminated n
end16_from n (x ∷ []) = Unterminated (n + 1)
end16_from n (x ∷ y ∷ xs) = cond (eqb x 0 && eqb y 0) (Terminated n) (end16_from (n + 2) xs)

-- the first aligned zero pair, at byte 0, 2, 4 and so on, else all
abbrev pub wstring_end : List ℕ → TextEnd
wstring_end bytes = end16_from 0 bytes
