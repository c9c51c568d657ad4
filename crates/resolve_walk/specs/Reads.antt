-- What is read in a walk. Assumes nothing.
use Rattle.std.specs.Prelude.{Bool, true, false, List, [], ◌∷◌, ℕ, length}
use Rattle.resolvers.specs.declared.Resolved.TheVariants.{Base, NotFound, TooLong}
use Rattle.resolve_walk.specs.Walk.{Walk, over, full, met}

-- the names met, the one too many included
unfoldable pub names : Walk → List (List ℕ)
names over = []
names (full b x) = x ∷ []
names (met b x f w) = x ∷ names w

-- the number of distinct names met
abbrev pub count : Walk → ℕ
count w = length (names w)

-- the missing list: the blocks whose type names the book lacks, in the order found
unfoldable pub listed : Walk → List ℕ
listed over = []
listed (full b x) = []
listed (met b x (Base t) w) = listed w
listed (met b x (NotFound c) w) = c ∷ listed w
listed (met b x TooLong w) = listed w

-- the mark "whole" (document 01's term): no chain was too long, and no name was one too many
unfoldable pub whole : Walk → Bool
whole over = true
whole (full b x) = false
whole (met b x (Base t) w) = whole w
whole (met b x (NotFound c) w) = whole w
whole (met b x TooLong w) = false
