-- The numbers of a leaf's answer tell it: they give the answer back. Assumes nothing.
use mathlib.Core.Path.{◌≡◌, refl, sym, ap, ◌∙◌}
use mathlib.Core.Bool.{true, false, cond}
use mathlib.Core.List.{List, [], ◌∷◌}
use Prim.Native.Nat.{ℕ}
use lib.ListN.{get_or}
use lib.Dec.{eqb}
use Rattle.enc_integer.proofs.Numbers.{signed-numbers, unsigned-numbers}
use Rattle.enc_float.proofs.Numbers.{real_from, real_from_lem, single-numbers, double-numbers, nan-single-numbers, nan-double-numbers}
use Rattle.enc_float.specs.declared.Real.TheVariants as real
use Rattle.enc_utf_8.specs.declared.TextEnd.TheVariants.{Terminated, Unterminated}
use Rattle.enc_text_decoder.specs.declared.Decoder.TheVariants as decoder
use Rattle.de_leaves.specs.declared.leaf.LeafValue.{LeafValue}
use Rattle.de_leaves.specs.declared.leaf.LeafValue.TheVariants as leaf
use Rattle.de_leaves.specs.Leaf.{leaf_numbers, real_leaf}

-- the answer of some numbers, by the tape's kind
answer_of : List ℕ → LeafValue
answer_of [] = leaf.Unit
answer_of (n ∷ []) = leaf.Refused n
answer_of (z ∷ k ∷ rest) =
    cond (eqb k 6) (leaf.Bool (eqb (get_or rest 0 0) 1))
    (cond (eqb k 7) (leaf.Signed (get_or rest 0 0) (get_or rest 1 0))
    (cond (eqb k 8) (leaf.Unsigned (get_or rest 0 0) (get_or rest 1 0))
    (cond (eqb k 9) (real_leaf (real_from (k ∷ rest)))
    (cond (eqb k 10) (real_leaf (real_from (k ∷ rest)))
    (cond (eqb k 11) (leaf.Text (cond (eqb (get_or rest 0 0) 30) decoder.Windows1252 (cond (eqb (get_or rest 0 0) 31) decoder.Utf16 decoder.Utf8)) (cond (eqb (get_or rest 1 0) 1) (Terminated (get_or rest 2 0)) (Unterminated (get_or rest 2 0))))
    (cond (eqb k 12) (leaf.Entry (get_or rest 0 0)) leaf.Unit))))))

back : (v : LeafValue) → answer_of (leaf_numbers v) ≡ v
unfolding answer_of leaf_numbers
back (leaf.Signed w b) = rw (signed-numbers w b)
back (leaf.Unsigned w n) = rw (unsigned-numbers w n)
back (leaf.Bool true) = refl
back (leaf.Bool false) = refl
back (leaf.Single x) = rw (single-numbers x, ← single-numbers x, real_from_lem (real.Single x))
back (leaf.Double x) = rw (double-numbers x, ← double-numbers x, real_from_lem (real.Double x))
back (leaf.NanSingle n) = rw (nan-single-numbers n, ← nan-single-numbers n, real_from_lem (real.NanSingle n))
back (leaf.NanDouble n) = rw (nan-double-numbers n, ← nan-double-numbers n, real_from_lem (real.NanDouble n))
back (leaf.Text decoder.Windows1252 (Terminated n)) = refl
back (leaf.Text decoder.Windows1252 (Unterminated n)) = refl
back (leaf.Text decoder.Utf16 (Terminated n)) = refl
back (leaf.Text decoder.Utf16 (Unterminated n)) = refl
back (leaf.Text decoder.Utf8 (Terminated n)) = refl
back (leaf.Text decoder.Utf8 (Unterminated n)) = refl
back (leaf.Entry n) = refl
back leaf.Unit = refl
back (leaf.Refused n) = refl

-- answers of the same numbers are the same
pub leaf-is : (r a : LeafValue) → leaf_numbers r ≡ leaf_numbers a → r ≡ a
leaf-is r a e = sym (back r) ∙ ap answer_of e ∙ back a

-- the same answer has the same numbers
pub leaf-says : (r a : LeafValue) → r ≡ a → leaf_numbers r ≡ leaf_numbers a
leaf-says r a e = ap leaf_numbers e
