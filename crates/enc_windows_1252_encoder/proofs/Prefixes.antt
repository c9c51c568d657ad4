-- The exits and the loop of `ascii_prefix`. Assumes nothing.
use mathlib.Core.Path.{◌≡◌, refl, sym, ap, ◌∙◌}
use mathlib.Core.Bool.{Bool, true}
use mathlib.Core.List.{List, []}
use Prim.Native.Nat.{ℕ, zero, suc, ◌+◌, ◌*◌, ◌-◌, ◌/◌, ◌≤◌, ◌<◌, zero-le}
use native.Mathlib.Omega.{arith}
use lib.ListN.{length, get_or, take, drop, length-drop}
use lib.Seq.{take-add, take_all, length-take-le, drop-drop}
use mir.Syntax.{w64}
use mir.Val.{Fits}
use Rattle.std.specs.Simd.{first_chunks}
use Rattle.enc_ascii.specs.Ascii.{is_ascii}
use Rattle.enc_ascii.proofs.Ascii.{ascii-none, ascii_append}
use Rattle.enc_windows_1252_encoder.specs.Step.{AsciiTo}

pub prefix_start : (text : List ℕ) → AsciiTo text 0
prefix_start text = record { within = zero-le; is = ascii-none }

-- block i of a text
block_at : (k i : ℕ) (text : List ℕ) → i < k → get_or (first_chunks 64 k text) i [] ≡ take 64 (drop (64 * i) text)
block_at zero i text h = absurd (omega arith)
block_at (suc k) zero text h = refl
block_at (suc k) (suc i) text h =
    let e : 64 * suc i ≡ 64 + 64 * i = omega arith in
    block_at k i (drop 64 text) (omega arith) ∙ ap (take 64) (drop-drop (64 * i) 64 text) ∙ ap (λ (j : ℕ). take 64 (drop j text)) (sym e)

prefix_more : (text : List ℕ) (i k : ℕ) (t : Bool) → AsciiTo text i → i + k ≤ length text → t ≡ is_ascii (take k (drop i text)) → t ≡ true → AsciiTo text (i + k)
prefix_more text i k t a l q y = record { within = l; is = rw (take-add i k text) (ascii_append (take i text) (take k (drop i text)) a.is (sym q ∙ y)) }

-- the place n after i whole blocks of a text
module _ (text : List ℕ) (blocks : List (List ℕ)) (n i : ℕ) (en : n ≡ 64 * i) (lb : length blocks ≡ length text / 64) where
  pub prefix_fits : i < length blocks → Fits w64 (length text) → Fits w64 (n + 64)
  prefix_fits l f = omega (arith, en, lb, l, f)

  module _ (t : Bool) (a : AsciiTo text n) where
    -- one block more
    pub prefix_block : i < length blocks → blocks ≡ first_chunks 64 (length text / 64) text → t ≡ is_ascii (get_or blocks i []) → t ≡ true → AsciiTo text (n + 64)
    prefix_block l b q y =
        let k : i < length text / 64 = omega (arith, lb, l) in
        let e : get_or blocks i [] ≡ take 64 (drop n text) = ap (λ (s : List (List ℕ)). get_or s i []) b ∙ block_at (length text / 64) i text k ∙ ap (λ (j : ℕ). take 64 (drop j text)) (sym en) in
        prefix_more text n 64 t a (omega (arith, en, k)) (q ∙ ap is_ascii e) y

    -- and what is left of the text
    pub prefix_rest : (rest : List ℕ) → length blocks ≤ i → i ≤ length blocks → rest ≡ drop (length text / 64 * 64) text → t ≡ is_ascii rest → t ≡ true → AsciiTo text (length text)
    prefix_rest rest l m b q y =
        let w : length text / 64 * 64 ≡ n = omega (arith, en, lb, l, m) in
        let e : n + (length text - n) ≡ length text = omega (arith, a.within) in
        let r : rest ≡ take (length text - n) (drop n text) = b ∙ ap (λ (j : ℕ). drop j text) w ∙ sym (take_all (length text - n) (drop n text) (omega (arith, length-drop n text))) in
        rw e at (prefix_more text n (length text - n) t a (omega (arith, a.within)) (q ∙ ap is_ascii r) y)

pub prefix_counted : (text : List ℕ) (n : ℕ) → AsciiTo text n → n ≡ length (take n text)
prefix_counted text n a = sym (length-take-le n text a.within)
