-- ASCII that the pass over a text leaves behind: byte by byte, and in blocks. Assumes nothing.
use mathlib.Core.Path.{◌≡◌, refl}
use mathlib.Core.Bool.{Bool, true}
use mathlib.Core.List.{List}
use Prim.Native.Nat.{ℕ, zero, suc, ◌+◌, ◌-◌, ◌≤◌, ◌<◌}
use native.Mathlib.Omega.{arith}
use lib.ListN.{length, get_or, take, drop}
use lib.Seq.{get_or-take, get_or-drop}
use Rattle.enc_utf_8.specs.declared.Char.TheVariants.{Code}
use Rattle.enc_utf_8.specs.Utf8.{well_formed}
use Rattle.enc_utf_8.proofs.Decodes.{next_one}
use Rattle.enc_utf_8.proofs.Cuts.{Passed, passed-code, passed-part}
use Rattle.enc_ascii.proofs.Ascii.{ascii-each, ascii-none}
use Rattle.enc_utf_8_decoder.specs.After.{AsciiHere}

-- ---- ascii_bytes: none

pub here-none : (text : List ℕ) (at : ℕ) → at < length text → AsciiHere text at 0
here-none text at h = record { inside = omega arith; ascii = ascii-none }

-- ---- the pass over a text

module _ (text : List ℕ) where
  pub passed-one : (at : ℕ) → Passed text at → at < length text → get_or text at 0 < 0x80 → Passed text (at + 1)
  passed-one at p h l = passed-code text at p (Code (get_or text at 0) (at + 1)) (next_one text at h l) (get_or text at 0) (at + 1) refl

  passed-run : (n at : ℕ) → Passed text at → at + n ≤ length text → ((i : ℕ) → i < n → get_or text (at + i) 0 < 0x80) → Passed text (at + n)
  passed-run zero at p h a = let e : at + 0 ≡ at = omega arith in rw e p
  passed-run (suc n) at p h a =
      let e : at + 1 + n ≡ at + suc n = omega arith in
      let f : at + 0 ≡ at = omega arith in
      rw e at (passed-run n (at + 1) (passed-one at p (omega arith) (rw f at (a 0 (omega arith)))) (omega arith)
      (λ i l. let g : at + 1 + i ≡ at + suc i = omega arith in rw g (a (suc i) (omega arith))))

  module _ (at n : ℕ) (a : AsciiHere text at n) where
    pub block_within : at + n ≤ length text
    block_within = a.inside

    pub block-less : 0 < n → length text - (at + n) < length text - at
    block-less h = omega (arith, a.inside)

    pub passed-block : Passed text at → Passed text (at + n)
    passed-block p =
        passed-run n at p a.inside
        (λ i l. let z = ascii-each (take n (drop at text)) a.ascii i in rw (get_or-take n (drop at text) i 0 (omega arith), get_or-drop at text i 0) at z)

  module _ (at e : ℕ) (l : at < e) (h : e ≤ length text) (t : Bool) (f : t ≡ true → well_formed (take (e - at) (drop at text)) ≡ true) where
    pub passed-cut : t ≡ true → Passed text at → Passed text e
    passed-cut q p = let z : at + (e - at) ≡ e = omega arith in rw z at (passed-part text at (e - at) p (omega arith) (f q))
