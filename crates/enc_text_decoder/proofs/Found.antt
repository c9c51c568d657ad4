-- The search for a text's end tells that it found a terminator exactly where there is one, for all bytes. Assumes nothing.
use mathlib.Core.Path.{◌≡◌, refl, sym, ap, ◌∙◌}
use mathlib.Core.Bool.{Bool, true, false, ◌&&◌, ◌||◌}
use mathlib.Core.List.{List, [], ◌∷◌}
use Prim.Native.Nat.{ℕ, zero, suc, ◌+◌, ◌-◌, ◌≤◌, ◌<◌}
use native.Mathlib.Omega.{arith}
use native.Mathlib.Numerals.{add-one}
use lib.ListN.{length, get_or, drop, drop_of_length-le, length-drop}
use lib.Seq.{drop-cons}
use lib.Dec.{eqb, leb}
use borrow.Author.Tests.{eqb-true, eqb-false, leb-true, leb-false}
use Rattle.enc_utf_16.specs.WString.{wstring_end}
use Rattle.enc_utf_16.specs.WString as wide
use Rattle.enc_utf_16.proofs.Ends as wide_ends
use Rattle.enc_utf_16.proofs.Ends.{drop-two}
use Rattle.enc_windows_1252.specs.Text.{string_end}
use Rattle.enc_windows_1252.specs.Text as windows1252
use Rattle.enc_windows_1252.proofs.Ends as ends
use Rattle.enc_text_decoder.specs.declared.Decoder.{Decoder}
use Rattle.enc_text_decoder.specs.declared.Decoder.TheVariants as decoder
use Rattle.enc_text_decoder.specs.Text.{end_by}
use Rattle.enc_text_decoder.specs.Ended.{has_zero, has_zero_pair, terminated, was_found}

-- fewer than two bytes have no pair
no_pair : (xs : List ℕ) → length xs < 2 → has_zero_pair xs ≡ false
unfolding has_zero_pair
no_pair [] s = refl
no_pair (x ∷ []) s = refl
no_pair (x ∷ y ∷ xs) s = absurd (omega arith)

module _ (bytes : List ℕ) where
  cut-byte : (i : ℕ) → i < length bytes → has_zero (drop i bytes) ≡ (eqb (get_or bytes i 0) 0 || has_zero (drop (i + 1) bytes))
  unfolding has_zero
  cut-byte i h = rw (drop-cons bytes i 0 h, add-one)

  none_left : (i : ℕ) → length bytes ≤ i → has_zero (drop i bytes) ≡ false
  unfolding has_zero
  none_left i h = rw (drop_of_length-le bytes h)

  -- a STRING, from byte i on, where k bytes are left
  zero-from : (k i : ℕ) → i + k ≡ length bytes → string_end bytes ≡ windows1252.end_from i (drop i bytes) → was_found (string_end bytes) ≡ has_zero (drop i bytes)
  zero-from zero i e inv = rw (← ends.end_none bytes i inv (omega arith), none_left i (omega arith))
  zero-from (suc k) i e inv = by (omega arith) (λ v. zero-from k (i + 1) (omega arith) v) (eqb (get_or bytes i 0) 0) refl
    where
      by : i < length bytes → (string_end bytes ≡ windows1252.end_from (i + 1) (drop (i + 1) bytes) → was_found (string_end bytes) ≡ has_zero (drop (i + 1) bytes))
          → (t : Bool) → eqb (get_or bytes i 0) 0 ≡ t → was_found (string_end bytes) ≡ has_zero (drop i bytes)
      by h more true q = rw (← ends.end-here bytes i inv h (eqb-true (get_or bytes i 0) 0 q), cut-byte i h, q)
      by h more false q = more (ends.end-again bytes i inv h (eqb-false (get_or bytes i 0) 0 q)) ∙ sym (rw (cut-byte i h, q))

  cut_pair : (i : ℕ) → i + 2 ≤ length bytes → has_zero_pair (drop i bytes) ≡ ((eqb (get_or bytes i 0) 0 && eqb (get_or bytes (i + 1) 0) 0) || has_zero_pair (drop (i + 2) bytes))
  unfolding has_zero_pair
  cut_pair i h = rw (drop-two bytes i h)

  abbrev Later : ℕ → Type 0
  Later i = i ≤ length bytes → wstring_end bytes ≡ wide.end16_from i (drop i bytes) → was_found (wstring_end bytes) ≡ has_zero_pair (drop i bytes)

  -- a WSTRING, from byte i on, where fewer than k pairs are left
  pair_from : (k i : ℕ) → i ≤ length bytes → length bytes < i + k + k → wstring_end bytes ≡ wide.end16_from i (drop i bytes) → was_found (wstring_end bytes) ≡ has_zero_pair (drop i bytes)
  pair_from zero i l e inv = absurd (omega arith)
  pair_from (suc k) i l e inv = split (λ h v. pair_from k (i + 2) h (omega arith) v) (leb (i + 2) (length bytes)) refl
    where
      by : Later (i + 2) → i + 2 ≤ length bytes → (t : Bool) → (eqb (get_or bytes i 0) 0 && eqb (get_or bytes (i + 1) 0) 0) ≡ t → was_found (wstring_end bytes) ≡ has_zero_pair (drop i bytes)
      by more h true q = rw (← wide_ends.end-here bytes i inv (omega arith) true (sym q) refl, cut_pair i h, q)
      by more h false q = more h (wide_ends.end-again bytes i inv (omega arith) false (sym q) refl) ∙ sym (rw (cut_pair i h, q))

      split : Later (i + 2) → (t : Bool) → leb (i + 2) (length bytes) ≡ t → was_found (wstring_end bytes) ≡ has_zero_pair (drop i bytes)
      split more true q = by more (leb-true (i + 2) (length bytes) q) (eqb (get_or bytes i 0) 0 && eqb (get_or bytes (i + 1) 0) 0) refl
      split more false q =
          let s : length bytes < i + 2 = leb-false (i + 2) (length bytes) q in
          rw (← wide_ends.end_none bytes i inv l (omega arith), no_pair (drop i bytes) (omega (arith, length-drop i bytes)))

pub found-terminated : (d : Decoder) (bytes : List ℕ) → was_found (end_by d bytes) ≡ terminated d bytes
unfolding end_by terminated
found-terminated decoder.Windows1252 bytes = zero-from bytes (length bytes) 0 (omega arith) refl
found-terminated decoder.Utf16 bytes = pair_from bytes (suc (length bytes)) 0 (omega arith) (omega arith) refl
found-terminated decoder.Utf8 bytes = zero-from bytes (length bytes) 0 (omega arith) refl
