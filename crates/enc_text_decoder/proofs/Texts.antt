-- What each decoder gives. Assumes nothing.
use Rattle.std.specs.Prelude.{Option}
use mathlib.Core.Path.{◌≡◌}
use mathlib.Core.List.{List}
use Prim.Native.Nat.{ℕ}
use Rattle.enc_utf_8.specs.Buffer.{Wrote}
use Rattle.enc_utf_8.specs.declared.TextEnd.{TextEnd}
use Rattle.enc_utf_16.specs.Decode as utf16
use Rattle.enc_utf_16.specs.WString.{wstring_end}
use Rattle.enc_utf_8_replacing.specs.Text as utf8
use Rattle.enc_windows_1252.specs.Text as windows1252
use Rattle.enc_text_decoder.specs.declared.Decoder.{Decoder}
use Rattle.enc_text_decoder.specs.declared.Decoder.TheVariants as decoder
use Rattle.enc_text_decoder.specs.Text.{end_by, decoded_by}

pub end_windows : {d : Decoder} (bytes : List ℕ) (r : TextEnd) → d ≡ decoder.Windows1252 → r ≡ windows1252.string_end bytes → r ≡ end_by d bytes
unfolding end_by
end_windows bytes r e h = rw e h

pub end-wide : {d : Decoder} (bytes : List ℕ) (r : TextEnd) → d ≡ decoder.Utf16 → r ≡ wstring_end bytes → r ≡ end_by d bytes
unfolding end_by
end-wide bytes r e h = rw e h

pub end_marked : {d : Decoder} (bytes : List ℕ) (r : TextEnd) → d ≡ decoder.Utf8 → r ≡ windows1252.string_end bytes → r ≡ end_by d bytes
unfolding end_by
end_marked bytes r e h = rw e h

pub decoded_windows : {d : Decoder} (bytes : List ℕ) {out out' : List ℕ} {at : ℕ} {p : Option ℕ} → d ≡ decoder.Windows1252 → Wrote (windows1252.decode_text bytes) out at p out' → Wrote (decoded_by d bytes) out at p out'
unfolding decoded_by
decoded_windows bytes e h = rw e h

pub decoded_wide : {d : Decoder} (bytes : List ℕ) {out out' : List ℕ} {at : ℕ} {p : Option ℕ} → d ≡ decoder.Utf16 → Wrote (utf16.decode16_text bytes) out at p out' → Wrote (decoded_by d bytes) out at p out'
unfolding decoded_by
decoded_wide bytes e h = rw e h

pub decoded_marked : {d : Decoder} (bytes : List ℕ) {out out' : List ℕ} {at : ℕ} {p : Option ℕ} → d ≡ decoder.Utf8 → Wrote (utf8.decode8_text bytes) out at p out' → Wrote (decoded_by d bytes) out at p out'
unfolding decoded_by
decoded_marked bytes e h = rw e h
