-- What is decoded and encoded again is as it was. Assumes nothing.
use mathlib.Core.Path.{◌≡◌, refl, sym, ap, ◌∙◌}
use mathlib.Core.Bool.{true}
use mathlib.Core.List.{List, [], ◌∷◌, ◌++◌, flat_map}
use Prim.Native.Nat.{ℕ, suc, ◌<◌}
use Rattle.enc_utf_8.specs.Utf8.{is_scalar, decode_from}
use Rattle.enc_utf_8.proofs.Encodes.{Bytes}
use Rattle.enc_utf_8.proofs.Trips.{decode_utf8}
use Rattle.enc_windows_1252.specs.Index.{listed_points, code_point, byte_of}
use Rattle.enc_windows_1252.specs.Text.{decode_byte, decode_text, encode_text}
use Rattle.enc_windows_1252.proofs.Table.{same}
use Rattle.enc_windows_1252.proofs.Indexes.{byte-is}
use Rattle.enc_windows_1252_encoder.proofs.Encoders.{code-byte}

point_scalar : (b : ℕ) → b < 256 → is_scalar (code_point b) ≡ true
unfolding listed_points code_point
point_scalar b h = same (λ (k : ℕ). is_scalar (code_point k)) (λ k. true) 256 b true refl h

encode_byte : (b : ℕ) (rest : List ℕ) → b < 256 → encode_text (decode_byte b ++ rest) ≡ b ∷ encode_text rest
unfolding encode_text flat_map
encode_byte b rest h = rw (decode_utf8 (code_point b) rest (point_scalar b h), code-byte (code_point b) (byte_of (code_point b)) refl b (sym (byte-is b (code_point b) h refl)))

tail-bytes : {b : ℕ} {bs : List ℕ} → Bytes (b ∷ bs) → Bytes bs
tail-bytes k = record { each = λ i. k.each (suc i) }

pub encode_decode : (bytes : List ℕ) → Bytes bytes → encode_text (decode_text bytes) ≡ bytes
unfolding decode_text encode_text flat_map decode_from
encode_decode [] k = refl
encode_decode (b ∷ bs) k = encode_byte b (decode_text bs) (k.each 0) ∙ ap (λ (l : List ℕ). b ∷ l) (encode_decode bs (tail-bytes k))
