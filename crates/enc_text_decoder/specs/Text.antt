-- A text by its decoder (document 01: deserializer.rs). Assumes nothing.
use Rattle.std.specs.Prelude.{List, ℕ}
use Rattle.enc_utf_8.specs.declared.TextEnd.{TextEnd}
use Rattle.enc_utf_16.specs.Decode as utf16
use Rattle.enc_utf_16.specs.WString.{wstring_end}
use Rattle.enc_utf_8_replacing.specs.Text as utf8
use Rattle.enc_windows_1252.specs.Text as windows1252
use Rattle.enc_text_decoder.specs.declared.Decoder.{Decoder}
use Rattle.enc_text_decoder.specs.declared.Decoder.TheVariants as decoder

-- where a text ends, and whether a terminator was found there; a STRING ends alike in both its encodings
unfoldable pub end_by : Decoder → List ℕ → TextEnd
end_by decoder.Windows1252 bytes = windows1252.string_end bytes
end_by decoder.Utf16 bytes = wstring_end bytes
end_by decoder.Utf8 bytes = windows1252.string_end bytes

-- a text's bytes in UTF-8
unfoldable pub decoded_by : Decoder → List ℕ → List ℕ
decoded_by decoder.Windows1252 bytes = windows1252.decode_text bytes
decoded_by decoder.Utf16 bytes = utf16.decode16_text bytes
decoded_by decoder.Utf8 bytes = utf8.decode8_text bytes
