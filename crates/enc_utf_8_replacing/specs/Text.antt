-- Bytes as a text in UTF-8 where some of them may be ill_formed: the WHATWG Encoding Standard's "UTF-8 decode without BOM". Assumes nothing.
use mathlib.Core.List.{List, flat_map}
use Rattle.std.specs.Prelude.{ℕ}
use Rattle.enc_utf_8.specs.Utf8.{utf8_of, scalars}

-- the text of some bytes: what the standard's decoder hands out, U+FFFD for each error, encoded in UTF-8; no byte order mark is looked for
unfoldable pub decode8_text : List ℕ → List ℕ
decode8_text bytes = flat_map utf8_of (scalars bytes)
