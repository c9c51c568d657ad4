use Rattle.enc_text_decoder.proofs.Texts.{decoded_windows, decoded_wide, decoded_marked}
use Rattle.enc_text_decoder.proofs.decode.Goals as goal

ruleset exits = (decoded_windows, decoded_wide, decoded_marked)

-- src/lib.rt:27:1
pub returns-in-Windows1252 : goal.returns-in-Windows1252
returns-in-Windows1252 c = search exits

-- src/lib.rt:27:1
pub returns-in-Utf16 : goal.returns-in-Utf16
returns-in-Utf16 c = search exits

-- src/lib.rt:27:1
pub returns-in-Utf8 : goal.returns-in-Utf8
returns-in-Utf8 c = search exits
