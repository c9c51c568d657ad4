use Rattle.enc_text_decoder.proofs.Texts.{end_windows, end-wide, end_marked}
use Rattle.enc_text_decoder.proofs.text_end.Goals as goal

ruleset exits = (end_windows, end-wide, end_marked)

-- src/lib.rt:16:1
pub returns-in-Windows1252 : goal.returns-in-Windows1252
returns-in-Windows1252 c = search exits

-- src/lib.rt:16:1
pub returns-in-Utf16 : goal.returns-in-Utf16
returns-in-Utf16 c = search exits

-- src/lib.rt:16:1
pub returns-in-Utf8 : goal.returns-in-Utf8
returns-in-Utf8 c = search exits
