use Rattle.de_output.proofs.Runs.{from_next, from-held}
use Rattle.de_output.proofs.Puts.{text-order, text-full, text-short, text-never, text-done}
use Rattle.de_output.proofs.put_text.Goals as goal

ruleset exits = (from_next, text-done, text-never, text-full, text-short)

pub returns-in_default : goal.returns-in_default
returns-in_default c = search from-held

pub returns-then-not-has_room : goal.returns-then-not-has_room
returns-then-not-has_room c = search exits

pub returns-in_default-decode : goal.returns-in_default-decode
returns-in_default-decode c = search exits

pub text_record-requires : goal.text_record-requires
text_record-requires c = search text-order

pub returns-in-Some-text_record : goal.returns-in-Some-text_record
returns-in-Some-text_record c = search exits

pub returns-in-None : goal.returns-in-None
returns-in-None c = search exits
