use mathlib.Core.Path.{refl}
use Rattle.tape.proofs.Texts.{text-key, text-enum, text-text, text-none}
use Rattle.tape.proofs.text.record_text.Goals as goal

ruleset exits = (text-key, text-enum, text-text, text-none, refl)

pub returns-in-4 : goal.returns-in-4
returns-in-4 c = search exits

pub returns-in-12 : goal.returns-in-12
returns-in-12 c = search exits

pub returns-in-11 : goal.returns-in-11
returns-in-11 c = search exits

pub returns-in_default : goal.returns-in_default
returns-in_default c = search exits
