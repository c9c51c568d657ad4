use Rattle.tape.proofs.Texts.{name-some, name-none}
use Rattle.tape.proofs.text.name_in.Goals as goal

ruleset exits = (name-some, name-none)

pub returns-then-n-lt65536 : goal.returns-then-n-lt65536
returns-then-n-lt65536 c = search exits

pub returns : goal.returns
returns c = search exits
