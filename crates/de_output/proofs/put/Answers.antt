use Rattle.de_output.proofs.Runs.{from_next, from-held}
use Rattle.de_output.proofs.Puts.{record-full, record-done}
use Rattle.de_output.proofs.put.Goals as goal

ruleset done = (from_next, record-done)

ruleset full = (from_next, record-full)

pub returns-in_default : goal.returns-in_default
returns-in_default c = search from-held

pub returns-in-Some : goal.returns-in-Some
returns-in-Some c = search done

pub returns-in-None : goal.returns-in-None
returns-in-None c = search full
