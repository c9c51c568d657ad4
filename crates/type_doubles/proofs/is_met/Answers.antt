use Rattle.type_doubles.proofs.Doubles.{met-field, met-new}
use Rattle.type_doubles.proofs.is_met.Goals as goal

pub returns-then-not-is_type : goal.returns-then-not-is_type
returns-then-not-is_type c = search met-field

pub returns : goal.returns
returns c = search met-new
