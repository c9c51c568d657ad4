use Rattle.de_leaf_output.proofs.Numbers.{signed-tells, unsigned-tells}
use Rattle.de_leaf_output.proofs.number.integer_record.Goals as goal

pub returns-in-Signed : goal.returns-in-Signed
returns-in-Signed c = search signed-tells

pub returns-in-Unsigned : goal.returns-in-Unsigned
returns-in-Unsigned c = search unsigned-tells
