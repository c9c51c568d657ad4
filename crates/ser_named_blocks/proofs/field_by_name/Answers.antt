use Rattle.ser_named_blocks.proofs.Names.{field_is}
use Rattle.ser_named_blocks.proofs.field_by_name.Goals as goal

pub returns : goal.returns
returns c = search field_is
