use Rattle.ser_named_blocks.proofs.Names.{entry-is}
use Rattle.ser_named_blocks.proofs.entry_by_name.Goals as goal

pub returns : goal.returns
returns c = search entry-is
