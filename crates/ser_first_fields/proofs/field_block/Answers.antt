use Rattle.ser_first_fields.proofs.Laws.{block-named}
use Rattle.ser_first_fields.proofs.field_block.Goals as goal

-- src/lib.rt:111:1
pub returns : goal.returns
returns c = search block-named
