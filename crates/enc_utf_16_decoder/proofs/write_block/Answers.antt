-- `enc_utf_16_decoder::write_block` meets its contract: a block of ASCII, or scalar value by scalar value. Assumes nothing.
use Rattle.enc_utf_16_decoder.proofs.Blocks.{block-whole, block_room, block_written}
use borrow.Author.Rules.{rules}
use Rattle.enc_utf_16_decoder.proofs.write_block.Goals as goal

pub copy_units-after-requires : goal.copy_units-after-requires
copy_units-after-requires c = record { at_in_bounds = search block-whole; to_in_bounds = search block_room }

pub overflow_add-result : goal.overflow_add-result
overflow_add-result c = search (rules, block-whole)

pub returns-then-ascii_block : goal.returns-then-ascii_block
returns-then-ascii_block c = search block_written
