-- `enc_utf_16_decoder::measure` meets its contract: a block of ASCII, or scalar value by scalar value. Assumes nothing.
use Rattle.enc_utf_16_decoder.proofs.Blocks.{block-whole, block_measured}
use borrow.Author.Rules.{rules}
use Rattle.enc_utf_16_decoder.proofs.measure.Goals as goal

pub overflow_add-result : goal.overflow_add-result
overflow_add-result c = search (rules, block-whole)

pub returns-then-ascii_block : goal.returns-then-ascii_block
returns-then-ascii_block c = search block_measured
