use Rattle.type_book_check.proofs.Blocks.{block-cut, block-whole}
use Rattle.type_book_check.proofs.block_at.Goals as goal

pub returns : goal.returns
returns c = (search block-cut, search block-whole)
