-- `block::same_part` meets its contract. Assumes nothing.
use Rattle.type_book.proofs.Words.{same_number}
use Rattle.type_book.proofs.block.same_part.Goals as goal

pub returns : goal.returns
returns g c = search same_number
