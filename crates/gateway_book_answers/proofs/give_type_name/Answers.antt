-- `give_type_name` meets its contract. Assumes nothing.
use Rattle.gateway_book_answers.proofs.Parts.{part-given}
use Rattle.gateway_book_answers.proofs.give_type_name.Goals as goal

pub returns : goal.returns
returns c = search part-given
