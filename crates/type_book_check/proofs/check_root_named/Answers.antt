-- `check_root_named` meets its contract. Assumes nothing.
use Rattle.type_book_check.proofs.Givens.{given-refused, given-answer, given-cut, given-says}
use Rattle.type_book_check.proofs.Numbers.{book-is}
use Rattle.type_book_check.proofs.check_root_named.Goals as goal

pub returns-then-refusal-ne0 : goal.returns-then-refusal-ne0
returns-then-refusal-ne0 c = given-says _ _ (search (given-refused, book-is))

pub slice_bounds-named_root-end : goal.slice_bounds-named_root-end
slice_bounds-named_root-end c = search (given-cut, book-is)

pub returns : goal.returns
returns c = given-says _ _ (search (given-answer, book-is))
