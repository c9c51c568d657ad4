use Rattle.type_book_check.proofs.Checks.{root-refused, root_answer, root-cut, root-few}
use Rattle.type_book_check.proofs.Numbers.{book-is, root-says}
use Rattle.type_book_check.proofs.check_root.Goals as goal

pub returns-then-refusal-ne0 : goal.returns-then-refusal-ne0
returns-then-refusal-ne0 c = root-says _ _ (search (root-refused, book-is))

pub slice_bounds-root_of-end : goal.slice_bounds-root_of-end
slice_bounds-root_of-end c = search (root-cut, book-is)

pub root_of-requires : goal.root_of-requires
root_of-requires c = search (root-few, book-is)

pub returns : goal.returns
returns c = root-says _ _ (search (root_answer, book-is))
