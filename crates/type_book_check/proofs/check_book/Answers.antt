use Rattle.type_book_check.proofs.Checks.{book-size, book-cut, book-few, book-refused, book_doubled, book-valid}
use borrow.Author.Rules.{rules}
use Rattle.type_book_check.proofs.Numbers.{book-says}
use Rattle.type_book_check.proofs.check_book.Goals as goal

pub returns-then-not-size_right : goal.returns-then-not-size_right
returns-then-not-size_right c = book-says _ _ (search book-size)

pub slice_bounds-book-end : goal.slice_bounds-book-end
slice_bounds-book-end c = search book-cut

pub scanned-requires : goal.scanned-requires
scanned-requires c = search book-few

pub distinct-requires : goal.distinct-requires
distinct-requires c = (search rules, search book-few)

pub returns-then-distinct : goal.returns-then-distinct
returns-then-distinct c = book-says _ _ (search book-valid)

pub returns-in_default : goal.returns-in_default
returns-in_default c = book-says _ _ (search (book-refused, rules))

pub returns-else-distinct : goal.returns-else-distinct
returns-else-distinct c = book-says _ _ (search book_doubled)
