use mathlib.Core.Path.{refl}
use native.Mathlib.Omega.{arith}
use Rattle.type_book_check.proofs.Numbers.{book-is}
use Rattle.type_cache.proofs.Appends.{refused-book, refused-cut, refused-fits, refused_addition, refused-known, refused_none, refused-room, append_refused, append_fits, append_done}
use Rattle.type_cache.proofs.append.Goals as goal

pub returns-then-of_book-ne0 : goal.returns-then-of_book-ne0
returns-then-of_book-ne0 c = search (append_refused, refused-book, book-is)

pub returns-then-of_addition-ne0 : goal.returns-then-of_addition-ne0
returns-then-of_addition-ne0 c = search (append_refused, refused_addition, book-is)

pub slice_bounds-is_known-end : goal.slice_bounds-is_known-end
slice_bounds-is_known-end c = search (refused-fits, book-is)

pub slice_bounds-is_known-end-2 : goal.slice_bounds-is_known-end-2
slice_bounds-is_known-end-2 c = search (refused-cut, book-is)

pub returns-then-is_known : goal.returns-then-is_known
returns-then-is_known c = append_refused _ _ _ 4 (search (refused-known, book-is)) (λ z. omega arith)

pub returns-then-not-has_room : goal.returns-then-not-has_room
returns-then-not-has_room c = append_refused _ _ _ 15 (search (refused-room, book-is)) (λ z. omega arith)

pub copy-requires : goal.copy-requires
copy-requires c = append_fits _ _ _ 0 (search (refused_none, book-is)) refl

pub returns : goal.returns
returns c = append_done _ _ _ 0 (search (refused_none, book-is)) refl _ _ c.copy.ensures
