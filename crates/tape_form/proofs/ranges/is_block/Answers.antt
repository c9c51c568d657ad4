use mathlib.Core.Path.{◌∙◌}
use borrow.Author.Tests.{le-ltb}
use Rattle.tape_form.proofs.Tests.{block-past, block-kind}
use Rattle.tape_form.proofs.ranges.is_block.Goals as goal

pub returns-then-n-book : goal.returns-then-n-book
returns-then-n-book c = search block-kind

pub returns-else-n-book : goal.returns-else-n-book
returns-else-n-book c = le-ltb _ _ c.if-n-book.false ∙ block-past _ _ _ c.if-n-book.false
