use mathlib.Core.Path.{refl}
use Rattle.ser.specs.Write.{write_ctx}
use Rattle.ser.proofs.Wholes.{before_same, book_written, book-refused}
use borrow.Author.Rules.{rules}
use Rattle.ser.proofs.serializer.write_indexed.Goals as goal

pub returns-in-Some : goal.returns-in-Some
returns-in-Some c = book-refused (write_ctx c.args.book.now c.args.width c.args.tape.now c.args.text.now) c.args.root c.args.image.now c.args.output.now c.in-Some.k c.in-Some.ensures.0 c.in-Some.ensures.1 c.finish.ensures

pub write_sized-requires : goal.write_sized-requires
write_sized-requires c = (search rules, search rules, before_same _ _ _ _ _ 0 c.in_default.ensures refl, search rules)

pub returns-then-blocks-le-SMALL_BOOK : goal.returns-then-blocks-le-SMALL_BOOK
returns-then-blocks-le-SMALL_BOOK c = book_written (write_ctx c.args.book.now c.args.width c.args.tape.now c.args.text.now) c.args.root c.args.image.now c.args.output.now 0 c.in_default.ensures refl c.write_sized.ensures

pub write_sized-requires-2 : goal.write_sized-requires-2
write_sized-requires-2 c = (search rules, search rules, before_same _ _ _ _ _ 0 c.in_default.ensures refl, search rules)

pub returns : goal.returns
returns c = book_written (write_ctx c.args.book.now c.args.width c.args.tape.now c.args.text.now) c.args.root c.args.image.now c.args.output.now 0 c.in_default.ensures refl c.write_sized-2.ensures
