use mathlib.Core.Path.{refl}
use Rattle.ser.specs.Write.{write_ctx}
use Rattle.ser.proofs.Wholes.{before_same, book_written, book-refused}
use borrow.Author.Rules.{rules}
use Rattle.ser.proofs.serializer.write_in.Goals as goal

pub write_root-requires : goal.write_root-requires
write_root-requires c = (search rules, search rules, before_same _ _ _ _ _ 0 c.in-None.ensures refl)

pub returns-in-None : goal.returns-in-None
returns-in-None c = book_written (write_ctx c.args.book.now c.args.width c.args.tape.now c.args.text.now) c.args.root c.args.image.now c.args.output.now 0 c.in-None.ensures refl c.write_root.ensures

pub returns-in-Some : goal.returns-in-Some
returns-in-Some c = book-refused (write_ctx c.args.book.now c.args.width c.args.tape.now c.args.text.now) c.args.root c.args.image.now c.args.output.now c.in-Some.k c.in-Some.ensures.0 c.in-Some.ensures.1 c.finish.ensures
