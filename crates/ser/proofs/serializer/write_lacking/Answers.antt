-- `write_lacking` meets its contract. Assumes nothing.
use mathlib.Core.Path.{refl}
use Rattle.ser.proofs.Wholes.{lacking_written, lacking-refused}
use Rattle.ser.proofs.serializer.write_lacking.Goals as goal

pub returns-in-Some : goal.returns-in-Some
returns-in-Some c = lacking-refused c.args.book.now c.args.tape.now c.args.text.now c.args.image.now c.args.output.now c.in-Some.k c.in-Some.ensures.0 c.in-Some.ensures.1 c.finish.ensures

pub returns : goal.returns
returns c = lacking_written c.args.book.now c.args.tape.now c.args.text.now c.args.image.now c.args.output.now 0 c.in_default.ensures refl c.finish-2.ensures
