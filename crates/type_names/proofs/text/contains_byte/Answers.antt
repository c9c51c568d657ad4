-- `take_all` is for texts of the code that search a part of the name: whether such a part is all of it is a fact, and not a form.
use native.Mathlib.Omega.{arith}
use lib.Seq.{take_all}
use Rattle.type_names.proofs.Texts.{byte_told}
use Rattle.type_names.proofs.text.contains_byte.Goals as goal

pub returns : goal.returns
returns c = grind (arith, byte_told, take_all)
