use native.Mathlib.Omega.{arith}
use mathlib.Core.Path.{refl}
use Rattle.type_block_form.proofs.Bytes.{tests, every-again}
use Rattle.type_block_form.proofs.NameSums.{name-stop, name-again, name-end}
use Rattle.type_block_form.proofs.name_sum.Goals as goal

pub loop-byte-init : goal.loop-byte-init
loop-byte-init c = (omega arith, refl, omega arith)

pub returns-then-not-is_printable : goal.returns-then-not-is_printable
returns-then-not-is_printable c = search (name-stop, tests)

pub loop-byte-preserved : goal.loop-byte-preserved
loop-byte-preserved c = (omega arith, search (every-again, tests), search name-again)

pub returns : goal.returns
returns c = search name-end
