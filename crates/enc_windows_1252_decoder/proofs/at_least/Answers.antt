-- `at_least` meets its contract. Assumes nothing.
use Rattle.std.proofs.Common.{arith}
use Rattle.std.proofs.lemmas.Bool.Decides.{nat_tests}
use Rattle.enc_windows_1252_decoder.proofs.at_least.Goals as goal

pub returns : goal.returns
returns c = grind (arith, nat_tests)
