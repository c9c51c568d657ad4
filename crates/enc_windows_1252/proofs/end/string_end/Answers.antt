-- `string_end` meets its contract: the text ends at its first zero. Assumes nothing.
use Rattle.std.proofs.Common.{rules}
use Rattle.enc_windows_1252.proofs.Ends.{first_zero, no_zero}
use Rattle.enc_windows_1252.proofs.end.string_end.Goals as goal

pub returns-in-Some : goal.returns-in-Some
returns-in-Some c = search (rules, first_zero)

pub returns-in-None : goal.returns-in-None
returns-in-None c = search (rules, no_zero)
