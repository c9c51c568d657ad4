use Rattle.print_figures.proofs.Numerals.{signed_plus, signed-minus}
use Rattle.print_figures.proofs.decimal.put_signed.Goals as goal

pub returns-then-n-lt9223372036854775808 : goal.returns-then-n-lt9223372036854775808
returns-then-n-lt9223372036854775808 c = search signed_plus

pub returns : goal.returns
returns c = search signed-minus
