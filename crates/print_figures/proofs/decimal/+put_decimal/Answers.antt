-- `put_decimal` meets its contract: a law for each exit. Assumes nothing.
use Rattle.print_figures.proofs.Numerals.{digit_last, digit_more}
use Rattle.print_figures.proofs.decimal.+put_decimal.Goals as goal

pub returns-then-n-lt10 : goal.returns-then-n-lt10
returns-then-n-lt10 t c = search digit_last

pub returns : goal.returns
returns t c = search digit_more
