-- `put_hex` meets its contract: a law for each exit. Assumes nothing.
use Rattle.print_figures.proofs.Numerals.{hex-none, hex-more}
use Rattle.print_figures.proofs.hexadecimal.+put_hex.Goals as goal

pub returns-then-k-eq0 : goal.returns-then-k-eq0
returns-then-k-eq0 t c = search hex-none

pub returns : goal.returns
returns t c = search hex-more
