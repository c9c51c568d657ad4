use Rattle.print_figures.proofs.Numerals.{glyph-low, glyph-high}
use Rattle.print_figures.proofs.hexadecimal.digit.Goals as goal

pub returns-then-d-lt10 : goal.returns-then-d-lt10
returns-then-d-lt10 c = search glyph-low

pub returns : goal.returns
returns c = search glyph-high
