use mathlib.Core.Path.{refl}
use Rattle.print_figures.proofs.Joins.{rest_all}
use Rattle.print_figures.proofs.Numerals.{hexes_again, hexes_end}
use Rattle.print_figures.proofs.hexadecimal.put_hex_text.Goals as goal

pub loop-byte-init : goal.loop-byte-init
loop-byte-init c = rest_all refl

pub loop-byte-preserved : goal.loop-byte-preserved
loop-byte-preserved c = search hexes_again

pub returns : goal.returns
returns c = search hexes_end
