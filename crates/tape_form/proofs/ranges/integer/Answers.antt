use Rattle.tape_form.proofs.Tests.{integer_signed, integer_unsigned, integer_not, width-from, width-to}
use Rattle.tape_form.proofs.ranges.integer.Goals as goal

ruleset exits = (integer_signed, integer_unsigned, integer_not)

ruleset widths = (width-from, width-to)

pub fits_signed-requires : goal.fits_signed-requires
fits_signed-requires c = (search widths, search widths)

pub returns-then-r-eq-SIGNED : goal.returns-then-r-eq-SIGNED
returns-then-r-eq-SIGNED c = search exits

pub fits_unsigned-requires : goal.fits_unsigned-requires
fits_unsigned-requires c = (search widths, search widths)

pub returns-then-sized : goal.returns-then-sized
returns-then-sized c = search exits

pub returns : goal.returns
returns c = search exits
