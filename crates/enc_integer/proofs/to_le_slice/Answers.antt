-- `enc_integer::to_le_slice` meets its contract. Assumes nothing.
use Rattle.enc_integer.proofs.Integers.{width-most, write_unsupported, write_size, write_done, write_out}
use borrow.Author.Rules.{rules}
use Rattle.enc_integer.proofs.to_le_slice.Goals as goal

pub returns-then-width-eq0 : goal.returns-then-width-eq0
returns-then-width-eq0 c = search write_unsupported

pub fits_id-requires : goal.fits_id-requires
fits_id-requires c = record { le_width = (search rules, search width-most); width_value = search rules }

pub returns-then-out-width : goal.returns-then-out-width
returns-then-out-width c = search write_size

pub returns-then-fits_id : goal.returns-then-fits_id
returns-then-fits_id c = search write_done

pub returns : goal.returns
returns c = search write_out
