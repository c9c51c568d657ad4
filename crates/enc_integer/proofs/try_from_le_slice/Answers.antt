-- `enc_integer::try_from_le_slice` meets its contract. Assumes nothing.
use Rattle.enc_integer.proofs.Integers.{width-most, value-small, read_unsupported, read_size, read_signed, read_unsigned}
use borrow.Author.Rules.{rules}
use Rattle.enc_integer.proofs.Numbers.{integer_read_says}
use Rattle.enc_integer.proofs.try_from_le_slice.Goals as goal

pub returns-then-width-eq0 : goal.returns-then-width-eq0
returns-then-width-eq0 c = integer_read_says _ _ (search read_unsupported)

pub returns-then-slice-width : goal.returns-then-slice-width
returns-then-slice-width c = integer_read_says _ _ (search read_size)

pub sign_extended-requires : goal.sign_extended-requires
sign_extended-requires c = record { le_width = (search rules, search width-most); value_bound = search (value-small, rules) }

pub returns-then-is_signed : goal.returns-then-is_signed
returns-then-is_signed c = integer_read_says _ _ (search read_signed)

pub returns : goal.returns
returns c = integer_read_says _ _ (search read_unsigned)
