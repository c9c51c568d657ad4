-- `block_end` meets its contract. Assumes nothing.
use Rattle.enc_ascii.proofs.Ascii.{end-min}
use borrow.Author.Rules.{rules}
use Rattle.enc_ascii.proofs.block_end.Goals as goal

pub returns : goal.returns
returns c = (search end-min, search rules, search rules, search rules)
