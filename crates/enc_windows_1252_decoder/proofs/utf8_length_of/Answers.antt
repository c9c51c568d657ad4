-- `utf8_length_of` meets its contract: the rule over the code point. Assumes nothing.
use borrow.Author.Rules.{rules}
use Rattle.enc_windows_1252_decoder.proofs.Texts.{length-counts}
use Rattle.enc_windows_1252_decoder.proofs.utf8_length_of.Goals as goal

pub returns : goal.returns
returns c = (search length-counts, search rules)
