-- `enc_utf_16::wstring_end` meets its contract: the first zero pair, or none. Assumes nothing.
use Rattle.std.proofs.Common.{rules}
use borrow.Author.Tests.{tests}
use Rattle.std.proofs.lemmas.Iterator.{YieldsList-from_slice}
use Rattle.std.proofs.lemmas.Iterator.Search.{position_from_yields_List}
use Rattle.enc_utf_16.proofs.Ends.{is_zero_pair, pair-here, no-pair}
use Rattle.enc_utf_16.proofs.wstring_end.Goals as goal

pub returns-in-Some : goal.returns-in-Some
returns-in-Some c =
    pair-here c.args.bytes.now _ _ c.as_chunks.ensures.front
    (position_from_yields_List is_zero_pair _ _ _ c.position.ensures.ran (YieldsList-from_slice c.as_chunks.result.0.now cc) (λ x b q k. search (rules, tests)))
    c.in-Some.n c.in-Some.is

pub returns-in-None : goal.returns-in-None
returns-in-None c =
    no-pair c.args.bytes.now _ _ c.as_chunks.ensures.front
    (position_from_yields_List is_zero_pair _ _ _ c.position.ensures.ran (YieldsList-from_slice c.as_chunks.result.0.now cc) (λ x b q k. search (rules, tests)))
    c.in-None.is
