use Rattle.enc_utf_8_decoder.proofs.Steps.{two_none, two-whole, two-cut}
use Rattle.enc_utf_8_decoder.proofs.after_two.Goals as goal

ruleset exits = (two_none, two-whole, two-cut)

-- src/lib.rt:141:9
pub returns-then-text-at-lt194 : goal.returns-then-text-at-lt194
returns-then-text-at-lt194 c = search exits

-- src/lib.rt:144:9
pub returns-then-is_trail : goal.returns-then-is_trail
returns-then-is_trail c = search exits

-- src/lib.rt:136:1
pub returns : goal.returns
returns c = search exits
