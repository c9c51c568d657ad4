-- `one_more` meets its contract. Assumes nothing.
use Rattle.enc_utf_8.proofs.Decodes.{more-end, more-below, more-above, more-last}
use Rattle.enc_utf_8_decoder.proofs.one_more.Goals as goal
use Rattle.enc_utf_8_decoder.proofs.one_more.Goals.{then-b-lower-via-then-b-lower, then-b-lower-via-else-b-lower+then-upper-b}

pub returns-then-text-at : goal.returns-then-text-at
returns-then-text-at c = search more-end

pub returns-then-b-lower : goal.returns-then-b-lower
returns-then-b-lower c = elim c.then-b-lower.branch [ then-b-lower-via-then-b-lower w ↦ search more-below | then-b-lower-via-else-b-lower+then-upper-b w ↦ search more-above ]

pub returns : goal.returns
returns c = search more-last
