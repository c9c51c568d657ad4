-- `part_well_formed` meets its contract. Assumes nothing.
use Rattle.enc_utf_8.proofs.Cuts.{part_none}
use Rattle.enc_utf_8_decoder.proofs.Steps.{part-end, part-inner, part-begun}
use Rattle.enc_utf_8_decoder.proofs.part_well_formed.Goals as goal

pub returns-then-e-a : goal.returns-then-e-a
returns-then-e-a c = search part_none

pub returns-then-e-text : goal.returns-then-e-text
returns-then-e-text c = search part-end

pub returns-else-e-text : goal.returns-else-e-text
returns-else-e-text c = search part-inner

pub returns-else-not-is_trail : goal.returns-else-not-is_trail
returns-else-not-is_trail c = search part-begun
