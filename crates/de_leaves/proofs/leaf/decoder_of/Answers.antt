use Rattle.de_leaves.proofs.Leaves.{decoder_wide, decoder_marked, decoder_narrow}
use Rattle.de_leaves.proofs.leaf.decoder_of.Goals as goal

ruleset exits = (decoder_wide, decoder_marked, decoder_narrow)

pub returns-then-to_u32-eq31 : goal.returns-then-to_u32-eq31
returns-then-to_u32-eq31 c = search exits

pub returns-then-is_utf_8 : goal.returns-then-is_utf_8
returns-then-is_utf_8 c = search exits

-- src/leaf.rt:141:1
pub returns : goal.returns
returns c = search exits
