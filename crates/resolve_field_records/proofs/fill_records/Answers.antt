use lib.ListN.{length-set}
use Rattle.resolve_field_records.proofs.Stored.{stored_turn, stored_end}
use Rattle.resolve_field_records.proofs.fill_records.Goals as goal

pub loop-i-preserved : goal.loop-i-preserved
loop-i-preserved c = (simp length-set c.loop-i.invariant.0, search stored_turn)

pub returns : goal.returns
returns c = search stored_end
