-- `vectors::replay::run_page` is safe and ends. The measure is what is left of the page, since each case has bytes.
use Rattle.std.proofs.Common.{length}
use Rattle.vectors.proofs.replay.run_page.Given as goal

abbrev pub decreases-loop-rest : goal.decreases-loop-rest
decreases-loop-rest g l = length l.rest
