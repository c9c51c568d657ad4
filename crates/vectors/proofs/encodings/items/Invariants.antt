-- `vectors::encodings::items` is safe and ends. The measure is what is left of the text.
use Rattle.std.proofs.Common.{◌-◌, length}
use Rattle.vectors.proofs.encodings.items.Given as goal

abbrev pub decreases-loop-at : goal.decreases-loop-at
decreases-loop-at l = length l.text - l.at
