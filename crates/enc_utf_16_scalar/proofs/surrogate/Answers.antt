-- `enc_utf_16_scalar::surrogate` meets its contract: each exit is a law of the decoder. Assumes nothing.
use Rattle.enc_utf_16_scalar.proofs.Decodes.{scalar_trailing, scalar-cut, scalar-low-after, scalar-high-after, scalar_pair}
use Rattle.enc_utf_16_scalar.proofs.surrogate.Goals as goal
use Rattle.enc_utf_16_scalar.proofs.surrogate.Goals.{then-trail-lt56320-via-then-trail-lt56320, then-trail-lt56320-via-else-trail-lt56320+then-trail-gt57343}

pub returns-then-lead-gt56319 : goal.returns-then-lead-gt56319
returns-then-lead-gt56319 c = search scalar_trailing

pub returns-then-bytes-at-lt4 : goal.returns-then-bytes-at-lt4
returns-then-bytes-at-lt4 c = search scalar-cut

pub returns-then-trail-lt56320 : goal.returns-then-trail-lt56320
returns-then-trail-lt56320 c =
    elim c.then-trail-lt56320.branch [ then-trail-lt56320-via-then-trail-lt56320 w ↦ search scalar-low-after | then-trail-lt56320-via-else-trail-lt56320+then-trail-gt57343 w ↦ search scalar-high-after ]

pub returns : goal.returns
returns c = search scalar_pair
