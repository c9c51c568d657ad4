-- `believe` meets its contract. Assumes nothing.
use Rattle.type_index.proofs.Probes.{led-none, led-past, led-here, led-other}
use Rattle.type_index.proofs.believe.Goals as goal
use Rattle.type_index.proofs.believe.Goals.{else-n-searched-via-then-n-searched+else-is_named, else-n-searched-via-else-n-searched}

pub returns-then-slot-eq0 : goal.returns-then-slot-eq0
returns-then-slot-eq0 c = search led-none

pub returns-then-is_named : goal.returns-then-is_named
returns-then-is_named c = search led-here

pub returns : goal.returns
returns c =
    elim c.else-n-searched.branch [
      | else-n-searched-via-then-n-searched+else-is_named w ↦ search led-other
      | else-n-searched-via-else-n-searched w ↦ search led-past
    ]
