use native.Mathlib.Omega.{arith}
use Rattle.ser.proofs.Wholes.{before-length, before-formed, before_unformed}
use Rattle.ser.proofs.serializer.refused_before.Goals as goal

ruleset exits = (before-length, before-formed, before_unformed)

pub returns-then-room-len : goal.returns-then-room-len
returns-then-room-len c = (search exits, λ e. omega arith)

pub returns-then-form : goal.returns-then-form
returns-then-form c = search exits

pub returns : goal.returns
returns c = (search exits, λ e. omega arith)
