-- `put_reference` meets its contract: four parts laid one after the other. Assumes nothing.
use Rattle.enc_utf_8.proofs.Lays.{laid-long}
use native.Mathlib.Omega.{arith}
use lib.ListN.{length-set}
use Rattle.enc_windows_1252_encoder.proofs.Encoders.{reference-room, semicolon_room, reference-laid}
use Rattle.enc_windows_1252_encoder.proofs.put_reference.Goals as goal

pub bounds-out-at-2 : goal.bounds-out-at-2
bounds-out-at-2 c = simp length-set (omega arith)

pub put_decimal-end-requires : goal.put_decimal-end-requires
put_decimal-end-requires c = search reference-room

pub bounds-out-end : goal.bounds-out-end
bounds-out-end c = search semicolon_room

pub returns : goal.returns
returns c = search reference-laid

pub overflow_add-result : goal.overflow_add-result
overflow_add-result c = omega (arith, (returns c).next)

pub shape_of-out : goal.shape_of-out
shape_of-out c = laid-long c.requires (returns c)
