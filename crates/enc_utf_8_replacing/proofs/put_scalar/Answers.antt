use Rattle.enc_utf_8_replacing.proofs.Decoders.{part-went, part-never}
use Rattle.enc_utf_8_replacing.proofs.put_scalar.Goals as goal

-- src/lib.rt:120:1
pub returns-in-Next : goal.returns-in-Next
returns-in-Next c = search part-went

-- src/lib.rt:120:1
pub returns-in-Full : goal.returns-in-Full
returns-in-Full c = search part-never
