use Rattle.enc_utf_8_replacing.proofs.Decoders.{part-went, part-never}
use Rattle.enc_utf_8_replacing.proofs.put_part.Goals as goal

-- src/lib.rt:108:1
pub returns-in-Some : goal.returns-in-Some
returns-in-Some c = search part-went

-- src/lib.rt:108:1
pub returns-in-None : goal.returns-in-None
returns-in-None c = search part-never
