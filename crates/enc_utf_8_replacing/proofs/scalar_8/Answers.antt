use Rattle.enc_utf_8_replacing.proofs.Texts.{scalar-code, scalar-error, scalar-none}
use Rattle.enc_utf_8_replacing.proofs.scalar_8.Goals as goal

-- src/lib.rt:32:1
pub returns-in-Code : goal.returns-in-Code
returns-in-Code c = search scalar-code

-- src/lib.rt:32:1
pub returns-in-Error : goal.returns-in-Error
returns-in-Error c = search scalar-error

-- src/lib.rt:32:1
pub returns-in-End : goal.returns-in-End
returns-in-End c = search scalar-none
