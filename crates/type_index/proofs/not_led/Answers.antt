-- `not_led` meets its contract. Assumes nothing.
use Rattle.type_index.proofs.Trusts.{not-held, not-unknown, not_foreign}
use Rattle.type_index.proofs.not_led.Goals as goal

pub returns-in-Held : goal.returns-in-Held
returns-in-Held c = search not-held

pub returns-in-Unknown : goal.returns-in-Unknown
returns-in-Unknown c = search not-unknown

pub returns-in-Foreign : goal.returns-in-Foreign
returns-in-Foreign c = search not_foreign
