-- `goes_on` meets its contract. Assumes nothing.
use Rattle.gateway_appending.proofs.Known.{goes-held, goes-unknown, goes_foreign}
use Rattle.gateway_appending.proofs.goes_on.Goals as goal

pub returns-in-Held : goal.returns-in-Held
returns-in-Held c = search (goes-held, goes-unknown, goes_foreign)

pub returns-in-Unknown : goal.returns-in-Unknown
returns-in-Unknown c = search (goes-held, goes-unknown, goes_foreign)

pub returns-in-Foreign : goal.returns-in-Foreign
returns-in-Foreign c = search (goes-held, goes-unknown, goes_foreign)
