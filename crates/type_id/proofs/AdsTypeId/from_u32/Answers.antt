-- `type_id::AdsTypeId::from_u32` meets its contract. Assumes nothing.
use Rattle.type_id.proofs.TypeIds.{named, unknown}
use Rattle.type_id.proofs.AdsTypeId.from_u32.Goals as goal

pub returns-in-0 : goal.returns-in-0
returns-in-0 c = search (named, tt)

pub returns-in-2 : goal.returns-in-2
returns-in-2 c = search (named, tt)

pub returns-in-3 : goal.returns-in-3
returns-in-3 c = search (named, tt)

pub returns-in-4 : goal.returns-in-4
returns-in-4 c = search (named, tt)

pub returns-in-5 : goal.returns-in-5
returns-in-5 c = search (named, tt)

pub returns-in-16 : goal.returns-in-16
returns-in-16 c = search (named, tt)

pub returns-in-17 : goal.returns-in-17
returns-in-17 c = search (named, tt)

pub returns-in-18 : goal.returns-in-18
returns-in-18 c = search (named, tt)

pub returns-in-19 : goal.returns-in-19
returns-in-19 c = search (named, tt)

pub returns-in-20 : goal.returns-in-20
returns-in-20 c = search (named, tt)

pub returns-in-21 : goal.returns-in-21
returns-in-21 c = search (named, tt)

pub returns-in-30 : goal.returns-in-30
returns-in-30 c = search (named, tt)

pub returns-in-31 : goal.returns-in-31
returns-in-31 c = search (named, tt)

pub returns-in-32 : goal.returns-in-32
returns-in-32 c = search (named, tt)

pub returns-in-33 : goal.returns-in-33
returns-in-33 c = search (named, tt)

pub returns-in-34 : goal.returns-in-34
returns-in-34 c = search (named, tt)

pub returns-in-65 : goal.returns-in-65
returns-in-65 c = search (named, tt)

pub returns-in_default : goal.returns-in_default
returns-in_default c = search unknown
