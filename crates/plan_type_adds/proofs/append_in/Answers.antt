use Rattle.plan_type_adds.proofs.Appending.{in_known, in_below, in_room, in_fits, in_done}
use Rattle.plan_type_adds.proofs.append_in.Goals as goal

-- src/lib.rt:91:9
pub returns-then-is_marked : goal.returns-then-is_marked
returns-then-is_marked c = search in_known

-- src/lib.rt:95:9
pub returns-then-not-has_room : goal.returns-then-not-has_room
returns-then-not-has_room c = search in_room

-- src/lib.rt:97:9
pub copy-longer-requires : goal.copy-longer-requires
copy-longer-requires c = search in_fits

-- src/lib.rt:98:5
pub bounds-known-n : goal.bounds-known-n
bounds-known-n c = search in_below

-- src/lib.rt:80:1
pub returns : goal.returns
returns c = search in_done
