use Rattle.ser.proofs.Wholes.{call_room, call_book, call_type, call_refused, call_checked}
use Rattle.type_book_check.proofs.Numbers.{root_is}
use Rattle.ser.proofs.serializer.write.Goals as goal

ruleset exits = (call_refused, call_checked, root_is)

-- src/serializer.rt:262:45
pub slice_bounds-write_indexed-end : goal.slice_bounds-write_indexed-end
slice_bounds-write_indexed-end c = search (call_room, root_is)

-- src/serializer.rt:262:31
pub write_indexed-requires : goal.write_indexed-requires
write_indexed-requires c = (search (call_book, root_is), search (call_type, root_is))

-- src/serializer.rt:248:1
pub returns-in-Root : goal.returns-in-Root
returns-in-Root c = search exits

-- src/serializer.rt:248:1
pub returns-in-Refused : goal.returns-in-Refused
returns-in-Refused c = search exits
