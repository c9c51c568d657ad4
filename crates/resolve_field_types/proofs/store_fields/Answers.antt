-- `store_fields` meets its contract. The loop keeps: the records left, stored from here, give the whole, and no field left is refused. Assumes nothing.
use borrow.Author.Rules.{rules}
use Rattle.resolve_field_types.proofs.Fields.{field-first, field-number}
use Rattle.resolve_field_types.proofs.Records.{store-start, store-end, store-room, store-again, store-refused}
use Rattle.resolve_field_types.proofs.store_fields.Goals as goal

ruleset exits = (store-refused, store-end)

pub loop-i-init : goal.loop-i-init
loop-i-init c = (search rules, search store-start)

pub overflow_add-t : goal.overflow_add-t
overflow_add-t c = search field-first

pub overflow_add-t-in-loop-i : goal.overflow_add-t-in-loop-i
overflow_add-t-in-loop-i c = search field-number

pub store_field-requires : goal.store_field-requires
store_field-requires c = search store-room

pub returns-in_default : goal.returns-in_default
returns-in_default c = search exits

pub loop-i-preserved : goal.loop-i-preserved
loop-i-preserved c = (search rules, search store-again)

pub returns : goal.returns
returns c = search exits
