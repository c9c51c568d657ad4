-- `store_fields` meets its contract. The loop keeps: the records left, stored from here, give the whole, and no field left is refused. Assumes nothing.
use Prim.Native.Nat.{◌≤◌}
use Rattle.type_book.specs.Book.{fields_of}
use Rattle.resolve_field_types.proofs.Records.{Storing}
use Rattle.resolve_field_types.proofs.store_fields.Given as goal

abbrev pub invariant-loop-i : goal.invariant-loop-i
invariant-loop-i l = (l.i-end ≤ fields_of l.book l.t) × Storing l.book l.width l.t l.i-end l.initial.records l.i l.records
