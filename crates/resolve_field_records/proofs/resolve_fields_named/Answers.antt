-- What the fields of a checked root count has room and can be looked up, and a refusal counts no record.
use mathlib.Core.Path.{◌≡◌}
use lib.ListN.{length}
use Rattle.type_book_check.specs.Given.{name, check_given}
use Rattle.type_book_check.proofs.Givens.{given_is}
use Rattle.resolve_field_records.specs.Named.{Checked}
use Rattle.resolve_field_records.proofs.Named.{named-checked, checked-ready, given_stored}
use Rattle.resolve_field_records.proofs.resolve_fields_named.Goals as goal

pub checked_fields-answer-requires : goal.checked_fields-answer-requires
checked_fields-answer-requires c = named-checked c.args.buffer.now c.args.len c.args.name.now _ (given_is _ _ c.check_root_named-root.ensures)

pub fill_records-requires : goal.fill_records-requires
fill_records-requires c =
    let buffer = c.args.buffer.now in
    let k = c.check_root_named-root.result in
    let stands : k ≡ check_given buffer c.args.len (name c.args.name.now) = given_is _ _ c.check_root_named-root.ensures in
    let p = checked-ready buffer c.args.len c.args.width k (named-checked buffer c.args.len c.args.name.now k stands) (length c.args.records.now) in
    rw (c.block_of-t.ensures, c.count_of-n.ensures, c.checked_fields-answer.ensures) (p.1, p.0)

pub returns : goal.returns
returns c =
    given_stored c.args.buffer.now c.args.len c.args.width (name c.args.name.now) c.check_root_named-root.result (given_is _ _ c.check_root_named-root.ensures)
    c.args.records.now c.checked_fields-answer.result c.checked_fields-answer.ensures _ c.count_of-n.ensures _ c.block_of-t.ensures _ c.fill_records.ensures
