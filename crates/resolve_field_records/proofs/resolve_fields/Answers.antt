-- What `check_fields` counts has room and can be looked up, and a refusal counts no record.
use mathlib.Core.Path.{◌≡◌, ◌∙◌}
use lib.ListN.{length}
use Rattle.resolve_field_types.specs.Calls.{root_fields}
use Rattle.resolve_field_types.proofs.Numbers.{fields-is}
use Rattle.resolve_field_records.specs.Stored.{stored_count}
use Rattle.resolve_field_records.proofs.Stored.{plan-ready, filled_stored}
use Rattle.resolve_field_records.proofs.resolve_fields.Goals as goal

pub fill_records-requires : goal.fill_records-requires
fill_records-requires c =
    let buffer = c.args.buffer.now in
    let e : c.check_fields-answer.result ≡ root_fields buffer c.args.len c.args.width c.args.root (length c.args.records.now) = fields-is _ _ c.check_fields-answer.ensures in
    let p = plan-ready buffer c.args.len c.args.width c.args.root (length c.args.records.now) in
    rw (c.count_of-n.ensures, e) (p.1, p.0)

pub returns : goal.returns
returns c =
    let buffer = c.args.buffer.now in
    let e : c.check_fields-answer.result ≡ root_fields buffer c.args.len c.args.width c.args.root (length c.args.records.now) = fields-is _ _ c.check_fields-answer.ensures in
    record {
      is = c.check_fields-answer.ensures;
      records = c.fill_records.ensures ∙ rw (c.count_of-n.ensures, e) (filled_stored buffer c.args.len c.args.width c.args.root (root_fields buffer c.args.len c.args.width c.args.root (length c.args.records.now)) c.args.records.now);
    }
