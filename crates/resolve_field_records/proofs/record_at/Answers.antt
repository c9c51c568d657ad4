-- `record_at` meets its contract. Assumes nothing.
use mathlib.Core.Path.{sym, ap, ◌∙◌}
use Rattle.resolve_field_types.proofs.Numbers.{field_is}
use lib.Seq.{length-take-le}
use Rattle.resolve_field_records.specs.Stored.{resolved_record}
use Rattle.resolve_field_records.proofs.record_at.Goals as goal

pub slice_bounds-resolve_field_in-end : goal.slice_bounds-resolve_field_in-end
slice_bounds-resolve_field_in-end c = sym (length-take-le c.args.len c.args.buffer.now c.requires.inside)

pub returns : goal.returns
returns c = c.record_of.ensures ∙ ap resolved_record (field_is _ _ c.resolve_field_in-answer.ensures.is)
