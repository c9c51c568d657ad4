-- `index_of` meets its contract. Assumes nothing.
use mathlib.Core.Path.{sym}
use lib.Seq.{length-take-le}
use Rattle.resolve_field_records.proofs.index_of.Goals as goal

pub slice_bounds-fill_names-end : goal.slice_bounds-fill_names-end
slice_bounds-fill_names-end c = sym (length-take-le c.args.len c.args.buffer.now c.if-len-buffer.true)
