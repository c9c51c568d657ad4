-- The levels left fall from a value to the values in it. At one level each function counts as more than those that it calls.
-- A loop over keys or elements keeps the length of the bytes, and what is still to be written then gives what the whole gives.
use mathlib.Core.Path.{◌≡◌}
use Prim.Native.Nat.{◌+◌, ◌*◌, ◌-◌}
use lib.ListN.{length}
use Rattle.ser.specs.Write.{write_ctx, outcome_of, ◌then_writes◌, write_walk, keys_from, elements_write, element_written}
use Rattle.tape_shape.proofs.Strides.{Along}
use Rattle.tape_shape.specs.Array.{stride_of}
use Rattle.ser.proofs.+writer.Given as goal

abbrev pub decreases-array_writer::array : goal.decreases-array_writer::array
decreases-array_writer::array l = 8 * l.v.left + 5

abbrev pub decreases-array_writer::dimension : goal.decreases-array_writer::dimension
decreases-array_writer::dimension l = 8 * l.p.left + 4

abbrev pub decreases-array_writer::each_element : goal.decreases-array_writer::each_element
decreases-array_writer::each_element l = 8 * l.q.left + 2

abbrev pub decreases-array_writer::element : goal.decreases-array_writer::element
decreases-array_writer::element l = 8 * l.q.left + 1

abbrev pub decreases-array_writer::elements : goal.decreases-array_writer::elements
decreases-array_writer::elements l = 8 * l.q.left + 3

abbrev pub decreases-map_writer::each_key : goal.decreases-map_writer::each_key
decreases-map_writer::each_key l = 8 * l.m.left + 2

abbrev pub decreases-map_writer::keyed_value : goal.decreases-map_writer::keyed_value
decreases-map_writer::keyed_value l = 8 * l.m.left + 1

abbrev pub decreases-map_writer::keys : goal.decreases-map_writer::keys
decreases-map_writer::keys l = 8 * l.m.left + 3

abbrev pub decreases-map_writer::map : goal.decreases-map_writer::map
decreases-map_writer::map l = 8 * l.m.left + 5

abbrev pub decreases-map_writer::own_keys : goal.decreases-map_writer::own_keys
decreases-map_writer::own_keys l = 8 * l.m.left + 4

abbrev pub decreases-serializer::value : goal.decreases-serializer::value
decreases-serializer::value l = 8 * l.v.left

abbrev pub invariant-array_writer::each_element-loop-i : goal.invariant-array_writer::each_element-loop-i
invariant-array_writer::each_element-loop-i l = Along l.book l.q.d l.q.t l.q.e l.q.n l.stride l.from l.i (length l.initial.out) × (length l.out ≡ length l.initial.out) × ((outcome_of l.here l.out then_writes elements_write (write_walk (write_ctx l.book l.q.width l.tape l.text) l.q.left) (write_ctx l.book l.q.width l.tape l.text) (element_written (write_ctx l.book l.q.width l.tape l.text) l.q.d l.q.t l.q.e) (stride_of l.book l.q.d l.q.t l.q.e) l.q.n l.i l.from (l.q.k - l.i)) ≡ (outcome_of l.initial.here l.initial.out then_writes elements_write (write_walk (write_ctx l.book l.q.width l.tape l.text) l.q.left) (write_ctx l.book l.q.width l.tape l.text) (element_written (write_ctx l.book l.q.width l.tape l.text) l.q.d l.q.t l.q.e) (stride_of l.book l.q.d l.q.t l.q.e) l.q.n 0 0 l.q.k))

abbrev pub invariant-map_writer::each_key-loop : goal.invariant-map_writer::each_key-loop
invariant-map_writer::each_key-loop l = (length l.out ≡ length l.initial.out) × ((outcome_of l.here l.out then_writes keys_from (write_walk (write_ctx l.book l.m.width l.tape l.text) l.m.left) (write_ctx l.book l.m.width l.tape l.text) l.m.t (l.m.n - l.counter)) ≡ (outcome_of l.initial.here l.initial.out then_writes keys_from (write_walk (write_ctx l.book l.m.width l.tape l.text) l.m.left) (write_ctx l.book l.m.width l.tape l.text) l.m.t l.m.n))
