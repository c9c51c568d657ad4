-- The levels left fall from a value to the values in it. At one level each function counts as more than those that it calls.
-- A loop over fields or elements keeps the room of both buffers, and what it has put is the start of the whole trace.
use mathlib.Core.Path.{◌≡◌}
use Prim.Native.Nat.{◌+◌, ◌*◌, ◌-◌}
use lib.ListN.{length}
use Rattle.de.specs.Walk.{ctx, read_walk, members_from, elements_from}
use Rattle.tape_array_elements.specs.Element.{element_item}
use Rattle.de_output.proofs.Runs.{Rest}
use Rattle.tape_shape.proofs.Strides.{Along}
use Rattle.tape_shape.specs.Array.{stride_of}
use Rattle.de.proofs.+reader.Given as goal

abbrev pub decreases-array_access::array : goal.decreases-array_access::array
decreases-array_access::array l = 6 * l.v.left + 4

abbrev pub decreases-array_access::dimension : goal.decreases-array_access::dimension
decreases-array_access::dimension l = 6 * l.p.left + 3

abbrev pub decreases-array_access::element : goal.decreases-array_access::element
decreases-array_access::element l = 6 * l.p.left + 1

abbrev pub decreases-array_access::elements : goal.decreases-array_access::elements
decreases-array_access::elements l = 6 * l.p.left + 2

abbrev pub decreases-deserializer::value : goal.decreases-deserializer::value
decreases-deserializer::value l = 6 * l.v.left

abbrev pub decreases-map_access::field : goal.decreases-map_access::field
decreases-map_access::field l = 6 * l.m.left + 1

abbrev pub decreases-map_access::map : goal.decreases-map_access::map
decreases-map_access::map l = 6 * l.v.left + 4

abbrev pub decreases-map_access::member : goal.decreases-map_access::member
decreases-map_access::member l = 6 * l.m.left + 2

abbrev pub decreases-map_access::members : goal.decreases-map_access::members
decreases-map_access::members l = 6 * l.v.left + 3

abbrev pub invariant-array_access::elements-loop : goal.invariant-array_access::elements-loop
invariant-array_access::elements-loop l = Along l.book l.p.d l.p.t l.p.element.resolved l.n l.stride l.from l.counter (length l.bytes) × (length l.tape ≡ length l.initial.tape) × (length l.text ≡ length l.initial.text) × Rest (elements_from (read_walk (ctx l.book l.p.width) l.p.left) (element_item l.book l.p.d l.p.t l.p.element) (stride_of l.book l.p.d l.p.t l.p.element.resolved) l.bytes 0 l.n) l.initial.tape l.initial.text l.initial.here (elements_from (read_walk (ctx l.book l.p.width) l.p.left) (element_item l.book l.p.d l.p.t l.p.element) (stride_of l.book l.p.d l.p.t l.p.element.resolved) l.bytes l.from (l.n - l.counter)) l.tape l.text l.here

abbrev pub invariant-map_access::members-loop-i : goal.invariant-map_access::members-loop-i
invariant-map_access::members-loop-i l = (length l.tape ≡ length l.initial.tape) × (length l.text ≡ length l.initial.text) × Rest (members_from (read_walk (ctx l.book l.v.width) l.v.left) (ctx l.book l.v.width) l.bytes (l.v.typed.resolved + 1) l.n) l.initial.tape l.initial.text l.initial.here (members_from (read_walk (ctx l.book l.v.width) l.v.left) (ctx l.book l.v.width) l.bytes (l.v.typed.resolved + 1 + l.i) (l.n - l.i)) l.tape l.text l.here
