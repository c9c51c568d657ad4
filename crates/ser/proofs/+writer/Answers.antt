-- The functions that write a value meet their contracts: a law for each exit and each step of a loop. Assumes nothing.
use Rattle.std.proofs.Common.{rules}
use mathlib.Core.Path.{refl}
use Rattle.type_category.proofs.Numbers.{category-is}
use Rattle.tape_shape.proofs.Strides.{along-start, along-again, along-fits, next_dimension, fills-further}
use Rattle.validators.proofs.Validities.{size_is, size-other}
use Rattle.ser.proofs.Exits.{walk_deep, value-end, value-array, value-map, value-leaf, map-array, map-leaf, map_odd, map-given, map-own, own-fine, own-lacks, own-endless, keys-start, keys-stop, keys-end, keys-turn, keyed_stop, keyed_over, keyed_value_lem, key-all, keyed_valid, keyed_typed, keyed_category, map-ready, given-none, firsts_empty, own-entries, last-given, element-none, array-stop, array-element, counted_stop, counted-elements, counted-given, counted_firsts, elements-start, elements-again, elements-stop, elements-over, elements-under, elements-end, element-last, element-further, leaf-inside, entered-typed, entered-fills, part_end, part-fills}
use Rattle.ser.proofs.+writer.Goals as goal

ruleset values = (value-end, value-array, value-map, value-leaf, walk_deep, refl)

ruleset maps = (map-array, map-leaf, map_odd, map-given, map-own, size_is, size-other, refl)

ruleset own = (own-fine, own-lacks, own-endless, refl)

ruleset key-exits = (keyed_stop, keyed_over, keyed_value_lem, refl)

ruleset arrays = (array-stop, array-element, refl)

ruleset dimensions = (counted_stop, counted-elements, refl)

ruleset keys-exits = (keys-stop, keys-end, refl)

ruleset elements-exits = (elements-stop, elements-over, elements-under, elements-end, refl)

pub array_writer::array-dimension-requires : goal.array_writer::array-dimension-requires
array_writer::array-dimension-requires t c = (search rules, (search rules, search entered-typed, search category-is, search entered-fills))

pub array_writer::array-returns-in-Element : goal.array_writer::array-returns-in-Element
array_writer::array-returns-in-Element t c = search arrays

pub array_writer::array-returns-in-Stop : goal.array_writer::array-returns-in-Stop
array_writer::array-returns-in-Stop t c = search arrays

pub array_writer::dimension-elements-requires : goal.array_writer::dimension-elements-requires
array_writer::dimension-elements-requires t c = let q = c.dimension_in-counted.ensures in (search rules, (search rules, search rules, search rules, search rules, search rules, search (counted-given, q), search (counted_firsts, q), search rules))

pub array_writer::dimension-returns-in-Elements : goal.array_writer::dimension-returns-in-Elements
array_writer::dimension-returns-in-Elements t c = search dimensions

pub array_writer::dimension-returns-in-Stop : goal.array_writer::dimension-returns-in-Stop
array_writer::dimension-returns-in-Stop t c = search dimensions

pub array_writer::each_element-loop-i-init : goal.array_writer::each_element-loop-i-init
array_writer::each_element-loop-i-init t c = (search along-start, search rules, search elements-start)

pub array_writer::each_element-returns-in_default : goal.array_writer::each_element-returns-in_default
array_writer::each_element-returns-in_default t c = search elements-exits

pub array_writer::each_element-returns-then-q-i : goal.array_writer::each_element-returns-then-q-i
array_writer::each_element-returns-then-q-i t c = search elements-exits

pub array_writer::each_element-overflow_add-to : goal.array_writer::each_element-overflow_add-to
array_writer::each_element-overflow_add-to t c = along-fits _ _ _ _ _ _ _ _ _ (search rules) c.loop-i.invariant.0 (search rules)

pub array_writer::each_element-slice_bounds-part-end : goal.array_writer::each_element-slice_bounds-part-end
array_writer::each_element-slice_bounds-part-end t c = part_end _ _ _ _ _ _ _ _ _ _ (search rules) c.loop-i.invariant.1 c.loop-i.invariant.0

pub array_writer::each_element-element-here-requires : goal.array_writer::each_element-element-here-requires
array_writer::each_element-element-here-requires t c = (search rules, (search rules, search rules, search rules, search rules, search rules, search rules, search part-fills))

pub array_writer::each_element-loop-i-preserved : goal.array_writer::each_element-loop-i-preserved
array_writer::each_element-loop-i-preserved t c = (search along-again, search rules, search elements-again)

pub array_writer::each_element-returns-in_default-here : goal.array_writer::each_element-returns-in_default-here
array_writer::each_element-returns-in_default-here t c = search elements-exits

pub array_writer::each_element-returns-then-q : goal.array_writer::each_element-returns-then-q
array_writer::each_element-returns-then-q t c = search elements-exits

pub array_writer::each_element-returns : goal.array_writer::each_element-returns
array_writer::each_element-returns t c = search elements-exits

pub array_writer::element-value-requires : goal.array_writer::element-value-requires
array_writer::element-value-requires t c = (search rules, (search rules, search rules, search rules, search last-given, search rules))

pub array_writer::element-returns-then-q : goal.array_writer::element-returns-then-q
array_writer::element-returns-then-q t c = search element-last

pub array_writer::element-returns-then-q-eq0 : goal.array_writer::element-returns-then-q-eq0
array_writer::element-returns-then-q-eq0 t c = search walk_deep

pub array_writer::element-overflow_add-d : goal.array_writer::element-overflow_add-d
array_writer::element-overflow_add-d t c = let p = c.requires in search (next_dimension, p)

pub array_writer::element-dimension-requires : goal.array_writer::element-dimension-requires
array_writer::element-dimension-requires t c = (search rules, (search rules, search rules, search rules, search fills-further))

pub array_writer::element-returns : goal.array_writer::element-returns
array_writer::element-returns t c = let p = c.requires in search (element-further, p)

pub array_writer::elements-each_element-requires : goal.array_writer::elements-each_element-requires
array_writer::elements-each_element-requires t c = (search rules, (search rules, search rules, search rules, search rules, search rules, search element-none, search firsts_empty, search rules))

pub map_writer::each_key-loop-init : goal.map_writer::each_key-loop-init
map_writer::each_key-loop-init t c = (search rules, search keys-start)

pub map_writer::each_key-returns-in_default : goal.map_writer::each_key-returns-in_default
map_writer::each_key-returns-in_default t c = search keys-exits

pub map_writer::each_key-keyed_value-here-requires : goal.map_writer::each_key-keyed_value-here-requires
map_writer::each_key-keyed_value-here-requires t c = (search rules, search key-all)

pub map_writer::each_key-loop-preserved : goal.map_writer::each_key-loop-preserved
map_writer::each_key-loop-preserved t c = (search rules, search keys-turn)

pub map_writer::each_key-returns-in_default-here : goal.map_writer::each_key-returns-in_default-here
map_writer::each_key-returns-in_default-here t c = search keys-exits

pub map_writer::each_key-returns : goal.map_writer::each_key-returns
map_writer::each_key-returns t c = search keys-exits

pub map_writer::keyed_value-returns-then-out-to : goal.map_writer::keyed_value-returns-then-out-to
map_writer::keyed_value-returns-then-out-to t c = search key-exits

pub map_writer::keyed_value-value-requires : goal.map_writer::keyed_value-value-requires
map_writer::keyed_value-value-requires t c = (search rules, (search keyed_valid, search keyed_typed, search keyed_category, search given-none, search firsts_empty))

pub map_writer::keyed_value-returns-else-out-to : goal.map_writer::keyed_value-returns-else-out-to
map_writer::keyed_value-returns-else-out-to t c = search key-exits

pub map_writer::keyed_value-returns-in-Stop : goal.map_writer::keyed_value-returns-in-Stop
map_writer::keyed_value-returns-in-Stop t c = search key-exits

pub map_writer::map-returns-in_default : goal.map_writer::map-returns-in_default
map_writer::map-returns-in_default t c = search maps

pub map_writer::map-each_key-requires : goal.map_writer::map-each_key-requires
map_writer::map-each_key-requires t c = (search rules, (search rules, search rules, search map-ready, search rules))

pub map_writer::map-returns-then-plan-gt0 : goal.map_writer::map-returns-then-plan-gt0
map_writer::map-returns-then-plan-gt0 t c = search maps

pub map_writer::map-returns-else-plan-gt0 : goal.map_writer::map-returns-else-plan-gt0
map_writer::map-returns-else-plan-gt0 t c = search maps

pub map_writer::map-returns-in-Array : goal.map_writer::map-returns-in-Array
map_writer::map-returns-in-Array t c = search maps

pub map_writer::map-returns-in-Leaf : goal.map_writer::map-returns-in-Leaf
map_writer::map-returns-in-Leaf t c = search maps

pub map_writer::own_keys-note_firsts-requires : goal.map_writer::own_keys-note_firsts-requires
map_writer::own_keys-note_firsts-requires t c = search leaf-inside

pub map_writer::own_keys-keys-requires : goal.map_writer::own_keys-keys-requires
map_writer::own_keys-keys-requires t c = (search rules, (search rules, search rules, search own-entries, search rules))

pub map_writer::own_keys-returns-in-Fine : goal.map_writer::own_keys-returns-in-Fine
map_writer::own_keys-returns-in-Fine t c = search own

pub map_writer::own_keys-returns-in-NotFound : goal.map_writer::own_keys-returns-in-NotFound
map_writer::own_keys-returns-in-NotFound t c = search own

pub map_writer::own_keys-returns-in-TooLong : goal.map_writer::own_keys-returns-in-TooLong
map_writer::own_keys-returns-in-TooLong t c = search own

pub serializer::value-returns-then-v-eq0 : goal.serializer::value-returns-then-v-eq0
serializer::value-returns-then-v-eq0 t c = search values

pub serializer::value-returns-then-r-eq-ARRAY : goal.serializer::value-returns-then-r-eq-ARRAY
serializer::value-returns-then-r-eq-ARRAY t c = search values

pub serializer::value-returns-then-r-eq-MAP : goal.serializer::value-returns-then-r-eq-MAP
serializer::value-returns-then-r-eq-MAP t c = search values

pub serializer::value-leaf-requires : goal.serializer::value-leaf-requires
serializer::value-leaf-requires t c = let p = c.requires in (search (leaf-inside, p), search (rules, p))

pub serializer::value-returns-else-r-eq-MAP : goal.serializer::value-returns-else-r-eq-MAP
serializer::value-returns-else-r-eq-MAP t c = search values

pub serializer::value-returns-in-None : goal.serializer::value-returns-in-None
serializer::value-returns-in-None t c = search values
