-- The functions that read a value meet their contracts: a law for each exit and each step of a loop. Assumes nothing.
use Rattle.std.proofs.Common.{rules}
use mathlib.Core.Path.{refl}
use Rattle.tape_shape.proofs.Strides.{along-start, along-again, along-end, along-fits, element-fills, next_dimension, fills_first, fills-further}
use Rattle.de.proofs.Exits.{value_deep, value-map, value-array, value-leaf, field-stop, field-value, part-typed, part-category, part-inside, part-order, members-start, members-again, members-end, members-stop, map_odd, map-fine, map-lacks, map-endless, array_odd, array-nothing, array-lacks, array-endless, array-other, array-base, dimension_fine, dimension_lacks, dimension_endless, elements-start, elements-again, elements-end, elements-stop, element-last, element_deep, element-further, field-number, field-first, typed-base, typed-found, leaf-inside, map-ready, given-none, map-given, own-entries, own-elements, last-given}
use Rattle.de.proofs.FieldNumbers.{member-number, member-field}
use Rattle.resolve_field_plan.proofs.Plans.{entry_of}
use Rattle.type_category.proofs.Numbers.{category-is}
use Rattle.validators.proofs.Validities.{size_is, size-other}
use Rattle.de.proofs.+reader.Goals as goal

ruleset array-exits = (array_odd, array-nothing, array-lacks, array-endless, array-other, array-base, category-is, size_is, size-other)

ruleset map-exits = (map_odd, map-given, map-fine, map-lacks, map-endless, size_is, size-other)

pub array_access::array-returns-in_default : goal.array_access::array-returns-in_default
array_access::array-returns-in_default t c = search array-exits

pub array_access::array-returns-in_default-found : goal.array_access::array-returns-in_default-found
array_access::array-returns-in_default-found t c = search array-exits

pub array_access::array-resolve_alias_in-resolved-requires : goal.array_access::array-resolve_alias_in-resolved-requires
array_access::array-resolve_alias_in-resolved-requires t c = (search rules, search typed-found)

pub array_access::array-dimension-requires : goal.array_access::array-dimension-requires
array_access::array-dimension-requires t c = (search rules, (search rules, search typed-base, search category-is, search fills_first))

pub array_access::array-returns-then-product_is : goal.array_access::array-returns-then-product_is
array_access::array-returns-then-product_is t c = search array-exits

pub array_access::array-returns-else-product_is : goal.array_access::array-returns-else-product_is
array_access::array-returns-else-product_is t c = search array-exits

pub array_access::array-returns-in-NotFound : goal.array_access::array-returns-in-NotFound
array_access::array-returns-in-NotFound t c = search array-exits

pub array_access::array-returns-in-TooLong : goal.array_access::array-returns-in-TooLong
array_access::array-returns-in-TooLong t c = search array-exits

pub array_access::dimension-elements-requires : goal.array_access::dimension-elements-requires
array_access::dimension-elements-requires t c = (search rules, (search rules, search rules, search rules, own-elements _ _ _ _ _ _ _ c.element_check-fields.ensures (search rules), search rules))

pub array_access::dimension-returns-in-Fine : goal.array_access::dimension-returns-in-Fine
array_access::dimension-returns-in-Fine t c = search dimension_fine

pub array_access::dimension-returns-in-NotFound : goal.array_access::dimension-returns-in-NotFound
array_access::dimension-returns-in-NotFound t c = search dimension_lacks

pub array_access::dimension-returns-in-TooLong : goal.array_access::dimension-returns-in-TooLong
array_access::dimension-returns-in-TooLong t c = search dimension_endless

pub array_access::element-value-requires : goal.array_access::element-value-requires
array_access::element-value-requires t c = (search rules, (search rules, search rules, search rules, search last-given))

pub array_access::element-returns-then-is_last : goal.array_access::element-returns-then-is_last
array_access::element-returns-then-is_last t c = search element-last

pub array_access::element-returns-then-p-eq0 : goal.array_access::element-returns-then-p-eq0
array_access::element-returns-then-p-eq0 t c = search element_deep

pub array_access::element-overflow_add-next : goal.array_access::element-overflow_add-next
array_access::element-overflow_add-next t c = search next_dimension

pub array_access::element-dimension-requires : goal.array_access::element-dimension-requires
array_access::element-dimension-requires t c = (search rules, (search rules, search rules, search rules, search fills-further))

pub array_access::element-returns : goal.array_access::element-returns
array_access::element-returns t c = search element-further

pub array_access::elements-loop-init : goal.array_access::elements-loop-init
array_access::elements-loop-init t c = (search along-start, search rules, search rules, search elements-start)

pub array_access::elements-returns-in_default : goal.array_access::elements-returns-in_default
array_access::elements-returns-in_default t c = search elements-stop

pub array_access::elements-overflow_add-to : goal.array_access::elements-overflow_add-to
array_access::elements-overflow_add-to t c = along-fits _ _ _ _ _ _ _ _ _ (search rules) c.loop.invariant.0 (search rules)

pub array_access::elements-slice_bounds-element-end : goal.array_access::elements-slice_bounds-element-end
array_access::elements-slice_bounds-element-end t c = along-end _ _ _ _ _ _ _ _ _ (search rules) c.loop.invariant.0

pub array_access::elements-element-here-requires : goal.array_access::elements-element-here-requires
array_access::elements-element-here-requires t c = (search rules, (search rules, search rules, search rules, search rules, search element-fills))

pub array_access::elements-loop-preserved : goal.array_access::elements-loop-preserved
array_access::elements-loop-preserved t c = (search along-again, search rules, search rules, search elements-again)

pub array_access::elements-returns : goal.array_access::elements-returns
array_access::elements-returns t c = search elements-end

pub deserializer::value-returns-then-v-eq0 : goal.deserializer::value-returns-then-v-eq0
deserializer::value-returns-then-v-eq0 t c = search value_deep

pub deserializer::value-map-requires : goal.deserializer::value-map-requires
deserializer::value-map-requires t c = (search rules, (search rules, search rules, search map-ready))

pub deserializer::value-leaf-requires : goal.deserializer::value-leaf-requires
deserializer::value-leaf-requires t c = (search leaf-inside, search rules)

pub deserializer::value-returns-in-Map : goal.deserializer::value-returns-in-Map
deserializer::value-returns-in-Map t c = search value-map

pub deserializer::value-returns-in-Array : goal.deserializer::value-returns-in-Array
deserializer::value-returns-in-Array t c = search value-array

pub deserializer::value-returns-in-Leaf : goal.deserializer::value-returns-in-Leaf
deserializer::value-returns-in-Leaf t c = search value-leaf

pub map_access::field-slice_bounds-value-count : goal.map_access::field-slice_bounds-value-count
map_access::field-slice_bounds-value-count t c = search part-order

pub map_access::field-slice_bounds-value-start : goal.map_access::field-slice_bounds-value-start
map_access::field-slice_bounds-value-start t c = search part-order

pub map_access::field-slice_bounds-value-end : goal.map_access::field-slice_bounds-value-end
map_access::field-slice_bounds-value-end t c = search part-inside

pub map_access::field-value-requires : goal.map_access::field-value-requires
map_access::field-value-requires t c = (search rules, (search rules, part-typed c.part_of-part.ensures c.in-Value.is refl, part-category c.part_of-part.ensures c.in-Value.is, search given-none))

pub map_access::field-returns-in-Value : goal.map_access::field-returns-in-Value
map_access::field-returns-in-Value t c = search field-value

pub map_access::field-returns-in-Stop : goal.map_access::field-returns-in-Stop
map_access::field-returns-in-Stop t c = search field-stop

pub map_access::map-returns-in_default : goal.map_access::map-returns-in_default
map_access::map-returns-in_default t c = search map-exits

pub map_access::map-returns-then-plan-gt0 : goal.map_access::map-returns-then-plan-gt0
map_access::map-returns-then-plan-gt0 t c = search map-exits

pub map_access::map-members-requires-in-Fine : goal.map_access::map-members-requires-in-Fine
map_access::map-members-requires-in-Fine t c = (search rules, (search rules, search rules, own-entries _ _ _ _ _ _ c.plan_fields_in-fields.ensures (search rules)))

pub map_access::map-returns-in-Fine : goal.map_access::map-returns-in-Fine
map_access::map-returns-in-Fine t c = search map-exits

pub map_access::map-returns-in-NotFound : goal.map_access::map-returns-in-NotFound
map_access::map-returns-in-NotFound t c = search map-exits

pub map_access::map-returns-in-TooLong : goal.map_access::map-returns-in-TooLong
map_access::map-returns-in-TooLong t c = search map-exits

pub map_access::member-returns-then-number-ne0 : goal.map_access::member-returns-then-number-ne0
map_access::member-returns-then-number-ne0 t c = search member-number

pub map_access::member-returns : goal.map_access::member-returns
map_access::member-returns t c = search member-field

pub map_access::members-loop-i-init : goal.map_access::members-loop-i-init
map_access::members-loop-i-init t c = (search rules, search rules, search members-start)

pub map_access::members-returns-in_default : goal.map_access::members-returns-in_default
map_access::members-returns-in_default t c = search members-stop

pub map_access::members-overflow_add-m : goal.map_access::members-overflow_add-m
map_access::members-overflow_add-m t c = search field-first

pub map_access::members-overflow_add-m-in-loop-i : goal.map_access::members-overflow_add-m-in-loop-i
map_access::members-overflow_add-m-in-loop-i t c = search field-number

pub map_access::members-member-here-requires : goal.map_access::members-member-here-requires
map_access::members-member-here-requires t c = (search rules, (search rules, search entry_of))

pub map_access::members-loop-i-preserved : goal.map_access::members-loop-i-preserved
map_access::members-loop-i-preserved t c = (search rules, search rules, search members-again)

pub map_access::members-returns : goal.map_access::members-returns
map_access::members-returns t c = search members-end
