-- More rows, as one theorem: each row's definitions give what is said. Assumes nothing.
use mathlib.Core.Path.{◌≡◌, refl}
use mathlib.Core.List.{List, [], ◌∷◌, map, flat_map}
use Prim.Native.Nat.{ℕ}
use Rattle.enc_number.specs.Le as enc-number-le
use Rattle.type_book.specs.Book as type-book-book
use Rattle.type_block_form.specs.Form as type-block-form-form
use Rattle.type_doubles.specs.Doubles as type-doubles-doubles
use Rattle.type_book_check.specs.Check as type-book-check-check
use Rattle.type_id.specs.TypeId as type-id-typeid
use Rattle.type_names.specs.Text as type-names-text
use Rattle.type_names.specs.Names as type-names-names
use Rattle.time_types.specs.Types as time-types-types
use Rattle.time_types.specs.Counts as time-types-counts
use Rattle.type_category.specs.Category as type-category-category
use Rattle.type_category.specs.Number as type-category-number
use Rattle.type_provider.specs.Find as type-provider-find
use Rattle.resolvers.specs.Resolve as resolvers-resolve
use Rattle.resolvers.specs.Calls as resolvers-calls
use Rattle.enc_integer.specs.Integer as enc-integer-integer
use Rattle.enc_utf_8.specs.Buffer as enc-utf-8-buffer
use Rattle.enc_utf_8.specs.Utf8 as enc-utf-8-utf8
use Rattle.enc_utf_16.specs.Decode as enc-utf-16-decode
use Rattle.enc_utf_16.specs.WString as enc-utf-16-wstring
use Rattle.enc_text_decoder.specs.Text as enc-text-decoder-text
use Rattle.tape.specs.Record as tape-record
use Rattle.de_leaves.specs.Leaf as de-leaves-leaf
use Rattle.de_output.specs.Trace as de-output-trace
use Rattle.de_output.specs.Answer as de-output-answer
use Rattle.tape_array_elements.specs.Element as tape-array-elements-element
use Rattle.de.specs.Walk as de-walk
use Rattle.de.specs.Read as de-read
use Rattle.enc_windows_1252.specs.Index as enc-windows-1252-index
use Rattle.enc_windows_1252.specs.Text as enc-windows-1252-text
use Rattle.tape.specs.Text as tape-text
use Rattle.tape_form.specs.Ranges as tape-form-ranges
use Rattle.tape_form.specs.Form as tape-form-form
use Rattle.ser_leaf.specs.Leaf as ser-leaf-leaf
use Rattle.ser.specs.Write as ser-write
use Rattle.ser.specs.Call as ser-call
use Rattle.enc_utf_8_replacing.specs.Text as enc-utf-8-replacing-text
use Rattle.type_id.specs.declared.AdsTypeId.TheVariants.{Int8, Int16}
use Rattle.enc_integer.specs.Integer.{integer_read_numbers, read_integer}
use Rattle.cases.specs.Blocks.{block, type_block}
use Rattle.cases.specs.Rows.{Row, int, two_fields, one_type, image, category_row}
use Rattle.cases.specs.More.{marked_string, one_marked, record_row, zhe_row, text_is, more_rows}

-- each row is computed
minus_128 : ◌≡◌ {A = List ℕ} (integer_read_numbers (read_integer Int8 (0x80 ∷ []))) (0 ∷ 7 ∷ 1 ∷ 0xffff_ffff_ffff_ff80 ∷ [])
unfolding enc-integer-integer.integer_numbers enc-integer-integer.integer_read_numbers enc-integer-integer.integer_write_numbers enc-integer-integer.twos_complement enc-integer-integer.twos_bits enc-integer-integer.bytes_value enc-integer-integer.integer_of enc-integer-integer.read_integer enc-integer-integer.fits_signed enc-integer-integer.fits_unsigned enc-integer-integer.fits_id enc-integer-integer.write_integer enc-integer-integer.integer_after enc-integer-integer.integer_bytes enc-number-le.le_value
minus_128 = refl

minus_32768 : ◌≡◌ {A = List ℕ} (integer_read_numbers (read_integer Int16 (0x00 ∷ 0x80 ∷ []))) (0 ∷ 7 ∷ 2 ∷ 0xffff_ffff_ffff_8000 ∷ [])
unfolding enc-integer-integer.integer_numbers enc-integer-integer.integer_read_numbers enc-integer-integer.integer_write_numbers enc-integer-integer.twos_complement enc-integer-integer.twos_bits enc-integer-integer.bytes_value enc-integer-integer.integer_of enc-integer-integer.read_integer enc-integer-integer.fits_signed enc-integer-integer.fits_unsigned enc-integer-integer.fits_id enc-integer-integer.write_integer enc-integer-integer.integer_after enc-integer-integer.integer_bytes enc-number-le.le_value
minus_32768 = refl

plus_32767 : ◌≡◌ {A = List ℕ} (integer_read_numbers (read_integer Int16 (0xff ∷ 0x7f ∷ []))) (0 ∷ 7 ∷ 2 ∷ 32767 ∷ [])
unfolding enc-integer-integer.integer_numbers enc-integer-integer.integer_read_numbers enc-integer-integer.integer_write_numbers enc-integer-integer.twos_complement enc-integer-integer.twos_bits enc-integer-integer.bytes_value enc-integer-integer.integer_of enc-integer-integer.read_integer enc-integer-integer.fits_signed enc-integer-integer.fits_unsigned enc-integer-integer.fits_id enc-integer-integer.write_integer enc-integer-integer.integer_after enc-integer-integer.integer_bytes enc-number-le.le_value
plus_32767 = refl

wide_text : ◌≡◌ {A = List ℕ} (record_row (one_type 31 6) (0x41 ∷ 0x00 ∷ 0x3d ∷ 0xd8 ∷ 0x00 ∷ 0x00 ∷ []) 4) (0 ∷ 1 ∷ 4 ∷ 0x41 ∷ 0xef ∷ 0xbf ∷ 0xbd ∷ text_is 1 4)
unfolding flat_map block enc-number-le.le_value enc-number-le.le_bytes type-book-book.same_name type-book-book.is_named type-block-form-form.sum_of type-block-form-form.sum_right type-block-form-form.every type-block-form-form.unused_zero type-block-form-form.name_form type-block-form-form.names_form type-block-form-form.flags_form type-block-form-form.type_form type-block-form-form.field_form type-block-form-form.entry_form type-doubles-doubles.all_from type-doubles-doubles.is_other type-doubles-doubles.is_first type-book-check-check.size_right type-book-check-check.sum_at type-book-check-check.place_of type-book-check-check.places_onward type-book-check-check.placed_from type-book-check-check.check_blocks type-book-check-check.check_book type-book-check-check.book_numbers type-book-check-check.root_of type-book-check-check.check_root type-book-check-check.at_root type-id-typeid.id_of type-names-text.is_one_of type-names-text.starts_with type-names-text.contains type-names-names.is_pointer_name type-names-names.is_sub_range_name type-names-names.is_primitive_name type-category-category.is_pointer type-category-category.is_reference type-category-category.is_alias type-category-category.or_else type-category-category.is_union type-category-category.methods_category type-category-category.fields_category type-category-category.is_empty_struct type-category-category.bare_category type-category-category.size_category type-category-category.complex_category type-category-category.simple_category type-category-category.category_of type-category-number.category_numbers type-category-number.category_at type-provider-find.find_from type-provider-find.find resolvers-resolve.resolved_numbers resolvers-resolve.is_followed resolvers-resolve.chain_onward resolvers-resolve.follow resolvers-resolve.look_up resolvers-calls.resolution_numbers resolvers-calls.resolution resolvers-calls.root_resolution enc-utf-8-buffer.splice enc-utf-8-buffer.fits_in enc-utf-8-utf8.leading enc-utf-8-utf8.following enc-utf-8-utf8.after_reply enc-utf-8-utf8.decode_from enc-utf-8-utf8.no_error enc-utf-8-utf8.found enc-utf-8-utf8.next_from enc-utf-8-utf8.encoded enc-utf-8-utf8.utf8_of enc-utf-16-decode.unit_alone enc-utf-16-decode.unit_after enc-utf-16-decode.decode16_from enc-utf-16-decode.decode_scalars enc-utf-16-wstring.end16_from enc-text-decoder-text.end_by enc-text-decoder-text.decoded_by tape-record.record_bytes tape-record.record_of tape-record.step_at de-leaves-leaf.leaf_numbers de-leaves-leaf.bool_leaf de-leaves-leaf.integer_leaf de-leaves-leaf.real_or de-leaves-leaf.number_leaf de-leaves-leaf.pointer_leaf de-leaves-leaf.decoder_of de-leaves-leaf.text_leaf de-leaves-leaf.entry_from de-leaves-leaf.unlisted de-leaves-leaf.enum_leaf de-leaves-leaf.kind_leaf de-leaves-leaf.leaf_by de-leaves-leaf.leaf_at de-output-trace.text_bytes de-output-trace.tape_bytes de-output-trace.events_of de-output-trace.end_of de-output-trace.◌then◌ de-output-trace.fits de-output-trace.step_of de-output-trace.fitting de-output-answer.read_numbers tape-array-elements-element.element_item tape-array-elements-element.shape_at tape-array-elements-element.shape_check tape-array-elements-element.element_check tape-array-elements-element.shape_plan tape-array-elements-element.element_plan de-walk.leaf_of de-walk.checked de-walk.field_value de-walk.member_of de-walk.members_from de-walk.members_of de-walk.map_of de-walk.elements_from de-walk.elements_of de-walk.dimension_of de-walk.element_by de-walk.array_by de-walk.array_of de-walk.shape_walk de-walk.item_walk de-walk.read_walk de-read.root_by de-read.root_trace de-read.read_trace time-types-counts.time_of time-types-counts.count_width time-types-types.time_type_of
wide_text = refl

odd_byte : ◌≡◌ {A = List ℕ} (record_row (one_type 31 1) (0x41 ∷ []) 3) (0 ∷ 1 ∷ 3 ∷ 0xef ∷ 0xbf ∷ 0xbd ∷ text_is 0 3)
unfolding flat_map block enc-number-le.le_value enc-number-le.le_bytes type-book-book.same_name type-book-book.is_named type-block-form-form.sum_of type-block-form-form.sum_right type-block-form-form.every type-block-form-form.unused_zero type-block-form-form.name_form type-block-form-form.names_form type-block-form-form.flags_form type-block-form-form.type_form type-block-form-form.field_form type-block-form-form.entry_form type-doubles-doubles.all_from type-doubles-doubles.is_other type-doubles-doubles.is_first type-book-check-check.size_right type-book-check-check.sum_at type-book-check-check.place_of type-book-check-check.places_onward type-book-check-check.placed_from type-book-check-check.check_blocks type-book-check-check.check_book type-book-check-check.book_numbers type-book-check-check.root_of type-book-check-check.check_root type-book-check-check.at_root type-id-typeid.id_of type-names-text.is_one_of type-names-text.starts_with type-names-text.contains type-names-names.is_pointer_name type-names-names.is_sub_range_name type-names-names.is_primitive_name type-category-category.is_pointer type-category-category.is_reference type-category-category.is_alias type-category-category.or_else type-category-category.is_union type-category-category.methods_category type-category-category.fields_category type-category-category.is_empty_struct type-category-category.bare_category type-category-category.size_category type-category-category.complex_category type-category-category.simple_category type-category-category.category_of type-category-number.category_numbers type-category-number.category_at type-provider-find.find_from type-provider-find.find resolvers-resolve.resolved_numbers resolvers-resolve.is_followed resolvers-resolve.chain_onward resolvers-resolve.follow resolvers-resolve.look_up resolvers-calls.resolution_numbers resolvers-calls.resolution resolvers-calls.root_resolution enc-utf-8-buffer.splice enc-utf-8-buffer.fits_in enc-utf-8-utf8.leading enc-utf-8-utf8.following enc-utf-8-utf8.after_reply enc-utf-8-utf8.decode_from enc-utf-8-utf8.no_error enc-utf-8-utf8.found enc-utf-8-utf8.next_from enc-utf-8-utf8.encoded enc-utf-8-utf8.utf8_of enc-utf-16-decode.unit_alone enc-utf-16-decode.unit_after enc-utf-16-decode.decode16_from enc-utf-16-decode.decode_scalars enc-utf-16-wstring.end16_from enc-text-decoder-text.end_by enc-text-decoder-text.decoded_by tape-record.record_bytes tape-record.record_of tape-record.step_at de-leaves-leaf.leaf_numbers de-leaves-leaf.bool_leaf de-leaves-leaf.integer_leaf de-leaves-leaf.real_or de-leaves-leaf.number_leaf de-leaves-leaf.pointer_leaf de-leaves-leaf.decoder_of de-leaves-leaf.text_leaf de-leaves-leaf.entry_from de-leaves-leaf.unlisted de-leaves-leaf.enum_leaf de-leaves-leaf.kind_leaf de-leaves-leaf.leaf_by de-leaves-leaf.leaf_at de-output-trace.text_bytes de-output-trace.tape_bytes de-output-trace.events_of de-output-trace.end_of de-output-trace.◌then◌ de-output-trace.fits de-output-trace.step_of de-output-trace.fitting de-output-answer.read_numbers tape-array-elements-element.element_item tape-array-elements-element.shape_at tape-array-elements-element.shape_check tape-array-elements-element.element_check tape-array-elements-element.shape_plan tape-array-elements-element.element_plan de-walk.leaf_of de-walk.checked de-walk.field_value de-walk.member_of de-walk.members_from de-walk.members_of de-walk.map_of de-walk.elements_from de-walk.elements_of de-walk.dimension_of de-walk.element_by de-walk.array_by de-walk.array_of de-walk.shape_walk de-walk.item_walk de-walk.read_walk de-read.root_by de-read.root_trace de-read.read_trace time-types-counts.time_of time-types-counts.count_width time-types-types.time_type_of
odd_byte = refl

int_alias : ◌≡◌ {A = List ℕ} (category_row (type_block 2 2 0 int int)) (0 ∷ 0 ∷ 2 ∷ [])
unfolding block type-block-form-form.sum_of enc-number-le.le_value enc-number-le.le_bytes type-book-book.same_name type-book-book.is_named type-block-form-form.sum_right type-block-form-form.every type-block-form-form.unused_zero type-block-form-form.name_form type-block-form-form.names_form type-block-form-form.flags_form type-block-form-form.type_form type-block-form-form.field_form type-block-form-form.entry_form type-doubles-doubles.all_from type-doubles-doubles.is_other type-doubles-doubles.is_first type-book-check-check.size_right type-book-check-check.sum_at type-book-check-check.place_of type-book-check-check.places_onward type-book-check-check.placed_from type-book-check-check.check_blocks type-book-check-check.check_book type-book-check-check.book_numbers type-book-check-check.root_of type-book-check-check.check_root type-book-check-check.at_root type-id-typeid.id_of type-names-text.is_one_of type-names-text.starts_with type-names-text.contains type-names-names.is_pointer_name type-names-names.is_sub_range_name type-names-names.is_primitive_name type-category-category.is_pointer type-category-category.is_reference type-category-category.is_alias type-category-category.or_else type-category-category.is_union type-category-category.methods_category type-category-category.fields_category type-category-category.is_empty_struct type-category-category.bare_category type-category-category.size_category type-category-category.complex_category type-category-category.simple_category type-category-category.category_of type-category-number.category_numbers type-category-number.category_at
int_alias = refl

union : ◌≡◌ {A = List ℕ} (category_row (two_fields 0 0)) (0 ∷ 0 ∷ 13 ∷ [])
unfolding block type-block-form-form.sum_of enc-number-le.le_value enc-number-le.le_bytes type-book-book.same_name type-book-book.is_named type-block-form-form.sum_right type-block-form-form.every type-block-form-form.unused_zero type-block-form-form.name_form type-block-form-form.names_form type-block-form-form.flags_form type-block-form-form.type_form type-block-form-form.field_form type-block-form-form.entry_form type-doubles-doubles.all_from type-doubles-doubles.is_other type-doubles-doubles.is_first type-book-check-check.size_right type-book-check-check.sum_at type-book-check-check.place_of type-book-check-check.places_onward type-book-check-check.placed_from type-book-check-check.check_blocks type-book-check-check.check_book type-book-check-check.book_numbers type-book-check-check.root_of type-book-check-check.check_root type-book-check-check.at_root type-id-typeid.id_of type-names-text.is_one_of type-names-text.starts_with type-names-text.contains type-names-names.is_pointer_name type-names-names.is_sub_range_name type-names-names.is_primitive_name type-category-category.is_pointer type-category-category.is_reference type-category-category.is_alias type-category-category.or_else type-category-category.is_union type-category-category.methods_category type-category-category.fields_category type-category-category.is_empty_struct type-category-category.bare_category type-category-category.size_category type-category-category.complex_category type-category-category.simple_category type-category-category.category_of type-category-number.category_numbers type-category-number.category_at
union = refl

function_block : ◌≡◌ {A = List ℕ} (category_row (two_fields 4 8)) (0 ∷ 0 ∷ 6 ∷ [])
unfolding block type-block-form-form.sum_of enc-number-le.le_value enc-number-le.le_bytes type-book-book.same_name type-book-book.is_named type-block-form-form.sum_right type-block-form-form.every type-block-form-form.unused_zero type-block-form-form.name_form type-block-form-form.names_form type-block-form-form.flags_form type-block-form-form.type_form type-block-form-form.field_form type-block-form-form.entry_form type-doubles-doubles.all_from type-doubles-doubles.is_other type-doubles-doubles.is_first type-book-check-check.size_right type-book-check-check.sum_at type-book-check-check.place_of type-book-check-check.places_onward type-book-check-check.placed_from type-book-check-check.check_blocks type-book-check-check.check_book type-book-check-check.book_numbers type-book-check-check.root_of type-book-check-check.check_root type-book-check-check.at_root type-id-typeid.id_of type-names-text.is_one_of type-names-text.starts_with type-names-text.contains type-names-names.is_pointer_name type-names-names.is_sub_range_name type-names-names.is_primitive_name type-category-category.is_pointer type-category-category.is_reference type-category-category.is_alias type-category-category.or_else type-category-category.is_union type-category-category.methods_category type-category-category.fields_category type-category-category.is_empty_struct type-category-category.bare_category type-category-category.size_category type-category-category.complex_category type-category-category.simple_category type-category-category.category_of type-category-number.category_numbers type-category-number.category_at
function_block = refl

cut_character : ◌≡◌ {A = List ℕ} (record_row (one_marked 4) (0x41 ∷ 0xe2 ∷ 0x82 ∷ 0x00 ∷ []) 4) (0 ∷ 1 ∷ 4 ∷ 0x41 ∷ 0xef ∷ 0xbf ∷ 0xbd ∷ text_is 1 4)
unfolding marked_string flat_map enc-number-le.le_value enc-number-le.le_bytes type-book-book.same_name type-book-book.is_named type-block-form-form.sum_of type-block-form-form.sum_right type-block-form-form.every type-block-form-form.unused_zero type-block-form-form.name_form type-block-form-form.names_form type-block-form-form.flags_form type-block-form-form.type_form type-block-form-form.field_form type-block-form-form.entry_form type-doubles-doubles.all_from type-doubles-doubles.is_other type-doubles-doubles.is_first type-book-check-check.size_right type-book-check-check.sum_at type-book-check-check.place_of type-book-check-check.places_onward type-book-check-check.placed_from type-book-check-check.check_blocks type-book-check-check.check_book type-book-check-check.book_numbers type-book-check-check.root_of type-book-check-check.check_root type-book-check-check.at_root type-id-typeid.id_of type-names-text.is_one_of type-names-text.starts_with type-names-text.contains type-names-names.is_pointer_name type-names-names.is_sub_range_name type-names-names.is_primitive_name type-category-category.is_pointer type-category-category.is_reference type-category-category.is_alias type-category-category.or_else type-category-category.is_union type-category-category.methods_category type-category-category.fields_category type-category-category.is_empty_struct type-category-category.bare_category type-category-category.size_category type-category-category.complex_category type-category-category.simple_category type-category-category.category_of type-category-number.category_numbers type-category-number.category_at type-provider-find.find_from type-provider-find.find resolvers-resolve.resolved_numbers resolvers-resolve.is_followed resolvers-resolve.chain_onward resolvers-resolve.follow resolvers-resolve.look_up resolvers-calls.resolution_numbers resolvers-calls.resolution resolvers-calls.root_resolution enc-utf-8-buffer.splice enc-utf-8-buffer.fits_in enc-utf-8-utf8.leading enc-utf-8-utf8.following enc-utf-8-utf8.after_reply enc-utf-8-utf8.decode_from enc-utf-8-utf8.no_error enc-utf-8-utf8.found enc-utf-8-utf8.next_from enc-utf-8-utf8.encoded enc-utf-8-utf8.utf8_of enc-utf-16-decode.unit_alone enc-utf-16-decode.unit_after enc-utf-16-decode.decode16_from enc-utf-16-decode.decode_scalars enc-utf-16-wstring.end16_from enc-text-decoder-text.end_by enc-text-decoder-text.decoded_by tape-record.record_bytes tape-record.record_of tape-record.step_at de-leaves-leaf.leaf_numbers de-leaves-leaf.bool_leaf de-leaves-leaf.integer_leaf de-leaves-leaf.real_or de-leaves-leaf.number_leaf de-leaves-leaf.pointer_leaf de-leaves-leaf.decoder_of de-leaves-leaf.text_leaf de-leaves-leaf.entry_from de-leaves-leaf.unlisted de-leaves-leaf.enum_leaf de-leaves-leaf.kind_leaf de-leaves-leaf.leaf_by de-leaves-leaf.leaf_at de-output-trace.text_bytes de-output-trace.tape_bytes de-output-trace.events_of de-output-trace.end_of de-output-trace.◌then◌ de-output-trace.fits de-output-trace.step_of de-output-trace.fitting de-output-answer.read_numbers tape-array-elements-element.element_item tape-array-elements-element.shape_at tape-array-elements-element.shape_check tape-array-elements-element.element_check tape-array-elements-element.shape_plan tape-array-elements-element.element_plan de-walk.leaf_of de-walk.checked de-walk.field_value de-walk.member_of de-walk.members_from de-walk.members_of de-walk.map_of de-walk.elements_from de-walk.elements_of de-walk.dimension_of de-walk.element_by de-walk.array_by de-walk.array_of de-walk.shape_walk de-walk.item_walk de-walk.read_walk de-read.root_by de-read.root_trace de-read.read_trace time-types-counts.time_of time-types-counts.count_width time-types-types.time_type_of enc-utf-8-replacing-text.decode8_text enc-windows-1252-text.end_from
cut_character = refl

order_mark : ◌≡◌ {A = List ℕ} (record_row (one_marked 4) (0xef ∷ 0xbb ∷ 0xbf ∷ 0x41 ∷ []) 4) (0 ∷ 1 ∷ 4 ∷ 0xef ∷ 0xbb ∷ 0xbf ∷ 0x41 ∷ text_is 0 4)
unfolding marked_string flat_map enc-number-le.le_value enc-number-le.le_bytes type-book-book.same_name type-book-book.is_named type-block-form-form.sum_of type-block-form-form.sum_right type-block-form-form.every type-block-form-form.unused_zero type-block-form-form.name_form type-block-form-form.names_form type-block-form-form.flags_form type-block-form-form.type_form type-block-form-form.field_form type-block-form-form.entry_form type-doubles-doubles.all_from type-doubles-doubles.is_other type-doubles-doubles.is_first type-book-check-check.size_right type-book-check-check.sum_at type-book-check-check.place_of type-book-check-check.places_onward type-book-check-check.placed_from type-book-check-check.check_blocks type-book-check-check.check_book type-book-check-check.book_numbers type-book-check-check.root_of type-book-check-check.check_root type-book-check-check.at_root type-id-typeid.id_of type-names-text.is_one_of type-names-text.starts_with type-names-text.contains type-names-names.is_pointer_name type-names-names.is_sub_range_name type-names-names.is_primitive_name type-category-category.is_pointer type-category-category.is_reference type-category-category.is_alias type-category-category.or_else type-category-category.is_union type-category-category.methods_category type-category-category.fields_category type-category-category.is_empty_struct type-category-category.bare_category type-category-category.size_category type-category-category.complex_category type-category-category.simple_category type-category-category.category_of type-category-number.category_numbers type-category-number.category_at type-provider-find.find_from type-provider-find.find resolvers-resolve.resolved_numbers resolvers-resolve.is_followed resolvers-resolve.chain_onward resolvers-resolve.follow resolvers-resolve.look_up resolvers-calls.resolution_numbers resolvers-calls.resolution resolvers-calls.root_resolution enc-utf-8-buffer.splice enc-utf-8-buffer.fits_in enc-utf-8-utf8.leading enc-utf-8-utf8.following enc-utf-8-utf8.after_reply enc-utf-8-utf8.decode_from enc-utf-8-utf8.no_error enc-utf-8-utf8.found enc-utf-8-utf8.next_from enc-utf-8-utf8.encoded enc-utf-8-utf8.utf8_of enc-utf-16-decode.unit_alone enc-utf-16-decode.unit_after enc-utf-16-decode.decode16_from enc-utf-16-decode.decode_scalars enc-utf-16-wstring.end16_from enc-text-decoder-text.end_by enc-text-decoder-text.decoded_by tape-record.record_bytes tape-record.record_of tape-record.step_at de-leaves-leaf.leaf_numbers de-leaves-leaf.bool_leaf de-leaves-leaf.integer_leaf de-leaves-leaf.real_or de-leaves-leaf.number_leaf de-leaves-leaf.pointer_leaf de-leaves-leaf.decoder_of de-leaves-leaf.text_leaf de-leaves-leaf.entry_from de-leaves-leaf.unlisted de-leaves-leaf.enum_leaf de-leaves-leaf.kind_leaf de-leaves-leaf.leaf_by de-leaves-leaf.leaf_at de-output-trace.text_bytes de-output-trace.tape_bytes de-output-trace.events_of de-output-trace.end_of de-output-trace.◌then◌ de-output-trace.fits de-output-trace.step_of de-output-trace.fitting de-output-answer.read_numbers tape-array-elements-element.element_item tape-array-elements-element.shape_at tape-array-elements-element.shape_check tape-array-elements-element.element_check tape-array-elements-element.shape_plan tape-array-elements-element.element_plan de-walk.leaf_of de-walk.checked de-walk.field_value de-walk.member_of de-walk.members_from de-walk.members_of de-walk.map_of de-walk.elements_from de-walk.elements_of de-walk.dimension_of de-walk.element_by de-walk.array_by de-walk.array_of de-walk.shape_walk de-walk.item_walk de-walk.read_walk de-read.root_by de-read.root_trace de-read.read_trace time-types-counts.time_of time-types-counts.count_width time-types-types.time_type_of enc-utf-8-replacing-text.decode8_text enc-windows-1252-text.end_from
order_mark = refl

own_bytes : ◌≡◌ {A = List ℕ} (zhe_row (one_marked 3) 3) (0 ∷ 0xd0 ∷ 0x96 ∷ 0x00 ∷ [])
unfolding marked_string flat_map enc-number-le.le_value enc-number-le.le_bytes type-book-book.same_name type-book-book.is_named type-block-form-form.sum_of type-block-form-form.sum_right type-block-form-form.every type-block-form-form.unused_zero type-block-form-form.name_form type-block-form-form.names_form type-block-form-form.flags_form type-block-form-form.type_form type-block-form-form.field_form type-block-form-form.entry_form type-doubles-doubles.all_from type-doubles-doubles.is_other type-doubles-doubles.is_first type-book-check-check.size_right type-book-check-check.sum_at type-book-check-check.place_of type-book-check-check.places_onward type-book-check-check.placed_from type-book-check-check.check_blocks type-book-check-check.check_book type-book-check-check.book_numbers type-book-check-check.root_of type-book-check-check.check_root type-book-check-check.at_root type-id-typeid.id_of type-names-text.is_one_of type-names-text.starts_with type-names-text.contains type-names-names.is_pointer_name type-names-names.is_sub_range_name type-names-names.is_primitive_name type-category-category.is_pointer type-category-category.is_reference type-category-category.is_alias type-category-category.or_else type-category-category.is_union type-category-category.methods_category type-category-category.fields_category type-category-category.is_empty_struct type-category-category.bare_category type-category-category.size_category type-category-category.complex_category type-category-category.simple_category type-category-category.category_of type-category-number.category_numbers type-category-number.category_at type-provider-find.find_from type-provider-find.find resolvers-resolve.resolved_numbers resolvers-resolve.is_followed resolvers-resolve.chain_onward resolvers-resolve.follow resolvers-resolve.look_up resolvers-calls.resolution_numbers resolvers-calls.resolution resolvers-calls.root_resolution enc-integer-integer.integer_numbers enc-integer-integer.integer_read_numbers enc-integer-integer.integer_write_numbers enc-integer-integer.twos_complement enc-integer-integer.twos_bits enc-integer-integer.bytes_value enc-integer-integer.integer_of enc-integer-integer.read_integer enc-integer-integer.fits_signed enc-integer-integer.fits_unsigned enc-integer-integer.fits_id enc-integer-integer.write_integer enc-integer-integer.integer_after enc-integer-integer.integer_bytes enc-utf-8-buffer.splice enc-utf-8-buffer.fits_in enc-utf-8-utf8.leading enc-utf-8-utf8.following enc-utf-8-utf8.after_reply enc-utf-8-utf8.decode_from enc-utf-8-utf8.no_error enc-utf-8-utf8.found enc-utf-8-utf8.next_from enc-utf-8-utf8.encoded enc-utf-8-utf8.utf8_of enc-windows-1252-index.listed_points enc-windows-1252-index.code_point enc-windows-1252-index.first_from enc-windows-1252-index.byte_of enc-windows-1252-text.end_from enc-windows-1252-text.decode_text enc-windows-1252-text.digits enc-windows-1252-text.bytes_by enc-windows-1252-text.encode_text tape-record.record_bytes tape-record.record_of tape-record.step_at tape-text.text_part tape-text.name_in tape-text.record_text tape-form-ranges.unused tape-form-ranges.undeclared tape-form-ranges.declares tape-form-ranges.opens tape-form-ranges.closes tape-form-ranges.is_key tape-form-ranges.is_width tape-form-ranges.block_is tape-form-ranges.text_in tape-form-ranges.only_a tape-form-ranges.empty tape-form-ranges.names_block tape-form-ranges.only_b tape-form-ranges.sized tape-form-ranges.integer_fine tape-form-ranges.textual tape-form-ranges.leaf_ranges tape-form-ranges.leaf_fine tape-form-form.with_record tape-form-form.form_onward tape-form-form.closing_record tape-form-form.several tape-form-form.member_at tape-form-form.record_shape tape-form-form.body_by tape-form-form.value_at tape-form-form.at_tape_end tape-form-form.formed ser-leaf-leaf.exactly ser-leaf-leaf.bool_write ser-leaf-leaf.real_write ser-leaf-leaf.integer_by ser-leaf-leaf.pointer_write ser-leaf-leaf.integer_write ser-leaf-leaf.entry_by ser-leaf-leaf.entry_leaf ser-leaf-leaf.enum_write ser-leaf-leaf.padded ser-leaf-leaf.string_bytes ser-leaf-leaf.text_by ser-leaf-leaf.text_write ser-leaf-leaf.leaf_write_by ser-leaf-leaf.leaf_for ser-write.◌then_writes◌ ser-write.placed ser-write.taken_by ser-write.taken ser-write.end_record_by ser-write.leaf_end ser-write.leaf_write ser-write.checked_write ser-write.field_write ser-write.found_value ser-write.key_by ser-write.key_of ser-write.keys_from ser-write.map_by ser-write.map_write ser-write.elements_write ser-write.elements_by ser-write.dimension_write ser-write.element_type ser-write.entered_by ser-write.entered_at ser-write.array_write_by ser-write.array_write ser-write.value_by ser-write.item_write ser-write.write_walk ser-call.type_write ser-call.root_write_by ser-call.root_write ser-call.refused_before ser-call.book_write ser-call.write_call ser-call.write_numbers time-types-counts.time_of time-types-counts.count_width time-types-types.time_type_of enc-utf-8-replacing-text.decode8_text
own_bytes = refl

not_two : ◌≡◌ {A = List ℕ} (zhe_row (one_marked 2) 2) (10 ∷ image 2)
unfolding marked_string flat_map enc-number-le.le_value enc-number-le.le_bytes type-book-book.same_name type-book-book.is_named type-block-form-form.sum_of type-block-form-form.sum_right type-block-form-form.every type-block-form-form.unused_zero type-block-form-form.name_form type-block-form-form.names_form type-block-form-form.flags_form type-block-form-form.type_form type-block-form-form.field_form type-block-form-form.entry_form type-doubles-doubles.all_from type-doubles-doubles.is_other type-doubles-doubles.is_first type-book-check-check.size_right type-book-check-check.sum_at type-book-check-check.place_of type-book-check-check.places_onward type-book-check-check.placed_from type-book-check-check.check_blocks type-book-check-check.check_book type-book-check-check.book_numbers type-book-check-check.root_of type-book-check-check.check_root type-book-check-check.at_root type-id-typeid.id_of type-names-text.is_one_of type-names-text.starts_with type-names-text.contains type-names-names.is_pointer_name type-names-names.is_sub_range_name type-names-names.is_primitive_name type-category-category.is_pointer type-category-category.is_reference type-category-category.is_alias type-category-category.or_else type-category-category.is_union type-category-category.methods_category type-category-category.fields_category type-category-category.is_empty_struct type-category-category.bare_category type-category-category.size_category type-category-category.complex_category type-category-category.simple_category type-category-category.category_of type-category-number.category_numbers type-category-number.category_at type-provider-find.find_from type-provider-find.find resolvers-resolve.resolved_numbers resolvers-resolve.is_followed resolvers-resolve.chain_onward resolvers-resolve.follow resolvers-resolve.look_up resolvers-calls.resolution_numbers resolvers-calls.resolution resolvers-calls.root_resolution enc-integer-integer.integer_numbers enc-integer-integer.integer_read_numbers enc-integer-integer.integer_write_numbers enc-integer-integer.twos_complement enc-integer-integer.twos_bits enc-integer-integer.bytes_value enc-integer-integer.integer_of enc-integer-integer.read_integer enc-integer-integer.fits_signed enc-integer-integer.fits_unsigned enc-integer-integer.fits_id enc-integer-integer.write_integer enc-integer-integer.integer_after enc-integer-integer.integer_bytes enc-utf-8-buffer.splice enc-utf-8-buffer.fits_in enc-utf-8-utf8.leading enc-utf-8-utf8.following enc-utf-8-utf8.after_reply enc-utf-8-utf8.decode_from enc-utf-8-utf8.no_error enc-utf-8-utf8.found enc-utf-8-utf8.next_from enc-utf-8-utf8.encoded enc-utf-8-utf8.utf8_of enc-windows-1252-index.listed_points enc-windows-1252-index.code_point enc-windows-1252-index.first_from enc-windows-1252-index.byte_of enc-windows-1252-text.end_from enc-windows-1252-text.decode_text enc-windows-1252-text.digits enc-windows-1252-text.bytes_by enc-windows-1252-text.encode_text tape-record.record_bytes tape-record.record_of tape-record.step_at tape-text.text_part tape-text.name_in tape-text.record_text tape-form-ranges.unused tape-form-ranges.undeclared tape-form-ranges.declares tape-form-ranges.opens tape-form-ranges.closes tape-form-ranges.is_key tape-form-ranges.is_width tape-form-ranges.block_is tape-form-ranges.text_in tape-form-ranges.only_a tape-form-ranges.empty tape-form-ranges.names_block tape-form-ranges.only_b tape-form-ranges.sized tape-form-ranges.integer_fine tape-form-ranges.textual tape-form-ranges.leaf_ranges tape-form-ranges.leaf_fine tape-form-form.with_record tape-form-form.form_onward tape-form-form.closing_record tape-form-form.several tape-form-form.member_at tape-form-form.record_shape tape-form-form.body_by tape-form-form.value_at tape-form-form.at_tape_end tape-form-form.formed ser-leaf-leaf.exactly ser-leaf-leaf.bool_write ser-leaf-leaf.real_write ser-leaf-leaf.integer_by ser-leaf-leaf.pointer_write ser-leaf-leaf.integer_write ser-leaf-leaf.entry_by ser-leaf-leaf.entry_leaf ser-leaf-leaf.enum_write ser-leaf-leaf.padded ser-leaf-leaf.string_bytes ser-leaf-leaf.text_by ser-leaf-leaf.text_write ser-leaf-leaf.leaf_write_by ser-leaf-leaf.leaf_for ser-write.◌then_writes◌ ser-write.placed ser-write.taken_by ser-write.taken ser-write.end_record_by ser-write.leaf_end ser-write.leaf_write ser-write.checked_write ser-write.field_write ser-write.found_value ser-write.key_by ser-write.key_of ser-write.keys_from ser-write.map_by ser-write.map_write ser-write.elements_write ser-write.elements_by ser-write.dimension_write ser-write.element_type ser-write.entered_by ser-write.entered_at ser-write.array_write_by ser-write.array_write ser-write.value_by ser-write.item_write ser-write.write_walk ser-call.type_write ser-call.root_write_by ser-call.root_write ser-call.refused_before ser-call.book_write ser-call.write_call ser-call.write_numbers time-types-counts.time_of time-types-counts.count_width time-types-types.time_type_of enc-utf-8-replacing-text.decode8_text
not_two = refl

cons : {x y : List ℕ} {xs ys : List (List ℕ)} → x ≡ y → xs ≡ ys → ◌≡◌ {A = List (List ℕ)} (x ∷ xs) (y ∷ ys)
cons e q = rw (e, q)

-- the rows
pub more_as_said : map (λ (r : Row). r.got) more_rows ≡ map (λ (r : Row). r.said) more_rows
more_as_said = cons minus_128 (cons minus_32768 (cons plus_32767 (cons wide_text (cons odd_byte (cons int_alias (cons union (cons function_block (cons cut_character (cons order_mark (cons own_bytes (cons not_two refl)))))))))))
