-- Worked examples of the writer's definitions. Assumes nothing.
use mathlib.Core.Bool.{false}
use mathlib.Core.Path.{◌≡◌, refl}
use mathlib.Core.List.{List, [], ◌∷◌, ◌++◌, flat_map}
use Prim.Native.Nat.{ℕ}
use lib.ListN.{replicate}
use Rattle.enc_number.specs.Le as le
use Rattle.enc_integer.specs.Integer as integer
use Rattle.enc_utf_8.specs.Utf8 as utf-8
use Rattle.enc_windows_1252.specs.Text as enc-windows-1252-text
use Rattle.enc_windows_1252.specs.Index as enc-windows-1252-index
use Rattle.type_book.specs.Book as type-book-book
use Rattle.type_names.specs.Text as type-names-text
use Rattle.type_names.specs.Names as type-names-names
use Rattle.time_types.specs.Types as time-types-types
use Rattle.time_types.specs.Counts as time-types-counts
use Rattle.type_category.specs.Category as category
use Rattle.type_id.specs.TypeId as type_id
use Rattle.type_provider.specs.Find as find
use Rattle.resolvers.specs.Resolve as resolve
use Rattle.resolve_field_types.specs.Fields as fields
use Rattle.ser_named_blocks.specs.Named as named
use Rattle.tape.specs.Record as tape-record
use Rattle.tape.specs.Text as tape-text
use Rattle.type_block_form.specs.Form.{sum_of}
use Rattle.cases.specs.Blocks.{block}
use Rattle.cases.specs.Rows.{zhe}
use Rattle.tape_array_elements.specs.Element as element
use Rattle.ser_leaf.specs.Leaf as leaf
use Rattle.ser.specs.Write.{write_ctx, went, refused}
use Rattle.ser.specs.Write as write
use Rattle.tape_form.specs.Ranges as ranges
use Rattle.tape_form.specs.Form as form
use Rattle.ser.specs.Call.{root_write, book_write}
use Rattle.ser.specs.Call as call
use Rattle.cases_writer.specs.Example.{book, one_key, none, example_image, short, wide}

-- U+0416 is `&#1046;` and a zero: it fits 8 bytes
fits_eight : leaf.text_by 30 false zhe (replicate 8 0xee) ≡ leaf.holds (0x26 ∷ 0x23 ∷ 0x31 ∷ 0x30 ∷ 0x34 ∷ 0x36 ∷ 0x3b ∷ 0x00 ∷ [])
unfolding leaf.string_bytes leaf.text_by leaf.padded flat_map utf-8.leading utf-8.following utf-8.after_reply utf-8.decode_from enc-windows-1252-text.digits enc-windows-1252-text.bytes_by enc-windows-1252-text.encode_text enc-windows-1252-index.listed_points enc-windows-1252-index.code_point enc-windows-1252-index.first_from enc-windows-1252-index.byte_of
fits_eight = refl

-- and 7 are too few
not-seven : leaf.text_by 30 false zhe (replicate 7 0xee) ≡ leaf.refused 10
unfolding leaf.string_bytes leaf.text_by leaf.padded flat_map utf-8.leading utf-8.following utf-8.after_reply utf-8.decode_from enc-windows-1252-text.digits enc-windows-1252-text.bytes_by enc-windows-1252-text.encode_text enc-windows-1252-index.listed_points enc-windows-1252-index.code_point enc-windows-1252-index.first_from enc-windows-1252-index.byte_of
not-seven = refl

-- the field that is named gets its two bytes, the other keeps the image's
second-set : root_write (write_ctx book 8 (one_key 2 2 7) []) 0 example_image ≡ went (record { at = 96 }) (0xfe ∷ 0xff ∷ 0x07 ∷ 0x00 ∷ [])
unfolding call.type_write call.root_write_by call.root_write write.◌then_writes◌ write.placed write.taken_by write.taken write.end_record_by write.leaf_end write.leaf_write element.shape_at write.checked_write write.field_write write.found_value write.key_by write.key_of write.keys_from write.map_by write.map_write write.value_by write.item_write write.write_walk leaf.exactly leaf.integer_by leaf.integer_write leaf.leaf_write_by leaf.leaf_for integer.twos_complement integer.twos_bits integer.fits_signed integer.fits_id integer.write_integer integer.integer_bytes named.named_from tape-record.record_bytes tape-record.record_of tape-record.step_at tape-text.name_in tape-text.record_text fields.field_of fields.field_found fields.resolve_field fields.field_then fields.fields_from fields.fields_check type-book-book.is_named find.find_from find.find resolve.is_followed resolve.chain_onward resolve.follow block sum_of le.le_value le.le_bytes type-book-book.same_name type-names-names.is_pointer_name category.is_pointer category.is_reference type-names-names.is_sub_range_name category.is_alias category.or_else type-names-names.is_primitive_name category.is_union category.methods_category category.fields_category category.is_empty_struct category.bare_category category.size_category category.complex_category category.simple_category category.category_of type-names-text.is_one_of type-names-text.starts_with type-names-text.contains type_id.id_of time-types-counts.time_of time-types-counts.count_width time-types-types.time_type_of
second-set = refl

-- a record's own width does not matter: −2 in 8 bytes
any_width : root_write (write_ctx book 8 (one_key 2 8 0xffff_ffff_ffff_fffe) []) 0 example_image ≡ went (record { at = 96 }) (0xfe ∷ 0xff ∷ 0xfe ∷ 0xff ∷ [])
unfolding call.type_write call.root_write_by call.root_write write.◌then_writes◌ write.placed write.taken_by write.taken write.end_record_by write.leaf_end write.leaf_write element.shape_at write.checked_write write.field_write write.found_value write.key_by write.key_of write.keys_from write.map_by write.map_write write.value_by write.item_write write.write_walk leaf.exactly leaf.integer_by leaf.integer_write leaf.leaf_write_by leaf.leaf_for integer.twos_complement integer.twos_bits integer.fits_signed integer.fits_id integer.write_integer integer.integer_bytes named.named_from tape-record.record_bytes tape-record.record_of tape-record.step_at tape-text.name_in tape-text.record_text fields.field_of fields.field_found fields.resolve_field fields.field_then fields.fields_from fields.fields_check type-book-book.is_named find.find_from find.find resolve.is_followed resolve.chain_onward resolve.follow block sum_of le.le_value le.le_bytes type-book-book.same_name type-names-names.is_pointer_name category.is_pointer category.is_reference type-names-names.is_sub_range_name category.is_alias category.or_else type-names-names.is_primitive_name category.is_union category.methods_category category.fields_category category.is_empty_struct category.bare_category category.size_category category.complex_category category.simple_category category.category_of type-names-text.is_one_of type-names-text.starts_with type-names-text.contains type_id.id_of time-types-counts.time_of time-types-counts.count_width time-types-types.time_type_of
any_width = refl

-- 40,000 does not fit an INT
out_of_range_lem : root_write (write_ctx book 8 (one_key 1 4 40000) []) 0 example_image ≡ refused 19 0 example_image
unfolding call.type_write call.root_write_by call.root_write write.◌then_writes◌ write.placed write.taken_by write.taken write.end_record_by write.leaf_end write.leaf_write element.shape_at write.checked_write write.field_write write.found_value write.key_by write.key_of write.keys_from write.map_by write.map_write write.value_by write.item_write write.write_walk leaf.exactly leaf.integer_by leaf.integer_write leaf.leaf_write_by leaf.leaf_for integer.twos_complement integer.twos_bits integer.fits_signed integer.fits_id integer.integer_write_numbers integer.write_integer integer.integer_bytes named.named_from tape-record.record_bytes tape-record.record_of tape-record.step_at tape-text.name_in tape-text.record_text fields.field_of fields.field_found fields.resolve_field fields.field_then fields.fields_from fields.fields_check type-book-book.is_named find.find_from find.find resolve.is_followed resolve.chain_onward resolve.follow block sum_of le.le_value le.le_bytes type-book-book.same_name type-names-names.is_pointer_name category.is_pointer category.is_reference type-names-names.is_sub_range_name category.is_alias category.or_else type-names-names.is_primitive_name category.is_union category.methods_category category.fields_category category.is_empty_struct category.bare_category category.size_category category.complex_category category.simple_category category.category_of type-names-text.is_one_of type-names-text.starts_with type-names-text.contains type_id.id_of time-types-counts.time_of time-types-counts.count_width time-types-types.time_type_of
out_of_range_lem = refl

-- no field has the name of block 3
unknown-name : root_write (write_ctx book 8 (one_key 3 2 7) []) 0 example_image ≡ refused 18 0 example_image
unfolding call.type_write call.root_write_by call.root_write write.◌then_writes◌ write.placed write.taken_by write.taken write.end_record_by write.leaf_end write.leaf_write element.shape_at write.checked_write write.field_write write.found_value write.key_by write.key_of write.keys_from write.map_by write.map_write write.value_by write.item_write write.write_walk leaf.exactly leaf.integer_by leaf.integer_write leaf.leaf_write_by leaf.leaf_for integer.twos_complement integer.twos_bits integer.fits_signed integer.fits_id integer.write_integer integer.integer_bytes named.named_from tape-record.record_bytes tape-record.record_of tape-record.step_at tape-text.name_in tape-text.record_text fields.field_of fields.field_found fields.resolve_field fields.field_then fields.fields_from fields.fields_check type-book-book.is_named find.find_from find.find resolve.is_followed resolve.chain_onward resolve.follow block sum_of le.le_value le.le_bytes type-book-book.same_name type-names-names.is_pointer_name category.is_pointer category.is_reference type-names-names.is_sub_range_name category.is_alias category.or_else type-names-names.is_primitive_name category.is_union category.methods_category category.fields_category category.is_empty_struct category.bare_category category.size_category category.complex_category category.simple_category category.category_of type-names-text.is_one_of type-names-text.starts_with type-names-text.contains type_id.id_of time-types-counts.time_of time-types-counts.count_width time-types-types.time_type_of
unknown-name = refl

-- fields that are not named keep the image's bytes
none-set : root_write (write_ctx book 8 none []) 0 example_image ≡ went (record { at = 48 }) example_image
unfolding call.type_write call.root_write_by call.root_write write.◌then_writes◌ write.placed write.taken_by write.taken write.end_record_by write.leaf_end write.leaf_write element.shape_at write.checked_write write.field_write write.found_value write.key_by write.key_of write.keys_from write.map_by write.map_write write.value_by write.item_write write.write_walk leaf.exactly leaf.integer_by leaf.integer_write leaf.leaf_write_by leaf.leaf_for integer.twos_complement integer.twos_bits integer.fits_signed integer.fits_id integer.write_integer integer.integer_bytes named.named_from tape-record.record_bytes tape-record.record_of tape-record.step_at tape-text.name_in tape-text.record_text fields.field_of fields.field_found fields.resolve_field fields.field_then fields.fields_from fields.fields_check type-book-book.is_named find.find_from find.find resolve.is_followed resolve.chain_onward resolve.follow block sum_of le.le_value le.le_bytes type-book-book.same_name type-names-names.is_pointer_name category.is_pointer category.is_reference type-names-names.is_sub_range_name category.is_alias category.or_else type-names-names.is_primitive_name category.is_union category.methods_category category.fields_category category.is_empty_struct category.bare_category category.size_category category.complex_category category.simple_category category.category_of type-names-text.is_one_of type-names-text.starts_with type-names-text.contains type_id.id_of time-types-counts.time_of time-types-counts.count_width time-types-types.time_type_of
none-set = refl

-- the struct's size is held against the bytes before any key
other-size : root_write (write_ctx book 8 (one_key 3 2 7) []) 0 (0xfe ∷ []) ≡ refused 10 0 (0xfe ∷ [])
unfolding call.type_write call.root_write_by call.root_write write.◌then_writes◌ write.placed write.taken_by write.taken write.end_record_by write.leaf_end write.leaf_write element.shape_at write.checked_write write.field_write write.found_value write.key_by write.key_of write.keys_from write.map_by write.map_write write.value_by write.item_write write.write_walk leaf.exactly leaf.integer_by leaf.integer_write leaf.leaf_write_by leaf.leaf_for integer.twos_complement integer.twos_bits integer.fits_signed integer.fits_id integer.write_integer integer.integer_bytes named.named_from tape-record.record_bytes tape-record.record_of tape-record.step_at tape-text.name_in tape-text.record_text fields.field_of fields.field_found fields.resolve_field fields.field_then fields.fields_from fields.fields_check type-book-book.is_named find.find_from find.find resolve.is_followed resolve.chain_onward resolve.follow block sum_of le.le_value le.le_bytes type-book-book.same_name type-names-names.is_pointer_name category.is_pointer category.is_reference type-names-names.is_sub_range_name category.is_alias category.or_else type-names-names.is_primitive_name category.is_union category.methods_category category.fields_category category.is_empty_struct category.bare_category category.size_category category.complex_category category.simple_category category.category_of type-names-text.is_one_of type-names-text.starts_with type-names-text.contains type_id.id_of time-types-counts.time_of time-types-counts.count_width time-types-types.time_type_of
other-size = refl

-- a map does not go into an INT
not_into_int : root_write (write_ctx book 8 none []) 3 (0xfe ∷ []) ≡ refused 17 0 (0xfe ∷ [])
unfolding call.type_write call.root_write_by call.root_write write.◌then_writes◌ write.placed write.taken_by write.taken write.end_record_by write.leaf_end write.leaf_write element.shape_at write.checked_write write.field_write write.found_value write.key_by write.key_of write.keys_from write.map_by write.map_write write.value_by write.item_write write.write_walk leaf.exactly leaf.integer_by leaf.integer_write leaf.leaf_write_by leaf.leaf_for integer.twos_complement integer.twos_bits integer.fits_signed integer.fits_id integer.write_integer integer.integer_bytes named.named_from tape-record.record_bytes tape-record.record_of tape-record.step_at tape-text.name_in tape-text.record_text fields.field_of fields.field_found fields.resolve_field fields.field_then fields.fields_from fields.fields_check type-book-book.is_named find.find_from find.find resolve.is_followed resolve.chain_onward resolve.follow block sum_of le.le_value le.le_bytes type-book-book.same_name type-names-names.is_pointer_name category.is_pointer category.is_reference type-names-names.is_sub_range_name category.is_alias category.or_else type-names-names.is_primitive_name category.is_union category.methods_category category.fields_category category.is_empty_struct category.bare_category category.size_category category.complex_category category.simple_category category.category_of type-names-text.is_one_of type-names-text.starts_with type-names-text.contains type_id.id_of time-types-counts.time_of time-types-counts.count_width time-types-types.time_type_of
not_into_int = refl

-- a tape with its form is walked
formed-set : book_write (write_ctx book 8 (one_key 2 2 7) []) 0 4 example_image ≡ went (record { at = 96 }) (0xfe ∷ 0xff ∷ 0x07 ∷ 0x00 ∷ [])
unfolding call.book_write form.formed form.at_tape_end form.value_at form.body_by form.record_shape form.member_at form.several form.closing_record form.form_onward form.with_record ranges.leaf_fine ranges.leaf_ranges ranges.textual ranges.integer_fine ranges.sized ranges.only_b ranges.names_block ranges.empty ranges.only_a ranges.text_in ranges.block_is ranges.is_width ranges.unused ranges.undeclared ranges.declares ranges.opens ranges.closes ranges.is_key integer.fits_unsigned call.type_write call.root_write_by call.root_write write.◌then_writes◌ write.placed write.taken_by write.taken write.end_record_by write.leaf_end write.leaf_write element.shape_at write.checked_write write.field_write write.found_value write.key_by write.key_of write.keys_from write.map_by write.map_write write.value_by write.item_write write.write_walk leaf.exactly leaf.integer_by leaf.integer_write leaf.leaf_write_by leaf.leaf_for integer.twos_complement integer.twos_bits integer.fits_signed integer.fits_id integer.write_integer integer.integer_bytes named.named_from tape-record.record_bytes tape-record.record_of tape-record.step_at tape-text.name_in tape-text.record_text fields.field_of fields.field_found fields.resolve_field fields.field_then fields.fields_from fields.fields_check type-book-book.is_named find.find_from find.find resolve.is_followed resolve.chain_onward resolve.follow block sum_of le.le_value le.le_bytes type-book-book.same_name type-names-names.is_pointer_name category.is_pointer category.is_reference type-names-names.is_sub_range_name category.is_alias category.or_else type-names-names.is_primitive_name category.is_union category.methods_category category.fields_category category.is_empty_struct category.bare_category category.size_category category.complex_category category.simple_category category.category_of type-names-text.is_one_of type-names-text.starts_with type-names-text.contains type_id.id_of time-types-counts.time_of time-types-counts.count_width time-types-types.time_type_of
formed-set = refl

-- a count of two keys over one, of an unknown name: 16 before 18
form_before-name : book_write (write_ctx book 8 (short 3) []) 0 4 example_image ≡ refused 16 0 example_image
unfolding call.book_write form.formed form.at_tape_end form.value_at form.body_by form.record_shape form.member_at form.several form.closing_record form.form_onward form.with_record ranges.leaf_fine ranges.leaf_ranges ranges.textual ranges.integer_fine ranges.sized ranges.only_b ranges.names_block ranges.empty ranges.only_a ranges.text_in ranges.block_is ranges.is_width ranges.unused ranges.undeclared ranges.declares ranges.opens ranges.closes ranges.is_key integer.fits_unsigned call.type_write call.root_write_by call.root_write write.◌then_writes◌ write.placed write.taken_by write.taken write.end_record_by write.leaf_end write.leaf_write element.shape_at write.checked_write write.field_write write.found_value write.key_by write.key_of write.keys_from write.map_by write.map_write write.value_by write.item_write write.write_walk leaf.exactly leaf.integer_by leaf.integer_write leaf.leaf_write_by leaf.leaf_for integer.twos_complement integer.twos_bits integer.fits_signed integer.fits_id integer.write_integer integer.integer_bytes named.named_from tape-record.record_bytes tape-record.record_of tape-record.step_at tape-text.name_in tape-text.record_text fields.field_of fields.field_found fields.resolve_field fields.field_then fields.fields_from fields.fields_check type-book-book.is_named find.find_from find.find resolve.is_followed resolve.chain_onward resolve.follow block sum_of le.le_value le.le_bytes type-book-book.same_name type-names-names.is_pointer_name category.is_pointer category.is_reference type-names-names.is_sub_range_name category.is_alias category.or_else type-names-names.is_primitive_name category.is_union category.methods_category category.fields_category category.is_empty_struct category.bare_category category.size_category category.complex_category category.simple_category category.category_of type-names-text.is_one_of type-names-text.starts_with type-names-text.contains type_id.id_of time-types-counts.time_of time-types-counts.count_width time-types-types.time_type_of
form_before-name = refl

-- 40,000 in two signed bytes has no form: 16 before 19
form_before_range : book_write (write_ctx book 8 (one_key 1 2 40000) []) 0 4 example_image ≡ refused 16 0 example_image
unfolding call.book_write form.formed form.at_tape_end form.value_at form.body_by form.record_shape form.member_at form.several form.closing_record form.form_onward form.with_record ranges.leaf_fine ranges.leaf_ranges ranges.textual ranges.integer_fine ranges.sized ranges.only_b ranges.names_block ranges.empty ranges.only_a ranges.text_in ranges.block_is ranges.is_width ranges.unused ranges.undeclared ranges.declares ranges.opens ranges.closes ranges.is_key integer.fits_unsigned call.type_write call.root_write_by call.root_write write.◌then_writes◌ write.placed write.taken_by write.taken write.end_record_by write.leaf_end write.leaf_write element.shape_at write.checked_write write.field_write write.found_value write.key_by write.key_of write.keys_from write.map_by write.map_write write.value_by write.item_write write.write_walk leaf.exactly leaf.integer_by leaf.integer_write leaf.leaf_write_by leaf.leaf_for integer.twos_complement integer.twos_bits integer.fits_signed integer.fits_id integer.write_integer integer.integer_bytes named.named_from tape-record.record_bytes tape-record.record_of tape-record.step_at tape-text.name_in tape-text.record_text fields.field_of fields.field_found fields.resolve_field fields.field_then fields.fields_from fields.fields_check type-book-book.is_named find.find_from find.find resolve.is_followed resolve.chain_onward resolve.follow block sum_of le.le_value le.le_bytes type-book-book.same_name type-names-names.is_pointer_name category.is_pointer category.is_reference type-names-names.is_sub_range_name category.is_alias category.or_else type-names-names.is_primitive_name category.is_union category.methods_category category.fields_category category.is_empty_struct category.bare_category category.size_category category.complex_category category.simple_category category.category_of type-names-text.is_one_of type-names-text.starts_with type-names-text.contains type_id.id_of time-types-counts.time_of time-types-counts.count_width time-types-types.time_type_of
form_before_range = refl

-- bytes 4 to 7 of a value are a type block, or 16: the walk alone would not see them
declared-field : book_write (write_ctx book 8 wide []) 0 4 example_image ≡ refused 16 0 example_image
unfolding call.book_write form.formed form.at_tape_end form.value_at form.body_by form.record_shape form.member_at form.several form.closing_record form.form_onward form.with_record ranges.leaf_fine ranges.leaf_ranges ranges.textual ranges.integer_fine ranges.sized ranges.only_b ranges.names_block ranges.empty ranges.only_a ranges.text_in ranges.block_is ranges.is_width ranges.unused ranges.undeclared ranges.declares ranges.opens ranges.closes ranges.is_key integer.fits_unsigned call.type_write call.root_write_by call.root_write write.◌then_writes◌ write.placed write.taken_by write.taken write.end_record_by write.leaf_end write.leaf_write element.shape_at write.checked_write write.field_write write.found_value write.key_by write.key_of write.keys_from write.map_by write.map_write write.value_by write.item_write write.write_walk leaf.exactly leaf.integer_by leaf.integer_write leaf.leaf_write_by leaf.leaf_for integer.twos_complement integer.twos_bits integer.fits_signed integer.fits_id integer.write_integer integer.integer_bytes named.named_from tape-record.record_bytes tape-record.record_of tape-record.step_at tape-text.name_in tape-text.record_text fields.field_of fields.field_found fields.resolve_field fields.field_then fields.fields_from fields.fields_check type-book-book.is_named find.find_from find.find resolve.is_followed resolve.chain_onward resolve.follow block sum_of le.le_value le.le_bytes type-book-book.same_name type-names-names.is_pointer_name category.is_pointer category.is_reference type-names-names.is_sub_range_name category.is_alias category.or_else type-names-names.is_primitive_name category.is_union category.methods_category category.fields_category category.is_empty_struct category.bare_category category.size_category category.complex_category category.simple_category category.category_of type-names-text.is_one_of type-names-text.starts_with type-names-text.contains type_id.id_of time-types-counts.time_of time-types-counts.count_width time-types-types.time_type_of
declared-field = refl

-- an output of another length: 10 before 16
length-before_form : book_write (write_ctx book 8 (short 3) []) 0 3 example_image ≡ refused 10 0 example_image
unfolding call.book_write form.formed form.at_tape_end form.value_at form.body_by form.record_shape form.member_at form.several form.closing_record form.form_onward form.with_record ranges.leaf_fine ranges.leaf_ranges ranges.textual ranges.integer_fine ranges.sized ranges.only_b ranges.names_block ranges.empty ranges.only_a ranges.text_in ranges.block_is ranges.is_width ranges.unused ranges.undeclared ranges.declares ranges.opens ranges.closes ranges.is_key integer.fits_unsigned call.type_write call.root_write_by call.root_write write.◌then_writes◌ write.placed write.taken_by write.taken write.end_record_by write.leaf_end write.leaf_write element.shape_at write.checked_write write.field_write write.found_value write.key_by write.key_of write.keys_from write.map_by write.map_write write.value_by write.item_write write.write_walk leaf.exactly leaf.integer_by leaf.integer_write leaf.leaf_write_by leaf.leaf_for integer.twos_complement integer.twos_bits integer.fits_signed integer.fits_id integer.write_integer integer.integer_bytes named.named_from tape-record.record_bytes tape-record.record_of tape-record.step_at tape-text.name_in tape-text.record_text fields.field_of fields.field_found fields.resolve_field fields.field_then fields.fields_from fields.fields_check type-book-book.is_named find.find_from find.find resolve.is_followed resolve.chain_onward resolve.follow block sum_of le.le_value le.le_bytes type-book-book.same_name type-names-names.is_pointer_name category.is_pointer category.is_reference type-names-names.is_sub_range_name category.is_alias category.or_else type-names-names.is_primitive_name category.is_union category.methods_category category.fields_category category.is_empty_struct category.bare_category category.size_category category.complex_category category.simple_category category.category_of type-names-text.is_one_of type-names-text.starts_with type-names-text.contains type_id.id_of time-types-counts.time_of time-types-counts.count_width time-types-types.time_type_of
length-before_form = refl
