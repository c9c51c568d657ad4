-- Each premise of the round trip is needed: bytes that a read takes and a write of the same tape does not give back. Assumes nothing.
use mathlib.Core.Path.{◌≡◌, refl}
use mathlib.Core.Bool.{Bool, true, false}
use mathlib.Core.List.{List, [], ◌∷◌, flat_map}
use Prim.Native.Nat.{ℕ}
use lib.ListN.{length}
use Rattle.ser.specs.Write.{Outcome, went, refused}
use Rattle.de.specs.Walk.{ctx}
use Rattle.enc_number.specs.Le as enc-number-le
use Rattle.enc_integer.specs.Integer as enc-integer-integer
use Rattle.enc_float.specs.Float as enc-float-float
use Rattle.enc_utf_8.specs.Utf8 as enc-utf-8-utf8
use Rattle.enc_windows_1252.specs.Text as enc-windows-1252-text
use Rattle.enc_windows_1252.specs.Index as enc-windows-1252-index
use Rattle.enc_utf_16.specs.Decode as enc-utf-16-decode
use Rattle.enc_utf_16.specs.Encode as enc-utf-16-encode
use Rattle.enc_utf_16.specs.WString as enc-utf-16-wstring
use Rattle.type_book.specs.Book as type-book-book
use Rattle.type_id.specs.TypeId as type-id-typeid
use Rattle.type_names.specs.Text as type-names-text
use Rattle.type_names.specs.Names as type-names-names
use Rattle.time_types.specs.Types as time-types-types
use Rattle.time_types.specs.Counts as time-types-counts
use Rattle.type_category.specs.Category as type-category-category
use Rattle.type_provider.specs.Find as type-provider-find
use Rattle.type_block_form.specs.Form as type-block-form-form
use Rattle.type_doubles.specs.Doubles as type-doubles-doubles
use Rattle.type_book_check.specs.Check as type-book-check-check
use Rattle.resolvers.specs.Resolve as resolvers-resolve
use Rattle.resolve_field_types.specs.Fields as resolve-field-types-fields
use Rattle.ser_named_blocks.specs.Named as ser-named-blocks-named
use Rattle.tape.specs.Record as tape-record
use Rattle.tape.specs.Text as tape-text
use Rattle.tape_form.specs.Ranges as tape-form-ranges
use Rattle.tape_form.specs.Form as tape-form-form
use Rattle.tape_shape.specs.Array as tape-shape-array
use Rattle.de_leaves.specs.Leaf as de-leaves-leaf
use Rattle.de_output.specs.Trace as de-output-trace
use Rattle.enc_text_decoder.specs.Text as enc-text-decoder-text
use Rattle.tape_array_elements.specs.Element as tape-array-elements-element
use Rattle.de.specs.Walk as de-walk
use Rattle.de.specs.Read as de-read
use Rattle.ser_leaf.specs.Leaf as ser-leaf-leaf
use Rattle.ser.specs.Write as ser-write
use Rattle.ser.specs.Call as ser-call
use Rattle.ser_laws.specs.Trip as trip
use Rattle.ser_laws.proofs.Books.{filled, made, bare, enum, struct}

-- what a call writes over some bytes of root block 0, of what a call reads of them
again : List ℕ → List ℕ → Outcome
again book mem =
    ser-call.write_call book (length book) 8 0 mem (length mem)
    (de-output-trace.tape_bytes 0 (de-output-trace.events_of (de-read.read_trace book (length book) 8 0 mem)))
    (de-output-trace.text_bytes (de-output-trace.events_of (de-read.read_trace book (length book) 8 0 mem)))

-- whether the bytes of root block 0 are kept
kept : List ℕ → List ℕ → Bool
kept book mem = trip.is_kept (ctx book 8) 0 mem

-- not given back: a bool's byte 2 (1 instead); a STRING with a byte after its end (0 instead); a STRING without an end (10); a WSTRING with a
-- surrogate alone (U+FFFD instead); a unit (17); an entry whose name an earlier one has (that one's value); a field whose name an earlier one
-- has (that one's bytes are written twice)
lost :
    again (bare 33 1) (2 ∷ [])
    ∷ again (bare 30 3) (0x41 ∷ 0 ∷ 0x42 ∷ [])
    ∷ again (bare 30 2) (0x41 ∷ 0x42 ∷ [])
    ∷ again (bare 31 4) (0 ∷ 0xd8 ∷ 0 ∷ 0 ∷ [])
    ∷ again (bare 65 1) (7 ∷ [])
    ∷ again (enum 0x58 0x58) (2 ∷ [])
    ∷ again (struct 0x41 0x41) (1 ∷ 2 ∷ [])
    ∷ []
    ≡ went (record { at = 24 }) (1 ∷ [])
    ∷ went (record { at = 24 }) (0x41 ∷ 0 ∷ 0 ∷ [])
    ∷ refused 10 0 (0x41 ∷ 0x42 ∷ [])
    ∷ went (record { at = 24 }) (0xfd ∷ 0xff ∷ 0 ∷ 0 ∷ [])
    ∷ refused 17 0 (7 ∷ [])
    ∷ went (record { at = 24 }) (1 ∷ [])
    ∷ went (record { at = 144 }) (2 ∷ 2 ∷ [])
    ∷ []
unfolding again kept bare enum struct made filled flat_map enc-number-le.le_value enc-number-le.le_bytes enc-integer-integer.integer_read_numbers enc-integer-integer.integer_write_numbers enc-integer-integer.twos_complement enc-integer-integer.twos_bits enc-integer-integer.bytes_value enc-integer-integer.integer_of enc-integer-integer.read_integer enc-integer-integer.fits_signed enc-integer-integer.fits_unsigned enc-integer-integer.fits_id enc-integer-integer.write_integer enc-integer-integer.integer_after enc-integer-integer.integer_bytes enc-float-float.real_read_numbers enc-float-float.single_of enc-float-float.double_of enc-float-float.real_of enc-float-float.read_real enc-float-float.write_real enc-float-float.real_after enc-utf-8-utf8.leading enc-utf-8-utf8.following enc-utf-8-utf8.after_reply enc-utf-8-utf8.decode_from enc-utf-8-utf8.no_error enc-utf-8-utf8.found enc-utf-8-utf8.next_from enc-utf-8-utf8.encoded enc-utf-8-utf8.utf8_of enc-windows-1252-text.end_from enc-windows-1252-text.decode_text enc-windows-1252-text.digits enc-windows-1252-text.bytes_by enc-windows-1252-text.encode_text enc-windows-1252-index.listed_points enc-windows-1252-index.code_point enc-windows-1252-index.code_points enc-windows-1252-index.first_from enc-windows-1252-index.byte_of enc-utf-16-decode.unit_alone enc-utf-16-decode.unit_after enc-utf-16-decode.decode16_from enc-utf-16-decode.decode_scalars enc-utf-16-encode.utf16_of enc-utf-16-wstring.end16_from type-book-book.same_name type-book-book.is_named type-id-typeid.id_of type-names-text.is_one_of type-names-text.starts_with type-names-text.contains type-names-names.is_pointer_name type-names-names.is_sub_range_name type-names-names.is_primitive_name type-category-category.is_pointer type-category-category.is_reference type-category-category.is_alias type-category-category.or_else type-category-category.is_union type-category-category.methods_category type-category-category.fields_category type-category-category.is_empty_struct type-category-category.bare_category type-category-category.size_category type-category-category.complex_category type-category-category.simple_category type-category-category.category_of type-provider-find.find_from type-provider-find.find type-block-form-form.sum_of type-block-form-form.sum_right type-block-form-form.every type-block-form-form.unused_zero type-block-form-form.name_form type-block-form-form.names_form type-block-form-form.type_form type-block-form-form.flags_form type-block-form-form.field_form type-block-form-form.entry_form type-doubles-doubles.all_from type-doubles-doubles.is_other type-doubles-doubles.is_first type-book-check-check.size_right type-book-check-check.sum_at type-book-check-check.place_of type-book-check-check.places_onward type-book-check-check.placed_from type-book-check-check.check_blocks type-book-check-check.check_book type-book-check-check.root_of type-book-check-check.book_numbers type-book-check-check.at_root type-book-check-check.check_root resolvers-resolve.is_followed resolvers-resolve.chain_onward resolvers-resolve.follow resolvers-resolve.look_up resolve-field-types-fields.field_of resolve-field-types-fields.field_found resolve-field-types-fields.resolve_field resolve-field-types-fields.field_then resolve-field-types-fields.fields_from resolve-field-types-fields.fields_check ser-named-blocks-named.named_from tape-record.record_bytes tape-record.record_of tape-record.step_at tape-text.text_part tape-text.name_in tape-text.record_text tape-form-ranges.unused tape-form-ranges.undeclared tape-form-ranges.declares tape-form-ranges.opens tape-form-ranges.closes tape-form-ranges.is_key tape-form-ranges.is_width tape-form-ranges.block_is tape-form-ranges.text_in tape-form-ranges.only_a tape-form-ranges.empty tape-form-ranges.names_block tape-form-ranges.only_b tape-form-ranges.sized tape-form-ranges.integer_fine tape-form-ranges.textual tape-form-ranges.leaf_ranges tape-form-ranges.leaf_fine tape-form-form.with_record tape-form-form.form_onward tape-form-form.closing_record tape-form-form.several tape-form-form.member_at tape-form-form.record_shape tape-form-form.body_by tape-form-form.value_at tape-form-form.at_tape_end tape-form-form.formed tape-shape-array.product_from tape-shape-array.stride_of tape-shape-array.is_last tape-shape-array.array_bytes de-leaves-leaf.bool_leaf de-leaves-leaf.integer_leaf de-leaves-leaf.real_or de-leaves-leaf.number_leaf de-leaves-leaf.pointer_leaf de-leaves-leaf.decoder_of de-leaves-leaf.text_leaf de-leaves-leaf.entry_from de-leaves-leaf.unlisted de-leaves-leaf.enum_leaf de-leaves-leaf.kind_leaf de-leaves-leaf.leaf_by de-leaves-leaf.leaf_at de-output-trace.text_bytes de-output-trace.tape_bytes de-output-trace.events_of de-output-trace.end_of de-output-trace.◌then◌ de-output-trace.fits de-output-trace.step_of de-output-trace.fitting enc-text-decoder-text.decoded_by enc-text-decoder-text.end_by tape-array-elements-element.shape_at de-walk.leaf_of de-walk.checked de-walk.field_value de-walk.member_of de-walk.members_from de-walk.members_of de-walk.map_of tape-array-elements-element.element_item tape-array-elements-element.shape_check tape-array-elements-element.element_check de-walk.elements_from de-walk.elements_of de-walk.dimension_of de-walk.element_by de-walk.array_by de-walk.array_of de-walk.shape_walk de-walk.item_walk de-walk.read_walk de-read.root_by de-read.root_trace de-read.read_trace ser-leaf-leaf.exactly ser-leaf-leaf.bool_write ser-leaf-leaf.real_write ser-leaf-leaf.integer_by ser-leaf-leaf.pointer_write ser-leaf-leaf.integer_write ser-leaf-leaf.entry_by ser-leaf-leaf.entry_leaf ser-leaf-leaf.enum_write ser-leaf-leaf.padded ser-leaf-leaf.string_bytes ser-leaf-leaf.text_by ser-leaf-leaf.text_write ser-leaf-leaf.leaf_write_by ser-leaf-leaf.leaf_for ser-write.◌then_writes◌ ser-write.placed ser-write.taken_by ser-write.taken ser-write.end_record_by ser-write.leaf_end ser-write.leaf_write ser-write.checked_write ser-write.field_write ser-write.found_value ser-write.key_by ser-write.key_of ser-write.keys_from ser-write.map_by ser-write.map_write ser-write.elements_write ser-write.elements_by ser-write.dimension_write ser-write.element_type ser-write.entered_by ser-write.entered_at ser-write.array_write_by ser-write.array_write ser-write.value_by ser-write.item_write ser-write.write_walk ser-call.type_write ser-call.root_write_by ser-call.root_write ser-call.refused_before ser-call.book_write ser-call.write_call trip.zeros_after trip.is_whole trip.text_kept trip.entry_kept trip.leaf_kept trip.finds trip.field_kept trip.fields_kept trip.elements_kept trip.dimension_kept trip.array_kept trip.shape_kept trip.item_kept trip.walk_kept trip.root_kept trip.is_kept time-types-counts.time_of time-types-counts.count_width time-types-types.time_type_of
lost = refl

-- and the premise says so, case by case; their like is kept
told :
    kept (bare 33 1) (2 ∷ []) ∷ kept (bare 33 1) (1 ∷ [])
    ∷ kept (bare 30 3) (0x41 ∷ 0 ∷ 0x42 ∷ []) ∷ kept (bare 30 3) (0x41 ∷ 0x80 ∷ 0 ∷ [])
    ∷ kept (bare 30 2) (0x41 ∷ 0x42 ∷ []) ∷ kept (bare 30 2) (0x41 ∷ 0 ∷ [])
    ∷ kept (bare 31 4) (0 ∷ 0xd8 ∷ 0 ∷ 0 ∷ []) ∷ kept (bare 31 4) (0x41 ∷ 0 ∷ 0 ∷ 0 ∷ [])
    ∷ kept (bare 65 1) (7 ∷ []) ∷ kept (bare 17 1) (7 ∷ [])
    ∷ kept (enum 0x58 0x58) (2 ∷ []) ∷ kept (enum 0x58 0x59) (2 ∷ [])
    ∷ kept (struct 0x41 0x41) (1 ∷ 2 ∷ []) ∷ kept (struct 0x41 0x42) (1 ∷ 2 ∷ [])
    ∷ []
    ≡ false ∷ true ∷ false ∷ true ∷ false ∷ true ∷ false ∷ true ∷ false ∷ true ∷ false ∷ true ∷ false ∷ true ∷ []
unfolding again kept bare enum struct made filled flat_map enc-number-le.le_value enc-number-le.le_bytes enc-integer-integer.integer_read_numbers enc-integer-integer.integer_write_numbers enc-integer-integer.twos_complement enc-integer-integer.twos_bits enc-integer-integer.bytes_value enc-integer-integer.integer_of enc-integer-integer.read_integer enc-integer-integer.fits_signed enc-integer-integer.fits_unsigned enc-integer-integer.fits_id enc-integer-integer.write_integer enc-integer-integer.integer_after enc-integer-integer.integer_bytes enc-float-float.real_read_numbers enc-float-float.single_of enc-float-float.double_of enc-float-float.real_of enc-float-float.read_real enc-float-float.write_real enc-float-float.real_after enc-utf-8-utf8.leading enc-utf-8-utf8.following enc-utf-8-utf8.after_reply enc-utf-8-utf8.decode_from enc-utf-8-utf8.no_error enc-utf-8-utf8.found enc-utf-8-utf8.next_from enc-utf-8-utf8.encoded enc-utf-8-utf8.utf8_of enc-windows-1252-text.end_from enc-windows-1252-text.decode_text enc-windows-1252-text.digits enc-windows-1252-text.bytes_by enc-windows-1252-text.encode_text enc-windows-1252-index.listed_points enc-windows-1252-index.code_point enc-windows-1252-index.code_points enc-windows-1252-index.first_from enc-windows-1252-index.byte_of enc-utf-16-decode.unit_alone enc-utf-16-decode.unit_after enc-utf-16-decode.decode16_from enc-utf-16-decode.decode_scalars enc-utf-16-encode.utf16_of enc-utf-16-wstring.end16_from type-book-book.same_name type-book-book.is_named type-id-typeid.id_of type-names-text.is_one_of type-names-text.starts_with type-names-text.contains type-names-names.is_pointer_name type-names-names.is_sub_range_name type-names-names.is_primitive_name type-category-category.is_pointer type-category-category.is_reference type-category-category.is_alias type-category-category.or_else type-category-category.is_union type-category-category.methods_category type-category-category.fields_category type-category-category.is_empty_struct type-category-category.bare_category type-category-category.size_category type-category-category.complex_category type-category-category.simple_category type-category-category.category_of type-provider-find.find_from type-provider-find.find type-block-form-form.sum_of type-block-form-form.sum_right type-block-form-form.every type-block-form-form.unused_zero type-block-form-form.name_form type-block-form-form.names_form type-block-form-form.type_form type-block-form-form.flags_form type-block-form-form.field_form type-block-form-form.entry_form type-doubles-doubles.all_from type-doubles-doubles.is_other type-doubles-doubles.is_first type-book-check-check.size_right type-book-check-check.sum_at type-book-check-check.place_of type-book-check-check.places_onward type-book-check-check.placed_from type-book-check-check.check_blocks type-book-check-check.check_book type-book-check-check.root_of type-book-check-check.book_numbers type-book-check-check.at_root type-book-check-check.check_root resolvers-resolve.is_followed resolvers-resolve.chain_onward resolvers-resolve.follow resolvers-resolve.look_up resolve-field-types-fields.field_of resolve-field-types-fields.field_found resolve-field-types-fields.resolve_field resolve-field-types-fields.field_then resolve-field-types-fields.fields_from resolve-field-types-fields.fields_check ser-named-blocks-named.named_from tape-record.record_bytes tape-record.record_of tape-record.step_at tape-text.text_part tape-text.name_in tape-text.record_text tape-form-ranges.unused tape-form-ranges.undeclared tape-form-ranges.declares tape-form-ranges.opens tape-form-ranges.closes tape-form-ranges.is_key tape-form-ranges.is_width tape-form-ranges.block_is tape-form-ranges.text_in tape-form-ranges.only_a tape-form-ranges.empty tape-form-ranges.names_block tape-form-ranges.only_b tape-form-ranges.sized tape-form-ranges.integer_fine tape-form-ranges.textual tape-form-ranges.leaf_ranges tape-form-ranges.leaf_fine tape-form-form.with_record tape-form-form.form_onward tape-form-form.closing_record tape-form-form.several tape-form-form.member_at tape-form-form.record_shape tape-form-form.body_by tape-form-form.value_at tape-form-form.at_tape_end tape-form-form.formed tape-shape-array.product_from tape-shape-array.stride_of tape-shape-array.is_last tape-shape-array.array_bytes de-leaves-leaf.bool_leaf de-leaves-leaf.integer_leaf de-leaves-leaf.real_or de-leaves-leaf.number_leaf de-leaves-leaf.pointer_leaf de-leaves-leaf.decoder_of de-leaves-leaf.text_leaf de-leaves-leaf.entry_from de-leaves-leaf.unlisted de-leaves-leaf.enum_leaf de-leaves-leaf.kind_leaf de-leaves-leaf.leaf_by de-leaves-leaf.leaf_at de-output-trace.text_bytes de-output-trace.tape_bytes de-output-trace.events_of de-output-trace.end_of de-output-trace.◌then◌ de-output-trace.fits de-output-trace.step_of de-output-trace.fitting enc-text-decoder-text.decoded_by enc-text-decoder-text.end_by tape-array-elements-element.shape_at de-walk.leaf_of de-walk.checked de-walk.field_value de-walk.member_of de-walk.members_from de-walk.members_of de-walk.map_of tape-array-elements-element.element_item tape-array-elements-element.shape_check tape-array-elements-element.element_check de-walk.elements_from de-walk.elements_of de-walk.dimension_of de-walk.element_by de-walk.array_by de-walk.array_of de-walk.shape_walk de-walk.item_walk de-walk.read_walk de-read.root_by de-read.root_trace de-read.read_trace ser-leaf-leaf.exactly ser-leaf-leaf.bool_write ser-leaf-leaf.real_write ser-leaf-leaf.integer_by ser-leaf-leaf.pointer_write ser-leaf-leaf.integer_write ser-leaf-leaf.entry_by ser-leaf-leaf.entry_leaf ser-leaf-leaf.enum_write ser-leaf-leaf.padded ser-leaf-leaf.string_bytes ser-leaf-leaf.text_by ser-leaf-leaf.text_write ser-leaf-leaf.leaf_write_by ser-leaf-leaf.leaf_for ser-write.◌then_writes◌ ser-write.placed ser-write.taken_by ser-write.taken ser-write.end_record_by ser-write.leaf_end ser-write.leaf_write ser-write.checked_write ser-write.field_write ser-write.found_value ser-write.key_by ser-write.key_of ser-write.keys_from ser-write.map_by ser-write.map_write ser-write.elements_write ser-write.elements_by ser-write.dimension_write ser-write.element_type ser-write.entered_by ser-write.entered_at ser-write.array_write_by ser-write.array_write ser-write.value_by ser-write.item_write ser-write.write_walk ser-call.type_write ser-call.root_write_by ser-call.root_write ser-call.refused_before ser-call.book_write ser-call.write_call trip.zeros_after trip.is_whole trip.text_kept trip.entry_kept trip.leaf_kept trip.finds trip.field_kept trip.fields_kept trip.elements_kept trip.dimension_kept trip.array_kept trip.shape_kept trip.item_kept trip.walk_kept trip.root_kept trip.is_kept time-types-counts.time_of time-types-counts.count_width time-types-types.time_type_of
told = refl
