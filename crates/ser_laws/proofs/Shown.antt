-- What calls write and the leaves that their tapes name, in worked examples: a root by its number and by its name. Assumes nothing.
use mathlib.Core.Path.{◌≡◌, refl}
use mathlib.Core.List.{List, [], ◌∷◌, ◌++◌, flat_map}
use Prim.Native.Nat.{ℕ}
use lib.ListN.{length, replicate}
use Rattle.enc_number.specs.Le.{le_bytes}
use Rattle.type_block_form.specs.Form.{sum_of}
use Rattle.type_book_check.specs.Given.{Given, number, name, lacking_root}
use Rattle.ser.specs.Write.{Outcome, went, refused}
use Rattle.enc_number.specs.Le as enc-number-le
use Rattle.enc_integer.specs.Integer as enc-integer-integer
use Rattle.enc_float.specs.Float as enc-float-float
use Rattle.enc_utf_8.specs.Utf8 as enc-utf-8-utf8
use Rattle.enc_windows_1252.specs.Text as enc-windows-1252-text
use Rattle.enc_windows_1252.specs.Index as enc-windows-1252-index
use Rattle.enc_utf_16.specs.Encode as enc-utf-16-encode
use Rattle.type_book.specs.Book as type-book-book
use Rattle.type_id.specs.TypeId as type-id-typeid
use Rattle.type_names.specs.Text as type-names-text
use Rattle.type_names.specs.Names as type-names-names
use Rattle.time_types.specs.Types as time-types-types
use Rattle.time_types.specs.Counts as time-types-counts
use Rattle.type_category.specs.Category as type-category-category
use Rattle.type_provider.specs.Find as type-provider-find
use Rattle.type_block_form.specs.Form as type-block-form-form
use Rattle.type_doubles.specs.Doubles as type-doubles-doubles
use Rattle.type_book_check.specs.Check as type-book-check-check
use Rattle.type_book_check.specs.Given as type-book-check-given
use Rattle.resolvers.specs.Resolve as resolvers-resolve
use Rattle.resolve_field_types.specs.Fields as resolve-field-types-fields
use Rattle.ser_named_blocks.specs.Named as ser-named-blocks-named
use Rattle.tape.specs.Record as tape-record
use Rattle.tape.specs.Text as tape-text
use Rattle.tape_form.specs.Ranges as tape-form-ranges
use Rattle.tape_form.specs.Form as tape-form-form
use Rattle.tape_shape.specs.Array as tape-shape-array
use Rattle.tape_array_elements.specs.Element as tape-array-elements-element
use Rattle.ser_leaf.specs.Leaf as ser-leaf-leaf
use Rattle.ser.specs.Write as ser-write
use Rattle.ser.specs.Call as ser-call
use Rattle.ser_laws.specs.Touched as touched
use Rattle.ser_laws.specs.Touched.{Range}
use Rattle.ser_laws.specs.Given as touched_given
use Rattle.ser_laws.proofs.Books.{filled}

-- ---- books

-- a block: kind, byte 2, bytes 4 to 7, 8 to 11 and 12 to 15, the bytes from 20 on, name and type name
unfoldable block_made : ℕ → ℕ → ℕ → ℕ → ℕ → List ℕ → List ℕ → List ℕ → List ℕ
block_made kind dimensions low size fields value word type_word =
    let bytes : List ℕ =
    kind ∷ 0 ∷ dimensions ∷ 0 ∷ (le_bytes 4 low ++ le_bytes 4 size ++ le_bytes 4 fields ++ le_bytes 4 0 ++ filled 32 value
    ++ (length word ∷ length type_word ∷ (filled 200 word ++ filled 200 type_word ++ replicate 54 0))) in
    bytes ++ le_bytes 4 (sum_of bytes)

-- a type T without fields: id and size
unfoldable alone : ℕ → ℕ → List ℕ
alone id size = block_made 1 0 id size 0 [] (0x54 ∷ []) []

-- a field: its offset and size, its name and its type's
unfoldable field : ℕ → ℕ → ℕ → ℕ → List ℕ
field offset size word type_word = block_made 2 0 offset size 0 [] (word ∷ []) (type_word ∷ [])

-- a struct S of two bytes, with two fields of these names and of the type T, an unsigned byte
unfoldable two : ℕ → ℕ → List ℕ
two x y = block_made 1 0 65 2 2 [] (0x53 ∷ []) [] ++ field 0 1 x 0x54 ++ field 1 1 y 0x54 ++ alone 17 1

-- a struct of three bytes, with the fields A, B and C of the type T, an unsigned byte
unfoldable three : List ℕ
three = block_made 1 0 65 3 3 [] (0x53 ∷ []) [] ++ field 0 1 0x41 0x54 ++ field 1 1 0x42 0x54 ++ field 2 1 0x43 0x54 ++ alone 17 1

-- a struct of three bytes, with the field X, an unsigned byte, and after it the field Y, a struct S with the fields A and B
unfoldable nested : List ℕ
nested = block_made 1 0 65 3 2 [] (0x4f ∷ []) [] ++ field 0 1 0x58 0x54 ++ field 1 2 0x59 0x53 ++ two 0x41 0x42

-- an array of so many elements of the type T, with an id and a size of its own; id and size of T
unfoldable array : ℕ → ℕ → ℕ → ℕ → ℕ → List ℕ
array count id size element_id element_size = block_made 1 1 id size 0 (le_bytes 4 count) (0x41 ∷ []) (0x54 ∷ []) ++ alone element_id element_size

-- ---- calls

-- a record of a kind with a width, A and B
unfoldable rec : ℕ → ℕ → ℕ → ℕ → List ℕ
rec k w a b = tape-record.record_bytes (record { kind = k; width = w; spare = 0; declared = 0; a = a; b = b })

-- what a call writes over an image, of a book, a root, a tape and a text, with the leaves that the tape names
unfoldable shown : List ℕ → Given → List ℕ → List ℕ → List ℕ → Outcome × List Range
shown book root tape text image =
    (ser-call.given_write book (length book) 8 root image (length image) tape text, touched_given.given_leaves book (length book) 8 root (length image) tape text)

record Shown : Type 0 where
  -- the second field of a struct
  second :
      shown (two 0x41 0x42) (number 0) (rec 3 0 1 0 ++ rec 4 0 2 0 ++ rec 8 1 0 7 ++ rec 5 0 0 0) [] (0xee ∷ 0xee ∷ [])
      ≡ (went (record { at = 96 }) (0xee ∷ 7 ∷ []), record { from = 1; size = 1 } ∷ [])
  -- two of three fields, in the order of the keys
  two_of_three :
      shown three (number 0) (rec 3 0 2 0 ++ rec 4 0 3 0 ++ rec 8 1 0 7 ++ rec 4 0 1 0 ++ rec 8 1 0 9 ++ rec 5 0 0 0) [] (0xee ∷ 0xee ∷ 0xee ∷ [])
      ≡ (went (record { at = 144 }) (9 ∷ 0xee ∷ 7 ∷ []), record { from = 2; size = 1 } ∷ record { from = 0; size = 1 } ∷ [])
  -- a struct in a struct: of Y, at byte 1, the field B, and no other byte of Y
  inner :
      shown nested (number 0) (rec 3 0 1 0 ++ rec 4 0 2 0 ++ rec 3 0 1 0 ++ rec 4 0 5 0 ++ rec 8 1 0 7 ++ rec 5 0 0 0 ++ rec 5 0 0 0) [] (0xee ∷ 0xee ∷ 0xee ∷ [])
      ≡ (went (record { at = 168 }) (0xee ∷ 0xee ∷ 7 ∷ []), record { from = 2; size = 1 } ∷ [])
  -- [2]INT, element by element
  elements :
      shown (array 2 2 4 2 2) (number 0) (rec 1 0 2 0 ++ rec 7 2 0 5 ++ rec 7 2 0 6 ++ rec 2 0 0 0) [] (0xee ∷ 0xee ∷ 0xee ∷ 0xee ∷ [])
      ≡ (went (record { at = 96 }) (5 ∷ 0 ∷ 6 ∷ 0 ∷ []), record { from = 0; size = 2 } ∷ record { from = 2; size = 2 } ∷ [])
  -- an integer into [1]INT, by the array's own id
  integer_array :
      shown (array 1 2 2 2 2) (number 0) (rec 7 2 0 7) [] (0xee ∷ 0xee ∷ [])
      ≡ (went (record { at = 24 }) (7 ∷ 0 ∷ []), record { from = 0; size = 2 } ∷ [])
  -- a text into [2]STRING, by the array's own id
  text_array :
      shown (array 2 30 6 30 3) (number 0) (rec 11 0 0 5) (0x61 ∷ 0x62 ∷ 0x63 ∷ 0x64 ∷ 0x65 ∷ []) (0xee ∷ 0xee ∷ 0xee ∷ 0xee ∷ 0xee ∷ 0xee ∷ [])
      ≡ (went (record { at = 24 }) (0x61 ∷ 0x62 ∷ 0x63 ∷ 0x64 ∷ 0x65 ∷ 0 ∷ []), record { from = 0; size = 6 } ∷ [])
  -- no key
  none :
      shown (two 0x41 0x42) (number 0) (rec 3 0 0 0 ++ rec 5 0 0 0) [] (0xee ∷ 0xee ∷ [])
      ≡ (went (record { at = 48 }) (0xee ∷ 0xee ∷ []), [])
  -- a leaf by itself
  whole :
      shown (alone 19 4) (number 0) (rec 8 4 0 7) [] (0xee ∷ 0xee ∷ 0xee ∷ 0xee ∷ [])
      ≡ (went (record { at = 24 }) (7 ∷ 0 ∷ 0 ∷ 0 ∷ []), record { from = 0; size = 4 } ∷ [])
  -- a root by its name: S, block 3
  by_name :
      shown nested (name (0x53 ∷ [])) (rec 3 0 1 0 ++ rec 4 0 5 0 ++ rec 8 1 0 7 ++ rec 5 0 0 0) [] (0xee ∷ 0xee ∷ [])
      ≡ (went (record { at = 96 }) (0xee ∷ 7 ∷ []), record { from = 1; size = 1 } ∷ [])
  -- a name that the book lacks
  lacking :
      shown nested (name (0x5a ∷ [])) (rec 3 0 1 0 ++ rec 4 0 5 0 ++ rec 8 1 0 7 ++ rec 5 0 0 0) [] (0xee ∷ 0xee ∷ [])
      ≡ (refused 7 lacking_root (0xee ∷ 0xee ∷ []), [])

written : Shown
unfolding shown rec array nested three two field alone block_made filled flat_map enc-number-le.le_value enc-number-le.le_bytes enc-integer-integer.integer_read_numbers enc-integer-integer.integer_write_numbers enc-integer-integer.twos_complement enc-integer-integer.twos_bits enc-integer-integer.bytes_value enc-integer-integer.integer_of enc-integer-integer.read_integer enc-integer-integer.fits_signed enc-integer-integer.fits_unsigned enc-integer-integer.fits_id enc-integer-integer.write_integer enc-integer-integer.integer_after enc-integer-integer.integer_bytes enc-float-float.real_read_numbers enc-float-float.single_of enc-float-float.double_of enc-float-float.real_of enc-float-float.read_real enc-float-float.write_real enc-float-float.real_after enc-utf-8-utf8.leading enc-utf-8-utf8.following enc-utf-8-utf8.after_reply enc-utf-8-utf8.decode_from enc-utf-8-utf8.no_error enc-utf-8-utf8.found enc-utf-8-utf8.next_from enc-utf-8-utf8.encoded enc-utf-8-utf8.utf8_of enc-windows-1252-text.end_from enc-windows-1252-text.decode_text enc-windows-1252-text.digits enc-windows-1252-text.bytes_by enc-windows-1252-text.encode_text enc-windows-1252-index.listed_points enc-windows-1252-index.code_point enc-windows-1252-index.code_points enc-windows-1252-index.first_from enc-windows-1252-index.byte_of enc-utf-16-encode.utf16_of type-book-book.same_name type-book-book.is_named type-id-typeid.id_of type-names-text.is_one_of type-names-text.starts_with type-names-text.contains type-names-names.is_pointer_name type-names-names.is_sub_range_name type-names-names.is_primitive_name type-category-category.is_pointer type-category-category.is_reference type-category-category.is_alias type-category-category.or_else type-category-category.is_union type-category-category.methods_category type-category-category.fields_category type-category-category.is_empty_struct type-category-category.bare_category type-category-category.size_category type-category-category.complex_category type-category-category.simple_category type-category-category.category_of type-provider-find.find_from type-provider-find.find type-block-form-form.sum_of type-block-form-form.sum_right type-block-form-form.every type-block-form-form.unused_zero type-block-form-form.name_form type-block-form-form.names_form type-block-form-form.type_form type-block-form-form.flags_form type-block-form-form.field_form type-block-form-form.entry_form type-doubles-doubles.all_from type-doubles-doubles.is_other type-doubles-doubles.is_first type-book-check-check.size_right type-book-check-check.sum_at type-book-check-check.place_of type-book-check-check.places_onward type-book-check-check.placed_from type-book-check-check.check_blocks type-book-check-check.check_book type-book-check-check.root_of type-book-check-check.book_numbers resolvers-resolve.is_followed resolvers-resolve.chain_onward resolvers-resolve.follow resolvers-resolve.look_up resolve-field-types-fields.field_of resolve-field-types-fields.field_found resolve-field-types-fields.resolve_field resolve-field-types-fields.field_then resolve-field-types-fields.fields_from resolve-field-types-fields.fields_check ser-named-blocks-named.named_from tape-record.record_bytes tape-record.record_of tape-record.step_at tape-text.text_part tape-text.name_in tape-text.record_text tape-form-ranges.unused tape-form-ranges.undeclared tape-form-ranges.declares tape-form-ranges.opens tape-form-ranges.closes tape-form-ranges.is_key tape-form-ranges.is_width tape-form-ranges.block_is tape-form-ranges.text_in tape-form-ranges.only_a tape-form-ranges.empty tape-form-ranges.names_block tape-form-ranges.only_b tape-form-ranges.sized tape-form-ranges.integer_fine tape-form-ranges.textual tape-form-ranges.leaf_ranges tape-form-ranges.leaf_fine tape-form-form.with_record tape-form-form.form_onward tape-form-form.closing_record tape-form-form.several tape-form-form.member_at tape-form-form.record_shape tape-form-form.body_by tape-form-form.value_at tape-form-form.at_tape_end tape-form-form.formed tape-shape-array.product_from tape-shape-array.stride_of tape-shape-array.is_last tape-shape-array.array_bytes tape-array-elements-element.shape_at tape-array-elements-element.element_item tape-array-elements-element.shape_check tape-array-elements-element.element_check ser-leaf-leaf.exactly ser-leaf-leaf.bool_write ser-leaf-leaf.real_write ser-leaf-leaf.integer_by ser-leaf-leaf.pointer_write ser-leaf-leaf.integer_write ser-leaf-leaf.entry_by ser-leaf-leaf.entry_leaf ser-leaf-leaf.enum_write ser-leaf-leaf.padded ser-leaf-leaf.string_bytes ser-leaf-leaf.text_by ser-leaf-leaf.text_write ser-leaf-leaf.leaf_write_by ser-leaf-leaf.leaf_for ser-write.◌then_writes◌ ser-write.placed ser-write.taken_by ser-write.taken ser-write.end_record_by ser-write.leaf_end ser-write.leaf_write ser-write.checked_write ser-write.field_write ser-write.found_value ser-write.key_by ser-write.key_of ser-write.keys_from ser-write.map_by ser-write.map_write ser-write.elements_write ser-write.elements_by ser-write.dimension_write ser-write.element_type ser-write.entered_by ser-write.entered_at ser-write.array_write_by ser-write.array_write ser-write.value_by ser-write.item_write ser-write.write_walk ser-call.type_write ser-call.root_write_by ser-call.root_write ser-call.refused_before ser-call.book_write time-types-counts.time_of time-types-counts.count_width time-types-types.time_type_of type-book-check-given.is_root_name type-book-check-given.numbered_root type-book-check-given.found_root type-book-check-given.given_root type-book-check-given.check_given type-book-check-given.at_given ser-call.lacking_write ser-call.given_write touched.ranges_then touched.◌and◌ touched.record_by touched.end_at touched.field_touched touched.found_touched touched.key_touched touched.keys_touched touched.elements_touched touched.dimension_touched touched.array_touched touched.value_touched touched.item_touched touched.walk_touched touched.root_touched touched.leaves_of touched_given.given_leaves
written = record { second = refl; two_of_three = refl; inner = refl; elements = refl; integer_array = refl; text_array = refl; none = refl; whole = refl; by_name = refl; lacking = refl }
