-- Where leaves go, in worked examples. Assumes nothing.
use mathlib.Core.Path.{◌≡◌, refl}
use mathlib.Core.List.{List, [], ◌∷◌, ◌++◌}
use Prim.Native.Nat.{ℕ}
use Rattle.ser.specs.Write.{write_ctx}
use Rattle.enc_number.specs.Le as enc-number-le
use Rattle.type_book.specs.Book as type-book-book
use Rattle.type_id.specs.TypeId as type-id-typeid
use Rattle.type_names.specs.Text as type-names-text
use Rattle.type_names.specs.Names as type-names-names
use Rattle.type_category.specs.Category as type-category-category
use Rattle.type_provider.specs.Find as type-provider-find
use Rattle.resolvers.specs.Resolve as resolvers-resolve
use Rattle.resolve_field_types.specs.Fields as resolve-field-types-fields
use Rattle.ser_named_blocks.specs.Named as ser-named-blocks-named
use Rattle.tape.specs.Record as tape-record
use Rattle.tape.specs.Text as tape-text
use Rattle.ser_laws.specs.Touched as touched
use Rattle.ser_laws.specs.Touched.{leaves_of}
use Rattle.ser_laws.proofs.Books.{filled, made, bare, struct}

-- a record of a kind with a width, A and B
rec : ℕ → ℕ → ℕ → ℕ → List ℕ
rec k w a b = tape-record.record_bytes (record { kind = k; width = w; spare = 0; declared = 0; a = a; b = b })

-- a key that names the second field of a struct, with a value: the second byte alone
second : leaves_of (write_ctx (struct 0x41 0x42) 8 (rec 3 0 1 0 ++ rec 4 0 2 0 ++ rec 8 1 0 7 ++ rec 5 0 0 0) []) 0 2 ≡ record { from = 1; size = 1 } ∷ []
unfolding rec struct bare made filled enc-number-le.le_value enc-number-le.le_bytes type-book-book.same_name type-book-book.is_named type-id-typeid.id_of type-names-text.is_one_of type-names-text.starts_with type-names-text.contains type-names-names.is_pointer_name type-names-names.is_sub_range_name type-names-names.is_primitive_name type-category-category.is_pointer type-category-category.is_reference type-category-category.is_alias type-category-category.or_else type-category-category.is_union type-category-category.fields_category type-category-category.complex_category type-category-category.simple_category type-category-category.category_of type-provider-find.find_from type-provider-find.find resolvers-resolve.is_followed resolvers-resolve.follow resolve-field-types-fields.field_of resolve-field-types-fields.field_found resolve-field-types-fields.resolve_field ser-named-blocks-named.named_from tape-record.record_bytes tape-record.record_of tape-record.step_at tape-text.name_in tape-text.record_text touched.ranges_then touched.◌and◌ touched.record_by touched.end_at touched.field_touched touched.found_touched touched.key_touched touched.keys_touched touched.value_touched touched.item_touched touched.walk_touched touched.root_touched touched.leaves_of
second = refl

-- no key: no byte; a leaf by itself: all its bytes
none : leaves_of (write_ctx (struct 0x41 0x42) 8 (rec 3 0 0 0 ++ rec 5 0 0 0) []) 0 2 ≡ []
unfolding rec struct made filled enc-number-le.le_value enc-number-le.le_bytes type-book-book.same_name type-id-typeid.id_of type-names-text.is_one_of type-names-text.starts_with type-names-text.contains type-names-names.is_pointer_name type-names-names.is_sub_range_name type-names-names.is_primitive_name type-category-category.is_pointer type-category-category.is_reference type-category-category.is_alias type-category-category.or_else type-category-category.is_union type-category-category.fields_category type-category-category.complex_category type-category-category.simple_category type-category-category.category_of resolvers-resolve.is_followed resolvers-resolve.follow tape-record.record_bytes tape-record.record_of tape-record.step_at touched.record_by touched.end_at touched.keys_touched touched.value_touched touched.item_touched touched.walk_touched touched.root_touched touched.leaves_of
none = refl

whole : leaves_of (write_ctx (bare 19 4) 8 (rec 8 4 0 7) []) 0 4 ≡ record { from = 0; size = 4 } ∷ []
unfolding rec bare made filled enc-number-le.le_value enc-number-le.le_bytes type-book-book.same_name type-id-typeid.id_of type-names-text.is_one_of type-names-text.starts_with type-names-text.contains type-names-names.is_pointer_name type-names-names.is_sub_range_name type-category-category.is_pointer type-category-category.is_reference type-category-category.is_alias type-category-category.or_else type-category-category.simple_category type-category-category.category_of resolvers-resolve.is_followed resolvers-resolve.follow tape-record.record_bytes tape-record.record_of tape-record.step_at touched.record_by touched.value_touched touched.item_touched touched.walk_touched touched.root_touched touched.leaves_of
whole = refl
