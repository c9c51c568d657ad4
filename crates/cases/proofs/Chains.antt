-- The rows over books of more than 30 blocks: that a book is valid is computed in parts. Assumes nothing.
use mathlib.Core.Path.{◌≡◌, refl}
use mathlib.Core.Bool.{Bool, true, false, not, ◌&&◌, ◌||◌}
use mathlib.Core.List.{List, [], ◌∷◌}
use Prim.Native.Nat.{ℕ, ◌+◌, ◌<◌}
use native.Mathlib.Omega.{arith}
use borrow.Author.Tests.{ne_eqb}
use lib.ListN.{length}
use lib.Seq.{take-length}
use Rattle.enc_number.specs.Le as enc-number-le
use Rattle.type_book.specs.Book as type-book-book
use Rattle.type_block_form.specs.Form as type-block-form-form
use Rattle.type_doubles.specs.Doubles as type-doubles-doubles
use Rattle.type_book_check.specs.Check as type-book-check-check
use Rattle.type_id.specs.TypeId as type-id-typeid
use Rattle.type_names.specs.Text as type-names-text
use Rattle.type_names.specs.Names as type-names-names
use Rattle.type_category.specs.Category as type-category-category
use Rattle.type_category.specs.Number as type-category-number
use Rattle.type_provider.specs.Find as type-provider-find
use Rattle.resolvers.specs.Resolve as resolvers-resolve
use Rattle.resolvers.specs.Calls as resolvers-calls
use Rattle.type_book_check.specs.Check.{size_right, sums, all_in_place, root_of}
use Rattle.type_book_check.specs.declared.RootCheck.TheVariants as root
use Rattle.type_doubles.specs.Doubles.{distinct, all_from, is_other, is_first}
use Rattle.type_doubles.proofs.All.{all_of, each_of}
use Rattle.type_book.specs.Book.{blocks, name_of, is_type, same_name, is_named}
use Rattle.type_book.proofs.Names.{same_eq}
use Rattle.resolvers.specs.Resolve.{resolve_alias}
use Rattle.resolvers.specs.Calls.{resolution_numbers, resolution}
use Rattle.resolvers.specs.declared.Resolved.{Resolved}
use Rattle.resolvers.specs.declared.Resolved.TheVariants.{Base, NotFound, TooLong}
use Rattle.cases.specs.Blocks.{block}
use Rattle.cases.specs.Rows.{link, chain, aliases, alias_row}

-- a book that passes 1 to 4 part by part, and whose block 0 is a type: the answer is what the chain comes to
by_parts : (b : List ℕ) (r : Resolved) → size_right (length b) (length b) ≡ true → sums b ≡ true → all_in_place b ≡ true → distinct b ≡ true
    → root_of b 0 ≡ root.Root 0 → resolve_alias b 8 0 ≡ r → alias_row b ≡ resolution_numbers (resolution r)
unfolding type-book-check-check.check_blocks type-book-check-check.check_book type-book-check-check.book_numbers type-book-check-check.check_root type-book-check-check.at_root resolvers-calls.root_resolution
by_parts b r size sum place other base goes = rw (take-length b, size, sum, place, other, base, goes)

-- block m has the m-th name of a chain
abbrev linked : List ℕ → ℕ → Bool
linked b m = same_name (name_of b m) (link m)

apart : (m n : ℕ) → m < n → same_name (link m) (link n) ≡ false
unfolding same_name
apart m n l = rw (ne_eqb (0x41 + m) (0x41 + n) (λ e. omega arith))

never : (t : Bool) → not (t && false) ≡ true
never true = refl
never false = refl

-- a book whose blocks have these names has no name twice: quicker than to compute each pair
module _ (b : List ℕ) (h : all_from (linked b) 0 (blocks b) ≡ true) where
  name-is : (m : ℕ) → m < blocks b → name_of b m ≡ link m
  name-is m l = same_eq (name_of b m) (link m) (each_of (linked b) (blocks b) h m l)

  other : (n m : ℕ) → n < blocks b → m < n → is_other b (name_of b n) m ≡ true
  unfolding is_other is_named
  other n m l g = rw (name-is n l, name-is m (omega arith), apart m n g) (never (is_type b m))

  links_distinct : distinct b ≡ true
  unfolding is_first
  links_distinct = all_of (is_first b) (blocks b) (λ n l. by n l (is_type b n))
    where
      by : (n : ℕ) → n < blocks b → (t : Bool) → not t || all_from (is_other b (name_of b n)) 0 n ≡ true
      by n l false = refl
      by n l true = all_of (is_other b (name_of b n)) n (λ m g. other n m l g)

hops_31_size : size_right (length (chain 31)) (length (chain 31)) ≡ true
unfolding aliases block type-block-form-form.sum_of enc-number-le.le_value enc-number-le.le_bytes type-book-check-check.size_right
hops_31_size = refl

hops_31_sums : sums (chain 31) ≡ true
unfolding aliases block type-block-form-form.sum_of enc-number-le.le_value enc-number-le.le_bytes type-block-form-form.sum_right type-book-check-check.sum_at type-doubles-doubles.all_from
hops_31_sums = refl

hops_31_placed : all_in_place (chain 31) ≡ true
unfolding aliases block type-block-form-form.sum_of enc-number-le.le_value enc-number-le.le_bytes type-book-check-check.place_of type-book-check-check.places_onward type-book-check-check.placed_from type-block-form-form.sum_right type-block-form-form.every type-block-form-form.unused_zero type-block-form-form.name_form type-block-form-form.names_form type-block-form-form.flags_form type-block-form-form.type_form type-block-form-form.field_form type-block-form-form.entry_form
hops_31_placed = refl

hops_31_names : all_from (linked (chain 31)) 0 (blocks (chain 31)) ≡ true
unfolding aliases block type-block-form-form.sum_of enc-number-le.le_value enc-number-le.le_bytes type-doubles-doubles.all_from type-book-book.same_name type-book-book.is_named
hops_31_names = refl

hops_31_root : root_of (chain 31) 0 ≡ root.Root 0
unfolding aliases block type-block-form-form.sum_of enc-number-le.le_value enc-number-le.le_bytes type-book-check-check.root_of
hops_31_root = refl

hops_31_goes : resolve_alias (chain 31) 8 0 ≡ Base 31
unfolding aliases block type-block-form-form.sum_of enc-number-le.le_value enc-number-le.le_bytes type-id-typeid.id_of type-names-text.is_one_of type-names-text.starts_with type-names-text.contains type-names-names.is_pointer_name type-names-names.is_sub_range_name type-names-names.is_primitive_name type-category-category.is_pointer type-category-category.is_reference type-category-category.is_alias type-category-category.or_else type-category-category.is_union type-category-category.methods_category type-category-category.fields_category type-category-category.is_empty_struct type-category-category.bare_category type-category-category.size_category type-category-category.complex_category type-category-category.simple_category type-category-category.category_of type-category-number.category_numbers type-category-number.category_at type-provider-find.find_from type-provider-find.find resolvers-resolve.resolved_numbers resolvers-resolve.is_followed resolvers-resolve.chain_onward resolvers-resolve.follow resolvers-resolve.look_up type-book-book.same_name type-book-book.is_named
hops_31_goes = refl

pub hops_31 : ◌≡◌ {A = List ℕ} (alias_row (chain 31)) (0 ∷ 31 ∷ [])
unfolding resolvers-calls.resolution_numbers resolvers-calls.resolution resolvers-resolve.resolved_numbers
hops_31 = by_parts (chain 31) (Base 31) hops_31_size hops_31_sums hops_31_placed (links_distinct (chain 31) hops_31_names) hops_31_root hops_31_goes

hops_32_size : size_right (length (chain 32)) (length (chain 32)) ≡ true
unfolding aliases block type-block-form-form.sum_of enc-number-le.le_value enc-number-le.le_bytes type-book-check-check.size_right
hops_32_size = refl

hops_32_sums : sums (chain 32) ≡ true
unfolding aliases block type-block-form-form.sum_of enc-number-le.le_value enc-number-le.le_bytes type-block-form-form.sum_right type-book-check-check.sum_at type-doubles-doubles.all_from
hops_32_sums = refl

hops_32_placed : all_in_place (chain 32) ≡ true
unfolding aliases block type-block-form-form.sum_of enc-number-le.le_value enc-number-le.le_bytes type-book-check-check.place_of type-book-check-check.places_onward type-book-check-check.placed_from type-block-form-form.sum_right type-block-form-form.every type-block-form-form.unused_zero type-block-form-form.name_form type-block-form-form.names_form type-block-form-form.flags_form type-block-form-form.type_form type-block-form-form.field_form type-block-form-form.entry_form
hops_32_placed = refl

hops_32_names : all_from (linked (chain 32)) 0 (blocks (chain 32)) ≡ true
unfolding aliases block type-block-form-form.sum_of enc-number-le.le_value enc-number-le.le_bytes type-doubles-doubles.all_from type-book-book.same_name type-book-book.is_named
hops_32_names = refl

hops_32_root : root_of (chain 32) 0 ≡ root.Root 0
unfolding aliases block type-block-form-form.sum_of enc-number-le.le_value enc-number-le.le_bytes type-book-check-check.root_of
hops_32_root = refl

hops_32_goes : resolve_alias (chain 32) 8 0 ≡ TooLong
unfolding aliases block type-block-form-form.sum_of enc-number-le.le_value enc-number-le.le_bytes type-id-typeid.id_of type-names-text.is_one_of type-names-text.starts_with type-names-text.contains type-names-names.is_pointer_name type-names-names.is_sub_range_name type-names-names.is_primitive_name type-category-category.is_pointer type-category-category.is_reference type-category-category.is_alias type-category-category.or_else type-category-category.is_union type-category-category.methods_category type-category-category.fields_category type-category-category.is_empty_struct type-category-category.bare_category type-category-category.size_category type-category-category.complex_category type-category-category.simple_category type-category-category.category_of type-category-number.category_numbers type-category-number.category_at type-provider-find.find_from type-provider-find.find resolvers-resolve.resolved_numbers resolvers-resolve.is_followed resolvers-resolve.chain_onward resolvers-resolve.follow resolvers-resolve.look_up type-book-book.same_name type-book-book.is_named
hops_32_goes = refl

pub hops_32 : ◌≡◌ {A = List ℕ} (alias_row (chain 32)) (8 ∷ [])
unfolding resolvers-calls.resolution_numbers resolvers-calls.resolution resolvers-resolve.resolved_numbers
hops_32 = by_parts (chain 32) (TooLong) hops_32_size hops_32_sums hops_32_placed (links_distinct (chain 32) hops_32_names) hops_32_root hops_32_goes

target_missing_size : size_right (length (aliases 0 32)) (length (aliases 0 32)) ≡ true
unfolding aliases block type-block-form-form.sum_of enc-number-le.le_value enc-number-le.le_bytes type-book-check-check.size_right
target_missing_size = refl

target_missing_sums : sums (aliases 0 32) ≡ true
unfolding aliases block type-block-form-form.sum_of enc-number-le.le_value enc-number-le.le_bytes type-block-form-form.sum_right type-book-check-check.sum_at type-doubles-doubles.all_from
target_missing_sums = refl

target_missing_placed : all_in_place (aliases 0 32) ≡ true
unfolding aliases block type-block-form-form.sum_of enc-number-le.le_value enc-number-le.le_bytes type-book-check-check.place_of type-book-check-check.places_onward type-book-check-check.placed_from type-block-form-form.sum_right type-block-form-form.every type-block-form-form.unused_zero type-block-form-form.name_form type-block-form-form.names_form type-block-form-form.flags_form type-block-form-form.type_form type-block-form-form.field_form type-block-form-form.entry_form
target_missing_placed = refl

target_missing_names : all_from (linked (aliases 0 32)) 0 (blocks (aliases 0 32)) ≡ true
unfolding aliases block type-block-form-form.sum_of enc-number-le.le_value enc-number-le.le_bytes type-doubles-doubles.all_from type-book-book.same_name type-book-book.is_named
target_missing_names = refl

target_missing_root : root_of (aliases 0 32) 0 ≡ root.Root 0
unfolding aliases block type-block-form-form.sum_of enc-number-le.le_value enc-number-le.le_bytes type-book-check-check.root_of
target_missing_root = refl

target_missing_goes : resolve_alias (aliases 0 32) 8 0 ≡ NotFound 31
unfolding aliases block type-block-form-form.sum_of enc-number-le.le_value enc-number-le.le_bytes type-id-typeid.id_of type-names-text.is_one_of type-names-text.starts_with type-names-text.contains type-names-names.is_pointer_name type-names-names.is_sub_range_name type-names-names.is_primitive_name type-category-category.is_pointer type-category-category.is_reference type-category-category.is_alias type-category-category.or_else type-category-category.is_union type-category-category.methods_category type-category-category.fields_category type-category-category.is_empty_struct type-category-category.bare_category type-category-category.size_category type-category-category.complex_category type-category-category.simple_category type-category-category.category_of type-category-number.category_numbers type-category-number.category_at type-provider-find.find_from type-provider-find.find resolvers-resolve.resolved_numbers resolvers-resolve.is_followed resolvers-resolve.chain_onward resolvers-resolve.follow resolvers-resolve.look_up type-book-book.same_name type-book-book.is_named
target_missing_goes = refl

pub target_missing : ◌≡◌ {A = List ℕ} (alias_row (aliases 0 32)) (7 ∷ 31 ∷ [])
unfolding resolvers-calls.resolution_numbers resolvers-calls.resolution resolvers-resolve.resolved_numbers
target_missing = by_parts (aliases 0 32) (NotFound 31) target_missing_size target_missing_sums target_missing_placed (links_distinct (aliases 0 32) target_missing_names) target_missing_root target_missing_goes
