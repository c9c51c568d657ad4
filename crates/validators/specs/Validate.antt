-- The tests of validators.rs, by document 01's refusal numbers. Assumes nothing.
use Rattle.std.specs.Prelude.{Bool, cond, ◌&&◌, List, ℕ, ◌+◌, ◌/◌, ◌%◌, ◌^◌, length, eqb}
use Rattle.enc_number.specs.Refusals as refusal
use Rattle.type_id.specs.declared.AdsTypeId.{AdsTypeId}
use Rattle.type_id.specs.declared.AdsTypeId.TheVariants as id
use Rattle.type_id.specs.TypeId.{id_of, number_of}
use Rattle.type_book.specs.Book.{type_id_of}
use Rattle.type_category.specs.declared.type_category.AdsTypeCategory.{AdsTypeCategory}
use Rattle.type_category.specs.declared.type_category.AdsTypeCategory.TheVariants.{Pointer, Reference, Interface}
use Rattle.validators.specs.declared.Validity.{Validity}
use Rattle.validators.specs.declared.Validity.TheVariants.{Valid, TypeMismatch, SizeMismatch}
use Rattle.type_category.specs.Category.{category_of}
use Rattle.type_category.specs.Number.{category_number}

-- document 01's number of an answer; 0 where nothing is refused
abbrev pub validity_refusal : Validity → ℕ
validity_refusal Valid = 0
validity_refusal TypeMismatch = refusal.wrong_type
validity_refusal SizeMismatch = refusal.wrong_size

-- 1 for a type id that document 01 does not name, 0 for a named one
abbrev pub unknown_of : AdsTypeId → ℕ
unknown_of id.Void = 0
unknown_of id.Int16 = 0
unknown_of id.Int32 = 0
unknown_of id.Real32 = 0
unknown_of id.Real64 = 0
unknown_of id.Int8 = 0
unknown_of id.UInt8 = 0
unknown_of id.UInt16 = 0
unknown_of id.UInt32 = 0
unknown_of id.Int64 = 0
unknown_of id.UInt64 = 0
unknown_of id.String = 0
unknown_of id.WString = 0
unknown_of id.Real80 = 0
unknown_of id.Bit = 0
unknown_of id.MaxTypes = 0
unknown_of id.BigType = 0
unknown_of (id.Unknown k) = 1

-- two type ids are the same: of one number, and both named or both unknown
unfoldable pub same_id : AdsTypeId → AdsTypeId → Bool
same_id a b = eqb (number_of a) (number_of b) && eqb (unknown_of a) (unknown_of b)

-- a set of categories is a number whose bit i stands for the category of number i
abbrev pub is_in : AdsTypeCategory → ℕ → Bool
is_in c set = eqb (set / 2 ^ category_number c % 2) 1

-- pointers, references and interfaces: they hold an integer of a pointer's width
abbrev pub indirect : ℕ
indirect = 2 ^ category_number Pointer + 2 ^ category_number Reference + 2 ^ category_number Interface

-- 17 unless block n has the expected type id
unfoldable pub type_id_refusal : List ℕ → ℕ → AdsTypeId → ℕ
type_id_refusal book n expected = cond (same_id (id_of (type_id_of book n)) expected) 0 refusal.wrong_type

-- of a pointer, reference or interface 10 unless an integer of `size` bytes is as wide as a pointer; else as by the type id
unfoldable pub integer_refusal : List ℕ → ℕ → AdsTypeId → ℕ → ℕ → ℕ
integer_refusal book n expected width size =
    cond (is_in (category_of book width n) indirect) (cond (eqb width size) 0 refusal.wrong_size) (type_id_refusal book n expected)

-- 17 unless the category of block n is in the expected set
unfoldable pub category_refusal : List ℕ → ℕ → ℕ → ℕ → ℕ
category_refusal book n expected width = cond (is_in (category_of book width n) expected) 0 refusal.wrong_type

-- 10 unless there are exactly as many bytes as expected
unfoldable pub size_refusal : List ℕ → ℕ → ℕ
size_refusal bytes expected = cond (eqb (length bytes) expected) 0 refusal.wrong_size
