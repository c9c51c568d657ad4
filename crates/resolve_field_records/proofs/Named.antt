-- The records that `resolve_fields_named` stores: a root that was checked, what each function owes, and that a root by its number is the instance. Assumes
-- nothing.
use mathlib.Core.Path.{◌≡◌, refl, sym, ap, ◌∙◌}
use mathlib.Core.Bool.{Bool, true, false, cond, ◌&&◌}
use mathlib.Core.List.{List}
use Prim.Native.Nat.{ℕ, ◌≤◌}
use native.Mathlib.Nat.{not-suc-le-zero}
use native.Mathlib.Omega.{arith}
use lib.Dec.{eqb, ltb}
use lib.ListN.{length, take}
use lib.Seq.{length-take-le}
use Rattle.enc_number.specs.Answer.{refusal_of}
use Rattle.type_book.specs.Book.{is_type, blocks}
use Rattle.type_book_check.specs.declared.RootCheck.TheVariants as checked
use Rattle.type_book_check.specs.declared.GivenRoot.{GivenRoot}
use Rattle.type_book_check.specs.declared.GivenRoot.TheVariants.{Block, Lacking, Refused}
use Rattle.type_book_check.specs.Check.{ValidBook, book_numbers, check_book, root_of}
use Rattle.type_book_check.specs.Given.{Given, number, name, lacking_root, numbered_root, given_root, check_given, at_given}
use Rattle.type_book_check.proofs.Givens.{given-at-refused, given-at-lacking, given-at-block, named-room, named-book, named-type}
use Rattle.resolve_field_types.specs.declared.FieldsAnswer.{FieldsAnswer}
use Rattle.resolve_field_types.specs.declared.FieldsAnswer.TheVariants as fields
use Rattle.resolve_field_types.specs.Calls.{fields_answer, given_fields}
use Rattle.resolve_field_types.proofs.Numbers.{fields-says}
use Rattle.resolve_field_types.proofs.Fields.{field-number}
use Rattle.resolve_field_types.proofs.Records.{done-fit, fields-by-number}
use Rattle.resolve_field_records.specs.declared.FieldRecord.{FieldRecord as Rec}
use Rattle.resolve_field_records.specs.Stored.{AllResolvable, stored_count, filled_at, stored_at, StoredIs}
use Rattle.resolve_field_records.specs.Named.{root_block, Checked, checked_fields, GivenStoredIs}
use Rattle.resolve_field_records.proofs.Stored.{filled_stored}

-- ---- a root that was checked

module _ (buffer : List ℕ) (len : ℕ) (root : GivenRoot) where
  module _ (c : Checked buffer len root) (t : ℕ) (h : root ≡ Block t) where
    pub checked-cut : len ≡ length (take len buffer)
    checked-cut = sym (length-take-le len buffer (c.inside t h))

    pub checked-book : ValidBook (take len buffer)
    checked-book = c.valid t h

    pub checked-type : is_type (take len buffer) t ≡ true
    checked-type = c.type t h

  module _ (width room : ℕ) where
    pub checked_refused : (n : ℕ) → root ≡ Refused n → fields.Refused n ≡ checked_fields buffer len width root room
    unfolding checked_fields
    checked_refused n h = given-at-refused fields.Refused _ _ root refl n h

    pub checked-lacking : root ≡ Lacking → fields.NotFound lacking_root ≡ checked_fields buffer len width root room
    unfolding checked_fields
    checked-lacking h = given-at-lacking fields.Refused _ _ root refl h

    pub checked-block : (t : ℕ) → root ≡ Block t → (r : FieldsAnswer) → r ≡ fields_answer (take len buffer) width t room → r ≡ checked_fields buffer len width root room
    unfolding checked_fields
    checked-block t h r q = q ∙ given-at-block fields.Refused _ _ root refl t h

-- ---- a root by its name

module _ (buffer : List ℕ) (len : ℕ) (bytes : List ℕ) (k : GivenRoot) (e : k ≡ check_given buffer len (name bytes)) where
  pub named-checked : Checked buffer len k
  named-checked =
      record {
        inside = λ t h. named-room buffer len bytes k e t h;
        valid = λ t h. named-book buffer len bytes k e t h;
        type = λ t h. named-type buffer len bytes k e t h;
      }

-- what is counted has room, and can be looked up
pub checked-ready : (buffer : List ℕ) (len width : ℕ) (k : GivenRoot) → Checked buffer len k → (room : ℕ)
    → (stored_count (checked_fields buffer len width k room) ≤ room) × AllResolvable buffer len width (root_block k) (stored_count (checked_fields buffer len width k room))
unfolding checked_fields at_given
checked-ready buffer len width (Block t) c room = by (fields_answer (take len buffer) width t room) refl
  where
    by : (a : FieldsAnswer) → fields_answer (take len buffer) width t room ≡ a → (stored_count a ≤ room) × AllResolvable buffer len width t (stored_count a)
    by (fields.NotFound b) q = (omega arith, λ i small. absurd (not-suc-le-zero small))
    by (fields.Refused n) q = (omega arith, λ i small. absurd (not-suc-le-zero small))
    by (fields.Done m) q =
        let f = done-fit (take len buffer) width t room m q in (
          omega (arith, f.room-is, f.count),
          λ i small. record {
            inside = c.inside t refl;
            valid = c.valid t refl;
            number = (field-number (take len buffer) t m i (c.valid t refl) (c.type t refl) (omega (arith, f.count)) small).fits;
          },
        )
checked-ready buffer len width Lacking c room = (omega arith, λ i small. absurd (not-suc-le-zero small))
checked-ready buffer len width (Refused n) c room = (omega arith, λ i small. absurd (not-suc-le-zero small))

-- what the contract says, of what the callees say
pub given_stored : (buffer : List ℕ) (len width : ℕ) (root : Given) (k : GivenRoot) → k ≡ check_given buffer len root → (ys : List Rec) (r : FieldsAnswer)
    → r ≡ checked_fields buffer len width k (length ys) → (n : ℕ) → n ≡ stored_count r → (t : ℕ) → t ≡ root_block k → (zs : List Rec)
    → zs ≡ filled_at buffer len width t n ys → GivenStoredIs buffer len width root ys r zs
unfolding checked_fields given_fields
given_stored buffer len width root k e ys r o n en t et zs q =
    let z : r ≡ given_fields buffer len width root (length ys) = rw e at o in
    let y : t ≡ root_block (check_given buffer len root) = rw e at et in
    record {
      is = fields-says _ _ z;
      records = q ∙ rw (y, en, z) (filled_stored buffer len width (root_block (check_given buffer len root)) (given_fields buffer len width root (length ys)) ys);
    }

-- ---- a root by its number

-- a block that a number stands for is that number
number-block : (buffer : List ℕ) (len n t : ℕ) → check_given buffer len (number n) ≡ Block t → t ≡ n
unfolding check_given given_root numbered_root root_of
number-block buffer len n t h =
    by (eqb (refusal_of (book_numbers (check_book buffer len))) 0) (ltb n (blocks (take len buffer)) && is_type (take len buffer) n) (refusal_of (book_numbers (check_book buffer len))) h
  where
    by : (x y : Bool) (m : ℕ) → cond x (numbered_root (cond y (checked.Root n) (checked.Refused 5))) (Refused m) ≡ Block t → t ≡ n
    by true true m g = cc
    by true false m g = cc
    by false y m g = cc

-- the call by a number is the instance: what it promises is what is promised of a root that is given by that number
pub stored_by-number : (buffer : List ℕ) (len width n : ℕ) (ys : List Rec) (r : FieldsAnswer) (zs : List Rec)
    → GivenStoredIs buffer len width (number n) ys r zs → StoredIs buffer len width n ys r zs
unfolding given_fields at_given stored_at
stored_by-number buffer len width n ys r zs q =
    record {
      is = q.is ∙ fields-says _ _ (fields-by-number buffer len width n (length ys));
      records = q.records ∙ by (check_given buffer len (number n)) refl ∙ ap (λ (a : FieldsAnswer). stored_at buffer len width n a ys) (fields-by-number buffer len width n (length ys));
    }
  where
    at : GivenRoot → FieldsAnswer
    at k = at_given fields.Refused (fields.NotFound lacking_root) (λ t. fields_answer (take len buffer) width t (length ys)) k

    by : (k : GivenRoot) → check_given buffer len (number n) ≡ k → stored_at buffer len width (root_block k) (at k) ys ≡ stored_at buffer len width n (at k) ys
    by (Block t) e = let z : t ≡ n = number-block buffer len n t e in rw z
    by Lacking e = refl
    by (Refused m) e = refl
