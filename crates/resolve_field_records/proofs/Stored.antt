-- The records that `resolve_fields` stores, as lists. Assumes nothing.
use mathlib.Core.Path.{◌≡◌, refl, sym, ap, ◌∙◌}
use mathlib.Core.Bool.{Bool, true, false, cond, ◌&&◌}
use mathlib.Core.List.{List, [], ◌∷◌, ◌++◌}
use Prim.Native.Nat.{ℕ, zero, suc, ◌+◌, ◌-◌, ◌≤◌, ◌<◌}
use native.Mathlib.Nat.{zero-add, not-suc-le-zero}
use native.Mathlib.Omega.{arith}
use lib.Dec.{eqb, ltb}
use lib.ListN.{length, take, drop, set}
use lib.Seq.{sets, sets-eq}
use Rattle.std.proofs.Math.Numerals.{add-one}
use Rattle.enc_number.specs.Answer.{refusal_of}
use Rattle.type_book.specs.Book.{is_type, blocks, fields_of}
use Rattle.type_book_check.specs.declared.RootCheck.{RootCheck}
use Rattle.type_book_check.specs.declared.RootCheck.TheVariants as checked
use Rattle.type_book_check.specs.Check.{book_numbers, check_book, root_of, check_root}
use Rattle.type_book_check.specs.Check.{at_root}
use Rattle.resolvers.proofs.Calls.{root-room, root-book, root-type}
use Rattle.resolve_field_types.specs.declared.ResolvedField.{ResolvedField}
use Rattle.resolve_field_records.specs.declared.FieldRecord.{FieldRecord as Rec}
use Rattle.resolve_field_types.specs.declared.FieldAnswer.{FieldAnswer}
use Rattle.resolve_field_types.specs.declared.FieldAnswer.TheVariants as answer
use Rattle.resolve_field_types.specs.declared.FieldsAnswer.{FieldsAnswer}
use Rattle.resolve_field_types.specs.declared.FieldsAnswer.TheVariants as fields
use Rattle.resolve_field_types.specs.Calls.{fields_answer, root_fields}
use Rattle.resolve_field_records.specs.Stored.{no_record, resolved_record, record_at, resolved_records_at, Resolvable, AllResolvable, stored_count, filled_at, stored_at}
use Rattle.resolve_field_types.proofs.Fields.{field-number}
use Rattle.resolve_field_types.proofs.Records.{done-fit}

-- ---- one record

module _ (a : FieldAnswer) where
  pub record-field : (x : ResolvedField) → a ≡ answer.Field x
      → ◌≡◌ {A = Rec} (record { offset = x.offset; size = x.size; type_block = x.resolved; field_block = x.field }) (resolved_record a)
  record-field x h = rw h

  pub record-none : ((x : ResolvedField) → a ≡ answer.Field x → ⊥) → no_record ≡ resolved_record a
  record-none other = by a refl
    where
      by : (b : FieldAnswer) → a ≡ b → no_record ≡ resolved_record a
      by (answer.Field x) h = absurd (other x h)
      by (answer.NotFound c) h = rw h
      by answer.TooLong h = rw h

-- ---- the records of a root

module _ (buffer : List ℕ) (len width root : ℕ) where
  length-records : (i k : ℕ) → length (resolved_records_at buffer len width root i k) ≡ k
  unfolding resolved_records_at
  length-records i zero = refl
  length-records i (suc k) = ap suc (length-records (suc i) k)

  -- what the loop leaves is what the contract says
  pub sets-filled : (n : ℕ) (ys : List Rec) → n ≤ length ys → sets ys 0 (resolved_records_at buffer len width root 0 n) ≡ filled_at buffer len width root n ys
  unfolding filled_at
  sets-filled n ys h =
      let e : length (resolved_records_at buffer len width root 0 n) ≡ n = length-records 0 n in
      sets-eq (resolved_records_at buffer len width root 0 n) ys 0 (omega (arith, e)) ∙ ap (λ (k : ℕ). resolved_records_at buffer len width root 0 n ++ drop k ys) (zero-add (length (resolved_records_at buffer len width root 0 n)) ∙ e)

  -- the loop's turns: the records that are left, stored from field i on, give the whole
  pub stored_turn : (n i : ℕ) (zs whole : List Rec) → i < n → sets zs i (resolved_records_at buffer len width root i (n - i)) ≡ whole → (r : Rec) → r ≡ record_at buffer len width root i
      → sets (set zs i r) (i + 1) (resolved_records_at buffer len width root (i + 1) (n - (i + 1))) ≡ whole
  unfolding resolved_records_at
  stored_turn n i zs whole l e r h =
      let q : n - i ≡ suc (n - suc i) = omega arith in
      rw (h, add-one i) (rw q at e)

  pub stored_end : (n i : ℕ) (zs ys : List Rec) → i ≤ n → n ≤ i → n ≤ length ys → sets zs i (resolved_records_at buffer len width root i (n - i)) ≡ sets ys 0 (resolved_records_at buffer len width root 0 n)
      → zs ≡ filled_at buffer len width root n ys
  unfolding resolved_records_at
  stored_end n i zs ys a b l e =
      let q : n - i ≡ 0 = omega arith in
      rw q at e ∙ sets-filled n ys l

  -- a refusal stores no record
  pub filled_stored : (a : FieldsAnswer) (ys : List Rec) → filled_at buffer len width root (stored_count a) ys ≡ stored_at buffer len width root a ys
  unfolding filled_at stored_at resolved_records_at
  filled_stored (fields.Done n) ys = refl
  filled_stored (fields.NotFound b) ys = refl
  filled_stored (fields.Refused n) ys = refl

  -- a root that passed 1 to 5 is the number that was given
  root_is : (t : ℕ) → check_root buffer len root ≡ checked.Root t → t ≡ root
  unfolding check_root root_of
  root_is t h = by (eqb (refusal_of (book_numbers (check_book buffer len))) 0) (ltb root (blocks (take len buffer)) && is_type (take len buffer) root) (refusal_of (book_numbers (check_book buffer len))) h
    where
      by : (x y : Bool) (n : ℕ) → cond x (cond y (checked.Root root) (checked.Refused 5)) (checked.Refused n) ≡ checked.Root t → t ≡ root
      by true true n g = cc
      by true false n g = cc
      by false y n g = cc

  -- what a plan counts has room, and can be looked up
  counted : (room : ℕ) (k : RootCheck) → check_root buffer len root ≡ k → (a : FieldsAnswer) → at_root fields.Refused (λ t. fields_answer (take len buffer) width t room) k ≡ a
      → (stored_count a ≤ room) × AllResolvable buffer len width root (stored_count a)
  unfolding at_root
  counted room k e (fields.NotFound b) q = (omega arith, λ i small. absurd (not-suc-le-zero small))
  counted room k e (fields.Refused n) q = (omega arith, λ i small. absurd (not-suc-le-zero small))
  counted room (checked.Refused n) e (fields.Done m) q = absurd (let z : ◌≡◌ {A = ℕ} 0 1 = cc in omega arith)
  counted room (checked.Root t) e (fields.Done m) q =
      let f = done-fit (take len buffer) width t room m q in (
        omega (arith, f.room-is, f.count),
        λ i small. record {
          inside = root-room buffer len root (checked.Root t) (sym e) t refl;
          valid = root-book buffer len root (checked.Root t) (sym e) t refl;
          number = omega (arith, root_is t e, (field-number (take len buffer) t m i (root-book buffer len root (checked.Root t) (sym e) t refl) (root-type buffer len root (checked.Root t) (sym e) t refl) (omega (arith, f.count)) small).fits);
        },
      )

  pub plan-ready : (room : ℕ) → (stored_count (root_fields buffer len width root room) ≤ room) × AllResolvable buffer len width root (stored_count (root_fields buffer len width root room))
  unfolding root_fields
  plan-ready room = counted room (check_root buffer len root) refl (at_root fields.Refused (λ t. fields_answer (take len buffer) width t room) (check_root buffer len root)) refl
