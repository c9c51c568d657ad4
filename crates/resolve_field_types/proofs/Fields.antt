-- The types of fields: one field, and the first refusal of several. Assumes nothing.
use Rattle.std.specs.Prelude.{Option, Some, None}
use mathlib.Core.Path.{◌≡◌, refl, sym, ap, ◌∙◌}
use mathlib.Core.Bool.{true}
use mathlib.Core.List.{List}
use Prim.Native.Nat.{ℕ, suc, ◌+◌, ◌-◌, ◌≤◌, ◌<◌}
use native.Mathlib.Omega.{arith}
use mir.Syntax.{w32}
use mir.Val.{Fits}
use Rattle.type_book.specs.Book.{is_type, offset_of, size_of, fields_of, type_name_of}
use Rattle.type_provider.specs.Find.{find}
use Rattle.type_book_check.specs.Check.{ValidBook}
use Rattle.type_book_check.proofs.Valid.{valid-size, valid-type}
use Rattle.resolvers.specs.declared.Resolved.{Resolved}
use Rattle.resolvers.specs.declared.Resolved.TheVariants.{Base, NotFound, TooLong}
use Rattle.resolve_field_types.specs.declared.ResolvedField.{ResolvedField}
use Rattle.resolve_field_types.specs.declared.FieldAnswer.{FieldAnswer}
use Rattle.resolve_field_types.specs.declared.FieldAnswer.TheVariants as answer
use Rattle.resolve_field_types.specs.declared.FieldsCheck.{FieldsCheck}
use Rattle.resolve_field_types.specs.declared.FieldsCheck.TheVariants as check
use Rattle.resolvers.specs.Resolve.{resolve_alias, ResolvedIs}
use Rattle.resolvers.proofs.Numbers.{resolved-is}
use Rattle.resolve_field_types.specs.Fields.{field_of, field_found, resolve_field, field_then, fields_from, fields_check, FieldResolved}
use Rattle.resolve_field_types.proofs.Numbers.{field_is, field-says}

-- ---- one field

module _ (book : List ℕ) (width f : ℕ) where
  pub field_at : (n : ℕ) → find book (type_name_of book f) ≡ Some n → resolve_field book width f ≡ field_of book f n (resolve_alias book width n)
  unfolding resolve_field field_found
  field_at n e = rw e

  pub field-nothing : find book (type_name_of book f) ≡ None → resolve_field book width f ≡ answer.NotFound f
  unfolding resolve_field field_found
  field-nothing e = rw e

  module _ (x : Option ℕ) (ex : x ≡ find book (type_name_of book f)) where
    pub resolved-nothing : x ≡ None → FieldResolved book width f (answer.NotFound f)
    resolved-nothing h =
        record {
          is = field-says _ _ (sym (field-nothing (sym ex ∙ h)));
          typed = λ y e. absurd (let z : ◌≡◌ {A = ℕ} 0 1 = cc in omega arith);
        }

    module _ (n : ℕ) (h : x ≡ Some n) (r : Resolved) (q : ResolvedIs book (resolve_alias book width n) r) where
      found : resolve_field book width f ≡ field_of book f n r
      found = field_at n (sym ex ∙ h) ∙ ap (field_of book f n) (sym (resolved-is _ _ q.is))

      pub resolved-lacks : (c : ℕ) → r ≡ NotFound c → FieldResolved book width f (answer.NotFound c)
      unfolding field_of
      resolved-lacks c e =
          record {
            is = field-says _ _ (sym (found ∙ rw e));
            typed = λ y g. absurd (let z : ◌≡◌ {A = ℕ} 0 1 = cc in omega arith);
          }

      pub resolved-endless : r ≡ TooLong → FieldResolved book width f answer.TooLong
      unfolding field_of
      resolved-endless e =
          record {
            is = field-says _ _ (sym (found ∙ rw e));
            typed = λ y g. absurd (let z : ◌≡◌ {A = ℕ} 0 1 = cc in omega arith);
          }

      pub resolved-base : (u o s : ℕ) → r ≡ Base u → o ≡ offset_of book f → s ≡ size_of book f
          → FieldResolved book width f (answer.Field (record { offset = o; size = s; named = n; resolved = u; field = f }))
      unfolding field_of
      resolved-base u o s e eo es =
          record {
            is = field-says _ _ (sym (found ∙ rw (e, ← eo, ← es)));
            typed = λ y g.
                let a : ◌≡◌ {A = ResolvedField} (record { offset = o; size = s; named = n; resolved = u; field = f }) y = cc in
                let b : u ≡ y.resolved = ap (λ (z : ResolvedField). z.resolved) a in
                rw (← b) (q.typed u e);
          }

-- ---- several fields

module _ (book : List ℕ) (width f k : ℕ) where
  pub fields-more : (x : ResolvedField) → resolve_field book width f ≡ answer.Field x → fields_from book width f (suc k) ≡ fields_from book width (f + 1) k
  unfolding fields_from field_then
  fields-more x e = rw e

  pub fields-lacks : (c : ℕ) → resolve_field book width f ≡ answer.NotFound c → fields_from book width f (suc k) ≡ check.NotFound c
  unfolding fields_from field_then
  fields-lacks c e = rw e

  pub fields-endless : resolve_field book width f ≡ answer.TooLong → fields_from book width f (suc k) ≡ check.TooLong
  unfolding fields_from field_then
  fields-endless e = rw e

pub fields-none : (book : List ℕ) (width f : ℕ) → fields_from book width f 0 ≡ check.Fine
unfolding fields_from
fields-none book width f = refl

-- the fields of a type block
pub fields-check : (book : List ℕ) (width t n : ℕ) → n ≡ fields_of book t → (r : FieldsCheck) → r ≡ fields_from book width (t + 1) n → r ≡ fields_check book width t
unfolding fields_check
fields-check book width t n e r h = h ∙ ap (fields_from book width (t + 1)) e

-- the loop of `check_first`
module _ (book : List ℕ) (width t n : ℕ) (whole : FieldsCheck) where
  pub first-start : whole ≡ fields_from book width (t + 1) n → whole ≡ fields_from book width (t + 1 + 0) (n - 0)
  first-start e = let a : t + 1 + 0 ≡ t + 1 = omega arith in let b : n - 0 ≡ n = omega arith in rw (a, b) e

  module _ (i : ℕ) (inv : whole ≡ fields_from book width (t + 1 + i) (n - i)) where
    pub first-end : n ≤ i → check.Fine ≡ whole
    first-end h = let k : n - i ≡ 0 = omega arith in sym (inv ∙ ap (fields_from book width (t + 1 + i)) k ∙ fields-none book width (t + 1 + i))

    module _ (l : i < n) (a : FieldAnswer) (q : FieldResolved book width (t + 1 + i) a) where
      turn : whole ≡ fields_from book width (t + 1 + i) (suc (n - (i + 1)))
      turn = let k : n - i ≡ suc (n - (i + 1)) = omega arith in inv ∙ ap (fields_from book width (t + 1 + i)) k

      pub first-lacks : (c : ℕ) → a ≡ answer.NotFound c → check.NotFound c ≡ whole
      first-lacks c h = sym (turn ∙ fields-lacks book width (t + 1 + i) (n - (i + 1)) c (sym (field_is _ _ q.is) ∙ h))

      pub first-endless : a ≡ answer.TooLong → check.TooLong ≡ whole
      first-endless h = sym (turn ∙ fields-endless book width (t + 1 + i) (n - (i + 1)) (sym (field_is _ _ q.is) ∙ h))

      pub first-again : (x : ResolvedField) → a ≡ answer.Field x → whole ≡ fields_from book width (t + 1 + (i + 1)) (n - (i + 1))
      first-again x h =
          let s : t + 1 + (i + 1) ≡ t + 1 + i + 1 = omega arith in
          rw s (turn ∙ fields-more book width (t + 1 + i) (n - (i + 1)) x (sym (field_is _ _ q.is) ∙ h))

-- the number of a field's block fits
module _ (book : List ℕ) (t n i : ℕ) (v : ValidBook book) (y : is_type book t ≡ true) (e : n ≤ fields_of book t) (l : i < n) where
  pub field-first : Fits w32 (t + 1)
  field-first = record { fits = omega (arith, (valid-type book v t y).room, (valid-size book v).few) }

  pub field-number : Fits w32 (t + 1 + i)
  field-number = record { fits = omega (arith, (valid-type book v t y).room, (valid-size book v).few) }
