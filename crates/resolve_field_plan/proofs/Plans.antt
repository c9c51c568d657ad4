-- Laws of plans: one field, its entry, the loop over the fields. Assumes nothing.
use Rattle.std.specs.Prelude.{Option, Some, None}
use mathlib.Core.Path.{◌≡◌, refl, sym, ap, ◌∙◌, subst}
use mathlib.Core.Bool.{Bool, true, false}
use mathlib.Core.List.{List, []}
use Prim.Native.Nat.{ℕ, suc, ◌+◌, ◌*◌, ◌-◌, ◌/◌, ◌%◌, ◌≤◌, ◌<◌}
use native.Mathlib.Omega.{arith}
use lib.ListN.{length, get_or, set, get_or-eq_default}
use lib.Seq.{set_out, get_or-set_same, get_or-set_other}
use lib.Dec.{eqb, leb}
use borrow.Author.Tests.{eqb-true, eqb-false, leb-true, leb-false}
use mir.Syntax.{w32, w64}
use mir.Val.{Fits}
use Rattle.type_book.specs.Book.{is_type, offset_of, size_of, fields_of, type_name_of}
use Rattle.type_provider.specs.Find.{find}
use Rattle.type_category.specs.declared.type_category.AdsTypeCategory.{AdsTypeCategory}
use Rattle.type_category.specs.Category.{category_of}
use Rattle.type_category.specs.Number.{category_number, category_at}
use Rattle.type_category.proofs.Numbers.{number_small, number-back}
use Rattle.type_book_check.specs.Check.{ValidBook}
use Rattle.type_book_check.proofs.Valid.{valid-size, valid-type}
use Rattle.resolvers.specs.Resolve.{goes_on, is_followed, resolve_alias, ResolvedIs}
use Rattle.resolve_field_types.specs.Fields.{field_of, field_found, resolve_field, fields_from, fields_check}
use Rattle.resolvers.specs.declared.Resolved.{Resolved}
use Rattle.resolvers.specs.declared.Resolved.TheVariants as resolved
use Rattle.resolve_field_types.specs.declared.ResolvedField.{ResolvedField}
use Rattle.resolve_field_types.specs.declared.FieldAnswer.TheVariants as answer
use Rattle.resolve_field_types.specs.declared.FieldsCheck.TheVariants as check
use Rattle.resolvers.proofs.Chains.{found_type, follow-base}
use Rattle.resolve_field_types.proofs.Fields.{field_at, field-nothing, fields-more, fields-lacks, fields-endless, fields-none}
use Rattle.resolve_field_plan.specs.declared.PlannedField.{PlannedField}
use Rattle.resolve_field_plan.specs.declared.Planned.{Planned}
use Rattle.resolve_field_plan.specs.declared.Planned.TheVariants as planned
use Rattle.resolvers.proofs.Numbers.{resolved-is as resolved-by, resolved-says}
use Rattle.resolve_field_types.proofs.Numbers.{check-says}
use Rattle.resolve_field_plan.proofs.Numbers.{planned_says}
use Rattle.resolve_field_plan.specs.Plan.{plan_entry_by, plan_entry_of, planned_of, FieldIs, PlannedFieldIs, Known, PlanEntry, SomeEntry, Earlier, Among, Recent, Entries, PlanServes, noted, field_plan_from, field_plan_of, FieldPlanIs}

-- ---- one field

-- a resolved field's offset and size are its block's
pub record Parts (book : List ℕ) (f : ℕ) (x : ResolvedField) : Type 0 where
  pub offset-is : x.offset ≡ offset_of book f
  pub size_is : x.size ≡ size_of book f

module _ (book : List ℕ) (width f : ℕ) (x : ResolvedField) where
  parts_of_lem : (n : ℕ) (r : Resolved) → field_of book f n r ≡ answer.Field x → Parts book f x
  unfolding field_of
  parts_of_lem n (resolved.Base u) e =
      let a : ◌≡◌ {A = ResolvedField} (record { offset = offset_of book f; size = size_of book f; named = n; resolved = u; field = f }) x = cc in
      record { offset-is = sym (ap (λ (z : ResolvedField). z.offset) a); size_is = sym (ap (λ (z : ResolvedField). z.size) a) }
  parts_of_lem n (resolved.NotFound c) e = absurd (let z : ◌≡◌ {A = ℕ} 0 1 = cc in omega arith)
  parts_of_lem n resolved.TooLong e = absurd (let z : ◌≡◌ {A = ℕ} 0 1 = cc in omega arith)

  parts-found : (u : Option ℕ) → field_found book width f u ≡ answer.Field x → Parts book f x
  unfolding field_found
  parts-found (Some n) e = parts_of_lem n (resolve_alias book width n) e
  parts-found None e = absurd (let z : ◌≡◌ {A = ℕ} 0 1 = cc in omega arith)

  pub parts : resolve_field book width f ≡ answer.Field x → Parts book f x
  unfolding resolve_field
  parts e = parts-found (find book (type_name_of book f)) e

  resolves_of : (n : ℕ) (r : Resolved) → resolve_alias book width n ≡ r → field_of book f n r ≡ answer.Field x → resolve_alias book width x.named ≡ resolved.Base x.resolved
  unfolding field_of
  resolves_of n (resolved.Base u) q e =
      let a : ◌≡◌ {A = ResolvedField} (record { offset = offset_of book f; size = size_of book f; named = n; resolved = u; field = f }) x = cc in
      let m : n ≡ x.named = ap (λ (z : ResolvedField). z.named) a in
      let b : u ≡ x.resolved = ap (λ (z : ResolvedField). z.resolved) a in
      rw (← m, ← b) q
  resolves_of n (resolved.NotFound c) q e = absurd (let z : ◌≡◌ {A = ℕ} 0 1 = cc in omega arith)
  resolves_of n resolved.TooLong q e = absurd (let z : ◌≡◌ {A = ℕ} 0 1 = cc in omega arith)

  resolves-found : (u : Option ℕ) → field_found book width f u ≡ answer.Field x → resolve_alias book width x.named ≡ resolved.Base x.resolved
  unfolding field_found
  resolves-found (Some n) e = resolves_of n (resolve_alias book width n) refl e
  resolves-found None e = absurd (let z : ◌≡◌ {A = ℕ} 0 1 = cc in omega arith)

  -- what a field's type was named leads to what it resolves to
  resolves : resolve_field book width f ≡ answer.Field x → resolve_alias book width x.named ≡ resolved.Base x.resolved
  unfolding resolve_field
  resolves e = resolves-found (find book (type_name_of book f)) e

lacks-only : {book : List ℕ} {width f : ℕ} (b : ℕ) → resolve_field book width f ≡ answer.NotFound b → PlannedFieldIs book width f (planned.NotFound b)
unfolding planned_of
lacks-only b h = record {
  is = planned_says _ _ (rw h);
  field = λ y g. absurd (let z : ◌≡◌ {A = ℕ} 0 1 = cc in omega arith);
  lacks = λ d g. let z : b ≡ d = cc in h ∙ ap answer.NotFound z;
  endless = λ g. absurd (let z : ◌≡◌ {A = ℕ} 0 1 = cc in omega arith);
}

field-only : {book : List ℕ} {width f : ℕ} (x : PlannedField) → FieldIs book width f x → PlannedFieldIs book width f (planned.Field x)
unfolding planned_of
field-only {book} {width} {f} x h = record {
  is = planned_says _ _ (rw (h.found, h.offset-is, h.size_is, h.named-is, h.resolved-is, ← h.category-is));
  field = λ y g. let a : ◌≡◌ {A = PlannedField} x y = cc in subst (FieldIs book width f) a h;
  lacks = λ b g. absurd (let z : ◌≡◌ {A = ℕ} 0 1 = cc in omega arith);
  endless = λ g. absurd (let z : ◌≡◌ {A = ℕ} 0 1 = cc in omega arith);
}

-- by what the named type resolves to
module _ (book : List ℕ) (width f n : ℕ) (w : find book (type_name_of book f) ≡ Some n) (r : Resolved) (q : ResolvedIs book (resolve_alias book width n) r) where
  at : resolve_field book width f ≡ field_of book f n r
  at = field_at book width f n w ∙ ap (field_of book f n) (sym (resolved-by _ _ q.is))

  pub alias-base : (u o s : ℕ) (c : AdsTypeCategory) → r ≡ resolved.Base u → c ≡ category_of book width u → o ≡ offset_of book f → s ≡ size_of book f
      → PlannedFieldIs book width f (planned.Field (record { offset = o; size = s; named = n; resolved = u; category = c }))
  unfolding field_of
  alias-base u o s c e k eo es =
      field-only _
      (record {
        whole = record { offset = offset_of book f; size = size_of book f; named = n; resolved = u; field = f };
        found = at ∙ ap (field_of book f n) e;
        offset-is = sym eo;
        size_is = sym es;
        named-is = refl;
        resolved-is = refl;
        named-typed = found_type book (type_name_of book f) n w;
        typed = q.typed u e;
        category-is = k;
      })

  pub alias-lacks : (b : ℕ) → r ≡ resolved.NotFound b → PlannedFieldIs book width f (planned.NotFound b)
  unfolding field_of
  alias-lacks b e = lacks-only b (at ∙ ap (field_of book f n) e)

  pub alias-endless : r ≡ resolved.TooLong → PlannedFieldIs book width f planned.TooLong
  unfolding field_of planned_of
  alias-endless e =
      let z : resolve_field book width f ≡ answer.TooLong = at ∙ ap (field_of book f n) e in
      record {
        is = planned_says _ _ (rw z);
        field = λ y g. absurd (let z : ◌≡◌ {A = ℕ} 0 1 = cc in omega arith);
        lacks = λ d g. absurd (let z : ◌≡◌ {A = ℕ} 0 1 = cc in omega arith);
        endless = λ g. z;
      }

-- the named type is a type block
pub alias-typed : (book : List ℕ) (f n : ℕ) → find book (type_name_of book f) ≡ Some n → is_type book n ≡ true
alias-typed book f n w = found_type book (type_name_of book f) n w

-- a type that is no alias is what it resolves to
pub named-plain : (book : List ℕ) (width f n : ℕ) → find book (type_name_of book f) ≡ Some n → (o s : ℕ) (c : AdsTypeCategory) (b : Bool) → c ≡ category_of book width n → b ≡ goes_on false c → b ≡ false → o ≡ offset_of book f → s ≡ size_of book f
    → PlannedFieldIs book width f (planned.Field (record { offset = o; size = s; named = n; resolved = n; category = c }))
unfolding is_followed
named-plain book width f n w o s c b k eb z eo es =
    let y : is_followed false book width n ≡ false = rw (← k) (sym eb ∙ z) in
    let t : is_type book n ≡ true = alias-typed book f n w in
    alias-base book width f n w (resolved.Base n)
    (record {
      is = resolved-says _ _ (sym (follow-base (is_followed false book width) book 31 n y));
      typed = λ u e. let a : n ≡ u = cc in rw (← a) t;
    })
    n o s c refl k eo es

-- by what the field's type name finds
module _ (book : List ℕ) (width f : ℕ) (x : Option ℕ) (ex : x ≡ find book (type_name_of book f)) where
  pub plan-nothing : x ≡ None → PlannedFieldIs book width f (planned.NotFound f)
  plan-nothing h = lacks-only f (field-nothing book width f (sym ex ∙ h))

  module _ (n : ℕ) (h : x ≡ Some n) where
    pub plan-found : find book (type_name_of book f) ≡ Some n
    plan-found = sym ex ∙ h

-- a type's block number is small, so an entry fits
pub typed-small : (book : List ℕ) (width f : ℕ) (a : Planned) (x : PlannedField) → ValidBook book → PlannedFieldIs book width f a → a ≡ planned.Field x → x.resolved < 65536
typed-small book width f a x v q e = omega (arith, (valid-type book v x.resolved (q.field x e).typed).room, (valid-size book v).few)

pub named_small : (book : List ℕ) (width f : ℕ) (a : Planned) (x : PlannedField) → ValidBook book → PlannedFieldIs book width f a → a ≡ planned.Field x → x.named < 65536
named_small book width f a x v q e = omega (arith, (valid-type book v x.named (q.field x e).named-typed).room, (valid-size book v).few)

-- ---- one entry

-- what an entry tells
module _ (book : List ℕ) (width f e : ℕ) (v : ValidBook book) (k : PlanEntry book width f e) (n : e ≡ 0 → ⊥) where
  abbrev w : Known book width f e
  w = k.known n

  abbrev x : PlannedField
  x = w.entry

  named-fits : x.named < 65536
  named-fits = omega (arith, (valid-type book v x.named w.is.named-typed).room, (valid-size book v).few)

  resolved-fits : x.resolved < 65536
  resolved-fits = omega (arith, (valid-type book v x.resolved w.is.typed).room, (valid-size book v).few)

  packed : e - 1 ≡ (x.named * 65536 + x.resolved) * 16 + category_number x.category
  packed = omega (arith, w.packed)

  above : (e - 1) / 16 ≡ x.named * 65536 + x.resolved
  above = omega (arith, packed, number_small x.category)

  entry_named_lem : (e - 1) / 1048576 ≡ x.named
  entry_named_lem = omega (arith, packed, number_small x.category, resolved-fits)

  entry-resolved : (e - 1) / 16 % 65536 ≡ x.resolved
  entry-resolved = rw above (omega (arith, resolved-fits))

  pub named_cast : Fits w32 ((e - 1) / 1048576)
  named_cast = record { fits = rw entry_named_lem (omega (arith, named-fits)) }

  pub resolved_cast : Fits w32 ((e - 1) / 16 % 65536)
  resolved_cast = record { fits = omega arith }

  pub category_cast : Fits w32 ((e - 1) % 16)
  category_cast = record { fits = omega arith }

  pub entry_kept_lem : (o s : ℕ) (c : AdsTypeCategory) → o ≡ offset_of book f → s ≡ size_of book f → c ≡ category_at ((e - 1) % 16)
      → PlannedFieldIs book width f (planned.Field (record { offset = o; size = s; named = (e - 1) / 1048576; resolved = (e - 1) / 16 % 65536; category = c }))
  entry_kept_lem o s c eo es ec =
      let r : (e - 1) / 16 % 65536 ≡ x.resolved = entry-resolved in
      let m : (e - 1) % 16 ≡ category_number x.category = omega (arith, packed, number_small x.category) in
      let d : c ≡ x.category = ec ∙ ap category_at m ∙ number-back x.category in
      let h : Parts book f w.is.whole = parts book width f w.is.whole w.is.found in
      field-only _
      (record {
        whole = w.is.whole;
        found = w.is.found;
        offset-is = h.offset-is ∙ sym eo;
        size_is = h.size_is ∙ sym es;
        named-is = w.is.named-is ∙ sym entry_named_lem;
        resolved-is = w.is.resolved-is ∙ sym r;
        named-typed = rw entry_named_lem w.is.named-typed;
        typed = rw r w.is.typed;
        category-is = d ∙ w.is.category-is ∙ ap (category_of book width) (sym r);
      })

same-type : (book : List ℕ) (width g : ℕ) (z : ResolvedField) (n u : ℕ) → resolve_field book width g ≡ answer.Field z → z.named ≡ n → z.resolved ≡ u → resolve_alias book width n ≡ resolved.Base u
same-type book width g z n u e m r = rw (← m, ← r) (resolves book width g z e)

-- the entry of an earlier field of the same type
module _ (book : List ℕ) (width f n : ℕ) (v : ValidBook book) (w : find book (type_name_of book f) ≡ Some n) (plan : List ℕ) (i e : ℕ) (h : Earlier book width i plan) (r : Recent plan i n e) (ne : e ≡ 0 → ⊥) where
  abbrev among : Among plan i n e
  among = r.found ne

  abbrev other : SomeEntry book width (get_or plan among.place 0)
  other = h.at among.place among.inside

  own : PlanEntry book width other.field e
  own = subst (PlanEntry book width other.field) (sym among.is) other.is

  pub recent_kept : (o s : ℕ) (c : AdsTypeCategory) → o ≡ offset_of book f → s ≡ size_of book f → c ≡ category_at ((e - 1) % 16)
      → PlannedFieldIs book width f (planned.Field (record { offset = o; size = s; named = n; resolved = (e - 1) / 16 % 65536; category = c }))
  recent_kept o s c eo es ec =
      let y : FieldIs book width other.field (record { offset = offset_of book other.field; size = size_of book other.field; named = (e - 1) / 1048576; resolved = (e - 1) / 16 % 65536; category = c }) = (entry_kept_lem book width other.field e v own ne (offset_of book other.field) (size_of book other.field) c refl refl ec).field _ refl in
      let m : y.whole.named ≡ n = y.named-is ∙ among.named-is in
      let q : resolve_alias book width n ≡ resolved.Base ((e - 1) / 16 % 65536) = same-type book width other.field y.whole n ((e - 1) / 16 % 65536) y.found m y.resolved-is in
      alias-base book width f n w (resolved.Base ((e - 1) / 16 % 65536))
      (record {
        is = resolved-says _ _ (sym q);
        typed = λ u k. let a : (e - 1) / 16 % 65536 ≡ u = cc in rw (← a) y.typed;
      })
      ((e - 1) / 16 % 65536) o s c refl y.category-is eo es

pub recent_here : (plan : List ℕ) (i n j e : ℕ) → j < i → e ≡ get_or plan j 0 → (e - 1) / 1048576 ≡ n → Recent plan i n e
recent_here plan i n j e l q m = record { found = λ _. record { place = j; inside = l; is = q; named-is = m } }

pub entry-none : (book : List ℕ) (width f : ℕ) → PlanEntry book width f 0
entry-none book width f = record { known = λ h. absurd (h refl) }

-- ---- the entries of a plan

pub entry_of : (book : List ℕ) (width t n i : ℕ) (plan : List ℕ) (e : ℕ) → Entries book width t plan → n ≡ fields_of book t → i < n → e ≡ get_or plan i 0 → PlanEntry book width (t + 1 + i) e
entry_of book width t n i plan e h z l q = subst (PlanEntry book width (t + 1 + i)) (sym q) (h.at i (omega arith))

-- past its end a list keeps no entry
pub note_past : (plan : List ℕ) (i e : ℕ) → length plan ≤ i → plan ≡ set plan i e
note_past plan i e h = sym (set_out plan i e h)

pub note_here : (plan : List ℕ) (i n r p : ℕ) (c : AdsTypeCategory) → p ≡ category_number c → set plan i (1 + (n * 65536 + r) * 16 + p) ≡ set plan i (plan_entry_by n r c)
note_here plan i n r p c e = rw e

pub note_fits : (n r p : ℕ) (c : AdsTypeCategory) → n < 65536 → r < 65536 → p ≡ category_number c → Fits w64 (1 + (n * 65536 + r) * 16 + p)
note_fits n r p c k l e = record { fits = omega (arith, number_small c) }

-- the plan that has no entry
pub ready-none : (book : List ℕ) (width t : ℕ) → PlanServes book width t []
ready-none book width t = record { entries = record { at = λ i l. entry-none book width (t + 1 + i) }; fine = λ h. absurd (h refl) }

-- ---- the loop of `plan_fields_in`

-- the plan after a field, by what it came to
module _ (book : List ℕ) (width f i k : ℕ) (plan : List ℕ) where
  plan-lacks : (b : ℕ) → resolve_field book width f ≡ answer.NotFound b → field_plan_from book width f i (suc k) plan ≡ plan
  unfolding field_plan_from noted
  plan-lacks b e = rw e

  plan-endless : resolve_field book width f ≡ answer.TooLong → field_plan_from book width f i (suc k) plan ≡ plan
  unfolding field_plan_from noted
  plan-endless e = rw e

  plan-more : (x : PlannedField) → FieldIs book width f x → field_plan_from book width f i (suc k) plan ≡ field_plan_from book width (f + 1) (i + 1) k (set plan i (plan_entry_of x))
  unfolding field_plan_from noted
  plan-more x q = rw (q.found, q.named-is, q.resolved-is, ← q.category-is)

-- before the i-th of n fields: the first refusal of all is that of the fields left, the fields before have their entries, and what is
-- filled from here on is the whole plan
pub record Planning (book : List ℕ) (width t n : ℕ) (before : List ℕ) (i : ℕ) (now : List ℕ) : Type 0 where
  pub left : fields_check book width t ≡ fields_from book width (t + 1 + i) (n - i)
  pub upto : (j : ℕ) → j < i → PlanEntry book width (t + 1 + j) (get_or now j 0)
  pub rest : field_plan_of book width t before ≡ field_plan_from book width (t + 1 + i) i (n - i) now

-- the entries of the fields before
pub planning_earlier : (book : List ℕ) (width t n : ℕ) (before : List ℕ) (i : ℕ) (now : List ℕ) → Planning book width t n before i now → Earlier book width i now
planning_earlier book width t n before i now p = record { at = λ j l. record { field = t + 1 + j; is = p.upto j l } }

-- one more entry, if there is room
module _ (book : List ℕ) (width t i : ℕ) (plan : List ℕ) (h : (j : ℕ) → j < i → PlanEntry book width (t + 1 + j) (get_or plan j 0)) (x : PlannedField) (q : FieldIs book width (t + 1 + i) x) where
  more : (j : ℕ) → j < i + 1 → PlanEntry book width (t + 1 + j) (get_or (set plan i (plan_entry_of x)) j 0)
  more j l = by (leb (length plan) i) refl (eqb j i) refl
    where
      by : (out : Bool) → leb (length plan) i ≡ out → (same : Bool) → eqb j i ≡ same → PlanEntry book width (t + 1 + j) (get_or (set plan i (plan_entry_of x)) j 0)
      by true e true s =
          let z : j ≡ i = eqb-true j i s in
          let b : length plan ≤ j = rw z (leb-true (length plan) i e) in
          rw (set_out plan i (plan_entry_of x) (leb-true (length plan) i e), get_or-eq_default plan 0 b) (entry-none book width (t + 1 + j))
      by false e true s =
          let z : j ≡ i = eqb-true j i s in
          rw (z, get_or-set_same plan i (plan_entry_of x) 0 (leb-false (length plan) i e)) (record { known = λ n. record { entry = x; is = q; packed = refl } })
      by out e false s =
          let n : j ≡ i → ⊥ = eqb-false j i s in
          rw (get_or-set_other plan i j (plan_entry_of x) 0 n) (h j (omega arith))

module _ (book : List ℕ) (width t n : ℕ) where
  pub planning_start : (plan : List ℕ) → n ≡ fields_of book t → Planning book width t n plan 0 plan
  unfolding fields_check field_plan_of
  planning_start plan e =
      let a : t + 1 + 0 ≡ t + 1 = omega arith in
      let b : n - 0 ≡ fields_of book t = omega arith in
      record { left = rw (a, b); upto = λ j l. absurd (omega arith); rest = rw (a, b) }

  module _ (before : List ℕ) (i : ℕ) (now : List ℕ) (p : Planning book width t n before i now) where
    pub planning_end : n ≡ fields_of book t → n ≤ i → FieldPlanIs book width t before check.Fine now
    unfolding field_plan_from
    planning_end z h =
        let k : n - i ≡ 0 = omega arith in
        record {
          is = check-says _ _ (sym (p.left ∙ ap (fields_from book width (t + 1 + i)) k ∙ fields-none book width (t + 1 + i)));
          plan = sym (p.rest ∙ ap (λ (m : ℕ). field_plan_from book width (t + 1 + i) i m now) k);
          entries = λ e. record { at = λ j l. p.upto j (omega arith) };
        }

    module _ (l : i < n) (a : Planned) (q : PlannedFieldIs book width (t + 1 + i) a) where
      one_more : n - i ≡ suc (n - (i + 1))
      one_more = omega arith

      turn : fields_check book width t ≡ fields_from book width (t + 1 + i) (suc (n - (i + 1)))
      turn = p.left ∙ ap (fields_from book width (t + 1 + i)) one_more

      fill : field_plan_of book width t before ≡ field_plan_from book width (t + 1 + i) i (suc (n - (i + 1))) now
      fill = p.rest ∙ ap (λ (m : ℕ). field_plan_from book width (t + 1 + i) i m now) one_more

      pub planning_lacks : (b : ℕ) → a ≡ planned.NotFound b → FieldPlanIs book width t before (check.NotFound b) now
      planning_lacks b e = record {
        is = check-says _ _ (sym (turn ∙ fields-lacks book width (t + 1 + i) (n - (i + 1)) b (q.lacks b e)));
        plan = sym (fill ∙ plan-lacks book width (t + 1 + i) i (n - (i + 1)) now b (q.lacks b e));
        entries = λ f. absurd (let z : ◌≡◌ {A = ℕ} 0 1 = cc in omega arith);
      }

      pub planning_endless : a ≡ planned.TooLong → FieldPlanIs book width t before check.TooLong now
      planning_endless e = record {
        is = check-says _ _ (sym (turn ∙ fields-endless book width (t + 1 + i) (n - (i + 1)) (q.endless e)));
        plan = sym (fill ∙ plan-endless book width (t + 1 + i) i (n - (i + 1)) now (q.endless e));
        entries = λ f. absurd (let z : ◌≡◌ {A = ℕ} 0 1 = cc in omega arith);
      }

      pub planning_again : (x : PlannedField) (later : List ℕ) → a ≡ planned.Field x → later ≡ set now i (plan_entry_of x) → Planning book width t n before (i + 1) later
      planning_again x later e s =
          let f : FieldIs book width (t + 1 + i) x = q.field x e in
          let z : t + 1 + (i + 1) ≡ t + 1 + i + 1 = omega arith in
          record {
            left = rw z (turn ∙ fields-more book width (t + 1 + i) (n - (i + 1)) f.whole f.found);
            upto = λ j d. rw s (more book width t i now p.upto x f j d);
            rest = rw (z, s) (fill ∙ plan-more book width (t + 1 + i) i (n - (i + 1)) now x f);
          }

-- the number of a field's block fits
module _ (book : List ℕ) (t n i : ℕ) (v : ValidBook book) (y : is_type book t ≡ true) (e : n ≡ fields_of book t) (l : i < n) where
  pub field-first : Fits w32 (t + 1)
  field-first = record { fits = omega (arith, (valid-type book v t y).room, (valid-size book v).few) }

  pub field-number : Fits w32 (t + 1 + i)
  field-number = record { fits = omega (arith, (valid-type book v t y).room, (valid-size book v).few) }
