-- The equations of the walk: what it is where the code's tests have led. They are the only place that opens its definitions. Assumes nothing.
use Rattle.std.specs.Prelude.{Option, Some, None}
use mathlib.Core.Path.{◌≡◌, refl, sym, ap, ◌∙◌}
use mathlib.Core.Bool.{Bool, true, false, cond}
use mathlib.Core.List.{List}
use Prim.Native.Nat.{ℕ, suc, ◌+◌, ◌-◌, ◌≤◌, ◌<◌}
use native.Mathlib.Omega.{arith}
use lib.ListN.{length, take, drop}
use lib.Dec.{leb}
use borrow.Author.Tests.{eq-eqb, ne_eqb}
use Rattle.type_book.specs.Book.{size_of, fields_of, count_of, type_name_of}
use Rattle.type_provider.specs.Find.{find}
use Rattle.resolvers.specs.Resolve.{resolve_alias}
use Rattle.resolvers.proofs.Numbers.{lacks-numbers}
use Rattle.resolve_field_types.specs.Fields.{resolve_field, fields_check}
use Rattle.resolve_field_types.proofs.Numbers.{field-lacks, field-long}
use Rattle.resolvers.specs.declared.Resolved.{Resolved}
use Rattle.resolve_field_types.specs.declared.FieldAnswer.TheVariants as answer
use Rattle.resolve_field_types.specs.declared.FieldsCheck.{FieldsCheck}
use Rattle.resolve_field_types.specs.declared.ResolvedField.{ResolvedField}
use Rattle.resolve_field_types.specs.declared.FieldAnswer.{FieldAnswer}
use Rattle.tape_shape.specs.declared.Shape.{Shape}
use Rattle.tape_shape.specs.Array.{stride_of}
use Rattle.tape.specs.Record.{new_record, declaring}
use Rattle.de_output.specs.Trace.{Trace, rec, one, refuse, ◌then◌}
use Rattle.tape_array_elements.specs.Element.{Content, whole, further, cut, element_item, shape_at, element_check}
use Rattle.de_leaf_output.specs.declared.Typed.{Typed}
use Rattle.de.specs.declared.reading.Part.{Part}
use Rattle.de.specs.declared.reading.Part.TheVariants as part
use Rattle.de.specs.Plans.{member_part, field_trace}
use Rattle.de.specs.Walk.{Ctx, typed_of, Child, checked, field_value, member_of, members_from, members_of, map_of, elements_from, elements_of, dimension_of, element_by, array_by, array_of, shape_walk, item_walk, read_walk}

-- ---- a value

module _ (c : Ctx) (left : ℕ) (mem : List ℕ) where
  pub walk_deep : (i : Content Typed) → left ≡ 0 → read_walk c left i mem ≡ refuse 14 0
  unfolding read_walk
  walk_deep i e = rw e

  pub walk-shape : (x : Typed) (k : Shape) → (left ≡ 0 → ⊥) → k ≡ shape_at c.book c.width x.resolved → read_walk c left (whole x) mem ≡ shape_walk (read_walk c (left - 1)) c x mem k
  unfolding read_walk item_walk
  walk-shape x k n q =
      let e : left ≡ suc (left - 1) = omega arith in
      ap (λ (l : ℕ). read_walk c l (whole x) mem) e ∙ rw q

  pub walk-further : (d t : ℕ) (e : Typed) → (left ≡ 0 → ⊥) → read_walk c left (further d t e) mem ≡ dimension_of (read_walk c (left - 1)) c t d t e mem
  unfolding read_walk item_walk
  walk-further d t e n =
      let q : left ≡ suc (left - 1) = omega arith in
      ap (λ (l : ℕ). read_walk c l (further d t e) mem) q

-- ---- a field, and the fields

-- a field's value, by what it is in the bytes
module _ (child : Child) (c : Ctx) (mem : List ℕ) where
  part_walk : Part → Trace
  part_walk (part.Value x from to) = child (whole x) (take (to - from) (drop from mem))
  part_walk (part.Stop n b) = refuse n b

  module _ (f : ℕ) where
    inside : (b : Bool) (x : ResolvedField) → cond b (child (whole (typed_of c x.named x.resolved)) (cut x.offset x.size mem)) (refuse 10 0) ≡ part_walk (cond b (part.Value (typed_of c x.named x.resolved) x.offset (x.offset + x.size)) (part.Stop 10 0))
    unfolding part_walk
    inside true x = let z : x.offset + x.size - x.offset ≡ x.size = omega arith in rw z
    inside false x = refl

    value-part : (a : FieldAnswer) → field_value child c mem a ≡ part_walk (member_part c (length mem) a)
    unfolding field_value member_part part_walk
    value-part (answer.Field x) = inside (leb (x.offset + x.size) (length mem)) x
    value-part (answer.NotFound b) = rw (field-lacks b)
    value-part answer.TooLong = rw field-long

    module _ (r : Part) (q : r ≡ member_part c (length mem) (resolve_field c.book c.width f)) where
      field-by : field_trace child c mem f ≡ part_walk r
      field-by = value-part (resolve_field c.book c.width f) ∙ ap part_walk (sym q)

      pub field-stop : (n b : ℕ) → r ≡ part.Stop n b → field_trace child c mem f ≡ refuse n b
      unfolding part_walk
      field-stop n b e = field-by ∙ rw e

      pub field-value : (x : Typed) (from to : ℕ) → r ≡ part.Value x from to → field_trace child c mem f ≡ child (whole x) (take (to - from) (drop from mem))
      unfolding part_walk
      field-value x from to e = field-by ∙ rw e

  pub members-all : (t n : ℕ) → members_from child c mem (t + 1) n ≡ members_from child c mem (t + 1 + 0) (n - 0)
  members-all t n =
      let e : n - 0 ≡ n = omega arith in
      let k : t + 1 + 0 ≡ t + 1 = omega arith in
      rw (e, k)

  pub members-more : (t i n : ℕ) → i < n
      → members_from child c mem (t + 1 + i) (n - i) ≡ member_of child c mem (t + 1 + i) then members_from child c mem (t + 1 + (i + 1)) (n - (i + 1))
  unfolding members_from
  members-more t i n h =
      let e : n - i ≡ suc (n - (i + 1)) = omega arith in
      let k : t + 1 + i + 1 ≡ t + 1 + (i + 1) = omega arith in
      rw (e, k)

  pub members-none : (t i n : ℕ) → n ≤ i → members_from child c mem (t + 1 + i) (n - i) ≡ one (rec (new_record 5 0 0 0))
  unfolding members_from
  members-none t i n h = let e : n - i ≡ 0 = omega arith in rw e

  pub members_of_lem : (x : Typed) (n : ℕ) → n ≡ fields_of c.book x.resolved → members_of child c x mem ≡ one (rec (declaring x.named (new_record 3 0 n 0))) then members_from child c mem (x.resolved + 1) n
  unfolding members_of
  members_of_lem x n e = rw e

  module _ (x : Typed) (size : ℕ) (s : size ≡ size_of c.book x.resolved) where
    pub map_odd : (length mem ≡ size → ⊥) → map_of child c x mem ≡ refuse 10 0
    unfolding map_of
    map_odd h = rw (← s, ne_eqb (length mem) size h)

    module _ (h : length mem ≡ size) (k : FieldsCheck) (q : k ≡ fields_check c.book c.width x.resolved) where
      pub map_even : map_of child c x mem ≡ checked k (members_of child c x mem)
      unfolding map_of
      map_even = rw (← s, eq-eqb (length mem) size h, q)

  -- ---- an array

  module _ (x : Typed) (size : ℕ) (s : size ≡ size_of c.book x.resolved) where
    pub array_odd : (length mem ≡ size → ⊥) → array_of child c x mem ≡ refuse 10 0
    unfolding array_of
    array_odd h = rw (← s, ne_eqb (length mem) size h)

    module _ (h : length mem ≡ size) (f : Option ℕ) (ef : f ≡ find c.book (type_name_of c.book x.resolved)) where
      array_even : array_of child c x mem ≡ array_by child c x mem f
      unfolding array_of
      array_even = rw (← s, eq-eqb (length mem) size h, ef)

      pub array-nothing : f ≡ None → array_of child c x mem ≡ refuse 7 x.resolved
      unfolding array_by
      array-nothing e = array_even ∙ rw (e, lacks-numbers x.resolved)

      pub array_at : (n : ℕ) → f ≡ Some n → (r : Resolved) → r ≡ resolve_alias c.book c.width n → array_of child c x mem ≡ element_by child c x n mem r
      unfolding array_by
      array_at n e r q = array_even ∙ rw (e, q)

  pub elements_of_lem : (m d t : ℕ) (e : Typed) (n : ℕ) → n ≡ count_of c.book t d
      → elements_of child c m d t e mem ≡ one (rec (declaring m (new_record 1 0 n 0))) then elements_from child (element_item c.book d t e) (stride_of c.book d t e.resolved) mem 0 n
  unfolding elements_of
  elements_of_lem m d t e n q = rw q

  pub dimension_by : (m d t : ℕ) (e : Typed) (k : FieldsCheck) → k ≡ element_check c.book c.width d t e.resolved → dimension_of child c m d t e mem ≡ checked k (elements_of child c m d t e mem)
  unfolding dimension_of
  dimension_by m d t e k q = rw q

module _ (child : Child) (item : Content Typed) (mem : List ℕ) (stride : ℕ) where
  pub elements-all : (n : ℕ) → elements_from child item stride mem 0 n ≡ elements_from child item stride mem 0 (n - 0)
  elements-all n = let q : n - 0 ≡ n = omega arith in rw q

  pub elements-more : (from i n : ℕ) → i < n
      → elements_from child item stride mem from (n - i) ≡ child item (cut from stride mem) then elements_from child item stride mem (from + stride) (n - (i + 1))
  unfolding elements_from
  elements-more from i n h = let q : n - i ≡ suc (n - (i + 1)) = omega arith in rw q

  pub elements-none : (from i n : ℕ) → n ≤ i → elements_from child item stride mem from (n - i) ≡ one (rec (new_record 2 0 0 0))
  unfolding elements_from
  elements-none from i n h = let q : n - i ≡ 0 = omega arith in rw q
