-- What each function of the reader owes at each exit and each turn, from what the calls ensure and the tests show there, so that `search` finds each premise. Assumes nothing.
use Rattle.std.specs.Prelude.{Option, Some, None}
use mathlib.Core.Path.{◌≡◌, sym, ap, ◌∙◌}
use mathlib.Core.Bool.{Bool, true, false}
use mathlib.Core.List.{List}
use Prim.Native.Nat.{ℕ, ◌+◌, ◌-◌, ◌≤◌, ◌<◌}
use native.Mathlib.Omega.{arith}
use lib.ListN.{length, take, drop}
use lib.Dec.{eqb}
use borrow.Author.Tests.{le-leb, lt-leb}
use Rattle.resolve_field_types.specs.Fields.{resolve_field}
use Rattle.type_book.specs.Book.{is_type, size_of, fields_of, entries_of, count_of, type_name_of}
use Rattle.type_provider.specs.Find.{found_numbers, find}
use Rattle.type_book_check.specs.Check.{ValidBook}
use Rattle.type_book_check.proofs.Valid.{valid-size, valid-type}
use mir.Syntax.{w32}
use mir.Val.{Fits}
use Rattle.type_category.specs.Category.{category_of}
use Rattle.type_category.specs.declared.type_category.AdsTypeCategory.{AdsTypeCategory}
use Rattle.resolvers.specs.Resolve.{resolve_alias, ResolvedIs}
use Rattle.resolvers.proofs.Chains.{found_type}
use Rattle.resolvers.specs.declared.Resolved.{Resolved}
use Rattle.resolvers.specs.declared.Resolved.TheVariants as resolved
use Rattle.resolve_field_types.specs.declared.FieldsCheck.{FieldsCheck}
use Rattle.resolve_field_types.specs.declared.FieldsCheck.TheVariants as check
use Rattle.resolve_field_plan.specs.declared.PlannedField.{PlannedField}
use Rattle.resolve_field_plan.specs.declared.Planned.{Planned}
use Rattle.resolve_field_plan.specs.declared.Planned.TheVariants as planned
use Rattle.type_provider.proofs.Numbers.{found-is}
use Rattle.resolvers.proofs.Numbers.{resolved-is, lacks-numbers, long-numbers}
use Rattle.resolve_field_types.proofs.Numbers.{check-is, check-lacks, check-long, field-lacks, field-long}
use Rattle.resolve_field_plan.specs.Plan.{PlannedFieldIs, Entries, PlanServes, FieldPlanIs}
use Rattle.resolve_field_plan.proofs.Plans.{ready-none}
use Rattle.de_output.specs.declared.Step.{Step}
use Rattle.de_output.specs.declared.Step.TheVariants.{Stop}
use Rattle.tape_shape.specs.declared.Shape.{Shape}
use Rattle.tape_shape.specs.declared.Shape.TheVariants as shape
use Rattle.tape.specs.Record.{new_record, declaring}
use Rattle.de_output.specs.Trace.{rec, one, From, Halts}
use Rattle.tape_array_elements.specs.Element.{whole, element_item, shape_at, shape_check, element_check, ElementChecked}
use Rattle.tape_array_elements.proofs.Items.{item_last, item_further}
use Rattle.de.specs.Plans.{ReadPlan, ReadElementPlan, member_part, PartIs, field_trace}
use Rattle.de.specs.declared.reading.Part.{Part}
use Rattle.de.specs.declared.reading.Part.TheVariants as part
use Rattle.de_leaf_output.specs.declared.Typed.{Typed}
use Rattle.de.specs.Walk.{Ctx, ctx, typed_of, Child, leaf_of, checked, member_of, members_from, members_of, map_of, elements_from, elements_of, dimension_of, element_by, array_of, shape_walk, read_walk}
use Rattle.de_leaves.specs.Leaf.{leaf_at}
use Rattle.de_leaf_output.specs.Leaves.{trace_of}
use Rattle.tape_shape.specs.Value.{shape_of}
use Rattle.tape_shape.specs.Array.{stride_of, is_last, array_bytes}
use Rattle.tape_shape.proofs.Strides.{Along}
use Rattle.de_output.proofs.Runs.{Rest, from_as, from-held, halted, chain, rest_all, rest-next}
use Rattle.de.proofs.Walks as walks

-- ---- value

-- the shape of a category that is the type's own
pub shape_is : (c : Ctx) (t : ℕ) (k : Shape) (y : AdsTypeCategory) → y ≡ category_of c.book c.width t → k ≡ shape_of y → k ≡ shape_at c.book c.width t
unfolding shape_at
shape_is c t k y ey ek = ek ∙ ap shape_of ey

-- a plan that was given for a type with fields is ready
pub map-ready : (book : List ℕ) (width t : ℕ) (plan : List ℕ) (k : Shape) (y : AdsTypeCategory) → y ≡ category_of book width t → k ≡ shape_of y → k ≡ shape.Map → ReadPlan (ctx book width) t plan → PlanServes book width t plan
map-ready book width t plan k y ey ek z g = g.given (sym (shape_is (ctx book width) t k y ey ek) ∙ z)

-- no plan is given
pub given-none : (c : Ctx) (t : ℕ) (l : List ℕ) → ReadPlan c t (take (0 - 0) (drop 0 l))
given-none c t l = record { given = λ h. ready-none c.book c.width t }

module _ (c : Ctx) (left : ℕ) (x : Typed) (mem : List ℕ) {tape txt : List ℕ} {s r : Step} where
  pub value_deep : left ≡ 0 → Halts s 14 0 r → From (read_walk c left (whole x) mem) tape txt s r tape txt
  value_deep e h = from_as (walks.walk_deep c left mem (whole x) e) (halted h)

  module _ (n : left ≡ 0 → ⊥) (k : Shape) (ey : x.category ≡ category_of c.book c.width x.resolved) (ek : k ≡ shape_of x.category) where
    pub value-map : {tape' txt' : List ℕ} → k ≡ shape.Map → From (map_of (read_walk c (left - 1)) c x mem) tape txt s r tape' txt' → From (read_walk c left (whole x) mem) tape txt s r tape' txt'
    unfolding shape_walk
    value-map q h = from_as (walks.walk-shape c left mem x shape.Map n (sym q ∙ shape_is c x.resolved k x.category ey ek)) h

    pub value-array : {tape' txt' : List ℕ} → k ≡ shape.Array → From (array_of (read_walk c (left - 1)) c x mem) tape txt s r tape' txt' → From (read_walk c left (whole x) mem) tape txt s r tape' txt'
    unfolding shape_walk
    value-array q h = from_as (walks.walk-shape c left mem x shape.Array n (sym q ∙ shape_is c x.resolved k x.category ey ek)) h

    pub value-leaf : {tape' txt' : List ℕ} → k ≡ shape.Leaf → From (trace_of x.named (leaf_at c.book c.width x.resolved mem) mem) tape txt s r tape' txt' → From (read_walk c left (whole x) mem) tape txt s r tape' txt'
    unfolding shape_walk leaf_of
    value-leaf q h = from_as (walks.walk-shape c left mem x shape.Leaf n (sym q ∙ shape_is c x.resolved k x.category ey ek)) h

-- ---- field

module _ (child : Child) (c : Ctx) (mem : List ℕ) (f : ℕ) {tape txt : List ℕ} {s r : Step} (a : Part) (q : PartIs c f (length mem) a) where
  pub field-stop : (n b : ℕ) → a ≡ part.Stop n b → Halts s n b r → From (field_trace child c mem f) tape txt s r tape txt
  field-stop n b e h = from_as (walks.field-stop child c mem f a q.is n b e) (halted h)

  pub field-value : {tape₂ txt₂ : List ℕ} (x : Typed) (from to : ℕ) → a ≡ part.Value x from to → From (child (whole x) (take (to - from) (drop from mem))) tape txt s r tape₂ txt₂
      → From (field_trace child c mem f) tape txt s r tape₂ txt₂
  field-value x from to e v = from_as (walks.field-value child c mem f a q.is x from to e) v

module _ {book : List ℕ} {width f len : ℕ} {a : Part} {x : Typed} {from to : ℕ} (q : PartIs (ctx book width) f len a) (e : a ≡ part.Value x from to) where
  pub part-typed : {t : ℕ} → t ≡ x.resolved → is_type book t ≡ true
  part-typed z = rw z (q.value x from to e).typed

  pub part-category : x.category ≡ category_of book width x.resolved
  part-category = (q.value x from to e).category-is

  pub part-inside : to ≤ len
  part-inside = (q.value x from to e).inside

  pub part-order : from ≤ to
  part-order = omega (arith, (q.value x from to e).from_is, (q.value x from to e).to_is)

-- ---- a field's part, by what its plan says

module _ (c : Ctx) (f len : ℕ) where
  stopped : (n b : ℕ) → part.Stop n b ≡ member_part c len (resolve_field c.book c.width f) → PartIs c f len (part.Stop n b)
  stopped n b e = record { is = e; value = λ x from to h. absurd (let z : ◌≡◌ {A = ℕ} 0 1 = cc in omega arith) }

  module _ (a : Planned) (q : PlannedFieldIs c.book c.width f a) where
    pub part-lacks : (b : ℕ) → a ≡ planned.NotFound b → PartIs c f len (part.Stop 7 b)
    unfolding member_part
    part-lacks b e = stopped 7 b (rw (q.lacks b e, field-lacks b))

    pub part-endless : a ≡ planned.TooLong → PartIs c f len (part.Stop 8 0)
    unfolding member_part
    part-endless e = stopped 8 0 (rw (q.endless e, field-long))

    module _ (x : PlannedField) (e : a ≡ planned.Field x) where
      pub part-over : len < x.offset + x.size → PartIs c f len (part.Stop 10 0)
      unfolding member_part
      part-over l = let h = q.field x e in stopped 10 0 (rw (h.found, h.offset-is, h.size_is, lt-leb (x.offset + x.size) len l))

      pub part-value : x.offset + x.size ≤ len → PartIs c f len (part.Value (record { named = x.named; resolved = x.resolved; category = x.category }) x.offset (x.offset + x.size))
      unfolding member_part
      part-value l =
          let h = q.field x e in
          let made : ◌≡◌ {A = Typed} (record { named = x.named; resolved = x.resolved; category = x.category }) (typed_of c h.whole.named h.whole.resolved) = rw (h.named-is, h.resolved-is, ← h.category-is) in
          record {
            is = rw (h.found, h.offset-is, h.size_is, h.named-is, h.resolved-is, ← h.category-is, le-leb (x.offset + x.size) len l);
            value = λ y from to g.
                let ex : ◌≡◌ {A = Typed} (record { named = x.named; resolved = x.resolved; category = x.category }) y = cc in
                let ef : x.offset ≡ from = cc in
                let et : x.offset + x.size ≡ to = cc in
                record {
                  field = h.whole;
                  found = h.found;
                  type-is = sym ex ∙ made;
                  from_is = sym ef ∙ sym h.offset-is;
                  to_is = sym et ∙ rw (h.offset-is, h.size_is);
                  inside = rw (← et) l;
                  typed = rw (← ex) h.typed;
                  category-is = rw (← ex) h.category-is;
                };
          }

-- ---- members

module _ (child : Child) (c : Ctx) (t n : ℕ) (mem : List ℕ) where
  pub members-start : {tape txt : List ℕ} {s : Step} → Rest (members_from child c mem (t + 1) n) tape txt s (members_from child c mem (t + 1 + 0) (n - 0)) tape txt s
  members-start = rest_all (walks.members-all child c mem t n)

  pub members-again : {tape₁ tape₂ tape₃ txt₁ txt₂ txt₃ : List ℕ} {first here next : Step} (i : ℕ)
      → Rest (members_from child c mem (t + 1) n) tape₁ txt₁ first (members_from child c mem (t + 1 + i) (n - i)) tape₂ txt₂ here
      → i < n → From (member_of child c mem (t + 1 + i)) tape₂ txt₂ here next tape₃ txt₃
      → Rest (members_from child c mem (t + 1) n) tape₁ txt₁ first (members_from child c mem (t + 1 + (i + 1)) (n - (i + 1))) tape₃ txt₃ next
  members-again i q l v = rest-next q (walks.members-more child c mem t i n l) v

module _ (child : Child) (c : Ctx) (x : Typed) (n : ℕ) (mem : List ℕ) where
  module _ (e : n ≡ fields_of c.book x.resolved) {tape tape₁ tape₂ txt txt₁ txt₂ : List ℕ} {s first here : Step} (h : From (one (rec (declaring x.named (new_record 3 0 n 0)))) tape txt s first tape₁ txt₁) (i : ℕ)
      (q : Rest (members_from child c mem (x.resolved + 1) n) tape₁ txt₁ first (members_from child c mem (x.resolved + 1 + i) (n - i)) tape₂ txt₂ here) where
    pub members-end : {tape₃ txt₃ : List ℕ} {r : Step} → n ≤ i → From (one (rec (new_record 5 0 0 0))) tape₂ txt₂ here r tape₃ txt₃ → From (members_of child c x mem) tape txt s r tape₃ txt₃
    members-end l y = from_as (walks.members_of_lem child c mem x n e) (chain h (q.finish _ _ _ (from_as (walks.members-none child c mem x.resolved i n l) y)))

    -- a refusal leaves the loop at once
    pub members-stop : (k b : ℕ) → here ≡ Stop k b → From (members_of child c x mem) tape txt s here tape₂ txt₂
    members-stop k b z = from_as (walks.members_of_lem child c mem x n e) (chain h (q.finish here tape₂ txt₂ (from-held k b z)))

-- ---- map

module _ (child : Child) (c : Ctx) (x : Typed) (size : ℕ) (sz : size ≡ size_of c.book x.resolved) (mem : List ℕ) {tape txt : List ℕ} {s r : Step} where
  pub map_odd : (length mem ≡ size → ⊥) → Halts s 10 0 r → From (map_of child c x mem) tape txt s r tape txt
  map_odd o h = from_as (walks.map_odd child c mem x size sz o) (halted h)

  pub map-given : {tape' txt' : List ℕ} (plan : List ℕ) → length mem ≡ size → PlanServes c.book c.width x.resolved plan → 0 < length plan → From (members_of child c x mem) tape txt s r tape' txt' → From (map_of child c x mem) tape txt s r tape' txt'
  unfolding checked
  map-given plan ev g l h = from_as (walks.map_even child c mem x size sz ev check.Fine (sym (g.fine (λ z. absurd (omega arith))))) h

  module _ (ev : length mem ≡ size) (k : FieldsCheck) (before after : List ℕ) (p : FieldPlanIs c.book c.width x.resolved before k after) where
    pub map-fine : {tape' txt' : List ℕ} → k ≡ check.Fine → From (members_of child c x mem) tape txt s r tape' txt' → From (map_of child c x mem) tape txt s r tape' txt'
    unfolding checked
    map-fine e h = from_as (walks.map_even child c mem x size sz ev check.Fine (sym e ∙ check-is _ _ p.is)) h

    pub map-lacks : (b : ℕ) → k ≡ check.NotFound b → Halts s 7 b r → From (map_of child c x mem) tape txt s r tape txt
    unfolding checked
    map-lacks b e h = from_as (walks.map_even child c mem x size sz ev (check.NotFound b) (sym e ∙ check-is _ _ p.is) ∙ rw (check-lacks b)) (halted h)

    pub map-endless : k ≡ check.TooLong → Halts s 8 0 r → From (map_of child c x mem) tape txt s r tape txt
    unfolding checked
    map-endless e h = from_as (walks.map_even child c mem x size sz ev check.TooLong (sym e ∙ check-is _ _ p.is) ∙ rw check-long) (halted h)

-- ---- array

module _ (child : Child) (c : Ctx) (x : Typed) (size : ℕ) (sz : size ≡ size_of c.book x.resolved) (mem : List ℕ) {tape txt : List ℕ} {s r : Step} where
  pub array_odd : (length mem ≡ size → ⊥) → Halts s 10 0 r → From (array_of child c x mem) tape txt s r tape txt
  array_odd o h = from_as (walks.array_odd child c mem x size sz o) (halted h)

  module _ (ev : length mem ≡ size) (f : Option ℕ) (ef : found_numbers f ≡ found_numbers (find c.book (type_name_of c.book x.resolved))) where
    pub array-nothing : f ≡ None → Halts s 7 x.resolved r → From (array_of child c x mem) tape txt s r tape txt
    array-nothing e h = from_as (walks.array-nothing child c mem x size sz ev f (found-is _ _ ef) e) (halted h)

    module _ (n : ℕ) (en : f ≡ Some n) (k : Resolved) (q : ResolvedIs c.book (resolve_alias c.book c.width n) k) where
      pub array-lacks : (b : ℕ) → k ≡ resolved.NotFound b → Halts s 7 b r → From (array_of child c x mem) tape txt s r tape txt
      unfolding element_by
      array-lacks b e h = from_as (walks.array_at child c mem x size sz ev f (found-is _ _ ef) n en k (resolved-is _ _ q.is) ∙ rw (e, lacks-numbers b)) (halted h)

      pub array-endless : k ≡ resolved.TooLong → Halts s 8 0 r → From (array_of child c x mem) tape txt s r tape txt
      unfolding element_by
      array-endless e h = from_as (walks.array_at child c mem x size sz ev f (found-is _ _ ef) n en k (resolved-is _ _ q.is) ∙ rw (e, long-numbers)) (halted h)

      module _ (e : ℕ) (z : k ≡ resolved.Base e) (b : Bool) (p : b ≡ eqb (array_bytes c.book x.resolved e) (length mem)) where
        pub array-other : b ≡ false → Halts s 10 0 r → From (array_of child c x mem) tape txt s r tape txt
        unfolding element_by
        array-other h y = from_as (walks.array_at child c mem x size sz ev f (found-is _ _ ef) n en k (resolved-is _ _ q.is) ∙ rw (z, ← p, h)) (halted y)

        pub array-base : (w : AdsTypeCategory) → w ≡ category_of c.book c.width e → {tape' txt' : List ℕ} → b ≡ true
            → From (dimension_of child c x.named 0 x.resolved (record { named = n; resolved = e; category = w }) mem) tape txt s r tape' txt' → From (array_of child c x mem) tape txt s r tape' txt'
        unfolding element_by
        array-base w ew h y = from_as (walks.array_at child c mem x size sz ev f (found-is _ _ ef) n en k (resolved-is _ _ q.is) ∙ rw (z, ← p, h, ← ew)) y

-- ---- dimension

module _ (child : Child) (c : Ctx) (m d t : ℕ) (e : Typed) (mem : List ℕ) {tape txt : List ℕ} {s r : Step} (k : FieldsCheck) (before after : List ℕ) (p : ElementChecked c.book c.width d t e.resolved before k after) where
  pub dimension_fine : {tape' txt' : List ℕ} → k ≡ check.Fine → From (elements_of child c m d t e mem) tape txt s r tape' txt' → From (dimension_of child c m d t e mem) tape txt s r tape' txt'
  unfolding checked
  dimension_fine z h = from_as (walks.dimension_by child c mem m d t e check.Fine (sym z ∙ p.is)) h

  pub dimension_lacks : (b : ℕ) → k ≡ check.NotFound b → Halts s 7 b r → From (dimension_of child c m d t e mem) tape txt s r tape txt
  unfolding checked
  dimension_lacks b z h = from_as (walks.dimension_by child c mem m d t e (check.NotFound b) (sym z ∙ p.is) ∙ rw (check-lacks b)) (halted h)

  pub dimension_endless : k ≡ check.TooLong → Halts s 8 0 r → From (dimension_of child c m d t e mem) tape txt s r tape txt
  unfolding checked
  dimension_endless z h = from_as (walks.dimension_by child c mem m d t e check.TooLong (sym z ∙ p.is) ∙ rw check-long) (halted h)

-- ---- elements

module _ (child : Child) (book : List ℕ) (d t : ℕ) (e : Typed) (n : ℕ) (mem : List ℕ) where
  pub elements-start : {tape txt : List ℕ} {s : Step} → Rest (elements_from child (element_item book d t e) (stride_of book d t e.resolved) mem 0 n) tape txt s (elements_from child (element_item book d t e) (stride_of book d t e.resolved) mem 0 (n - 0)) tape txt s
  elements-start = rest_all (walks.elements-all child (element_item book d t e) mem (stride_of book d t e.resolved) n)

  pub elements-again : {tape₁ tape₂ tape₃ txt₁ txt₂ txt₃ : List ℕ} {first here next : Step} (stride from i : ℕ)
      → Rest (elements_from child (element_item book d t e) (stride_of book d t e.resolved) mem 0 n) tape₁ txt₁ first (elements_from child (element_item book d t e) (stride_of book d t e.resolved) mem from (n - i)) tape₂ txt₂ here
      → i < n → Along book d t e.resolved n stride from i (length mem) → From (child (element_item book d t e) (take (from + stride - from) (drop from mem))) tape₂ txt₂ here next tape₃ txt₃
      → Rest (elements_from child (element_item book d t e) (stride_of book d t e.resolved) mem 0 n) tape₁ txt₁ first (elements_from child (element_item book d t e) (stride_of book d t e.resolved) mem (from + stride) (n - (i + 1))) tape₃ txt₃ next
  elements-again stride from i q l a v =
      let z : from + stride - from ≡ stride = omega arith in
      let y : stride ≡ stride_of book d t e.resolved = a.step (omega arith) in
      rw y (rest-next q (walks.elements-more child (element_item book d t e) mem (stride_of book d t e.resolved) from i n l) (rw (z, y) at v))

module _ (child : Child) (c : Ctx) (m d t : ℕ) (e : Typed) (n : ℕ) (mem : List ℕ) where
  module _ (z : n ≡ count_of c.book t d) {tape tape₁ tape₂ txt txt₁ txt₂ : List ℕ} {s first here : Step} (h : From (one (rec (declaring m (new_record 1 0 n 0)))) tape txt s first tape₁ txt₁) (from i : ℕ)
      (q : Rest (elements_from child (element_item c.book d t e) (stride_of c.book d t e.resolved) mem 0 n) tape₁ txt₁ first (elements_from child (element_item c.book d t e) (stride_of c.book d t e.resolved) mem from (n - i)) tape₂ txt₂ here) where
    pub elements-end : {tape₃ txt₃ : List ℕ} {r : Step} → n ≤ i → From (one (rec (new_record 2 0 0 0))) tape₂ txt₂ here r tape₃ txt₃ → From (elements_of child c m d t e mem) tape txt s r tape₃ txt₃
    elements-end l x =
        from_as (walks.elements_of_lem child c mem m d t e n z)
        (chain h (q.finish _ _ _ (from_as (walks.elements-none child (element_item c.book d t e) mem (stride_of c.book d t e.resolved) from i n l) x)))

    pub elements-stop : (k b : ℕ) → here ≡ Stop k b → From (elements_of child c m d t e mem) tape txt s here tape₂ txt₂
    elements-stop k b y = from_as (walks.elements_of_lem child c mem m d t e n z) (chain h (q.finish here tape₂ txt₂ (from-held k b y)))

-- ---- element

module _ (c : Ctx) (left d t : ℕ) (e : Typed) (mem : List ℕ) {tape txt : List ℕ} {s r : Step} (b : Bool) (q : b ≡ is_last c.book d t) where
  pub element-last : {tape' txt' : List ℕ} → b ≡ true → From (read_walk c left (whole e) mem) tape txt s r tape' txt' → From (read_walk c left (element_item c.book d t e) mem) tape txt s r tape' txt'
  element-last h x = rw (item_last c.book d t e b q h) x

  pub element_deep : b ≡ false → left ≡ 0 → Halts s 14 0 r → From (read_walk c left (element_item c.book d t e) mem) tape txt s r tape txt
  element_deep h z x = from_as (walks.walk_deep c left mem (element_item c.book d t e) z) (halted x)

  pub element-further : {tape' txt' : List ℕ} → b ≡ false → (left ≡ 0 → ⊥) → From (dimension_of (read_walk c (left - 1)) c t (d + 1) t e mem) tape txt s r tape' txt'
      → From (read_walk c left (element_item c.book d t e) mem) tape txt s r tape' txt'
  element-further h n x = rw (item_further c.book d t e b q h) (from_as (walks.walk-further c left mem (d + 1) t e n) x)

-- ---- what calls ask

-- a type's fields and entries have numbers below 65,536
pub leaf-inside : (book : List ℕ) (t : ℕ) → ValidBook book → is_type book t ≡ true → t + fields_of book t + entries_of book t < 65536
leaf-inside book t v y = omega (arith, (valid-type book v t y).room, (valid-size book v).few)

pub field-number : (book : List ℕ) (t n i : ℕ) → ValidBook book → is_type book t ≡ true → n ≡ fields_of book t → i < n → Fits w32 (t + 1 + i)
field-number book t n i v y e l = record { fits = omega (arith, leaf-inside book t v y) }

pub field-first : (book : List ℕ) (t n i : ℕ) → ValidBook book → is_type book t ≡ true → n ≡ fields_of book t → i < n → Fits w32 (t + 1)
field-first book t n i v y e l = record { fits = omega (arith, leaf-inside book t v y) }

-- a type that was found is a type block, and so is what it resolves to
pub typed-found : (book : List ℕ) (b : ℕ) (f : Option ℕ) (n : ℕ) → found_numbers f ≡ found_numbers (find book (type_name_of book b)) → f ≡ Some n → is_type book n ≡ true
typed-found book b f n e h = found_type book (type_name_of book b) n (sym (found-is _ _ e) ∙ h)

pub typed-base : {book : List ℕ} {a r : Resolved} {e : ℕ} → ResolvedIs book a r → r ≡ resolved.Base e → is_type book e ≡ true
typed-base {e = e} h q = h.typed e q

-- a plan that was filled has its entries
pub own-entries : (book : List ℕ) (width t : ℕ) (k : FieldsCheck) (before after : List ℕ) → FieldPlanIs book width t before k after → k ≡ check.Fine → Entries book width t after
own-entries book width t k before after p z = p.entries z

-- the same for the elements of an array, none of whose fields is refused
pub own-elements : (c : Ctx) (d t e : ℕ) (k : FieldsCheck) (before after : List ℕ) → ElementChecked c.book c.width d t e before k after → k ≡ check.Fine → ReadElementPlan c d t e after
unfolding element_check shape_check
own-elements c d t e k before after p z =
    let h : element_check c.book c.width d t e ≡ check.Fine = sym p.is ∙ z in
    record { given = λ l. record { given = λ m. record { entries = p.entries z l m; fine = λ _. (rw (l, m) at h) } } }

-- in the last dimension what is given is given for the element
pub last-given : (c : Ctx) (d t e : ℕ) (plan : List ℕ) (b : Bool) → b ≡ is_last c.book d t → b ≡ true → ReadElementPlan c d t e plan → ReadPlan c e plan
last-given c d t e plan b q h g = g.given (sym q ∙ h)
