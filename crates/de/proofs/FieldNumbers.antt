-- A field that is a number, by its entry of a plan. Assumes nothing.
use mathlib.Core.Path.{◌≡◌, refl, ap, ◌∙◌}
use mathlib.Core.List.{List}
use Prim.Native.Nat.{ℕ, ◌+◌, ◌-◌, ◌/◌, ◌%◌, ◌≤◌}
use native.Mathlib.Omega.{arith}
use lib.ListN.{length, take, drop}
use borrow.Author.Tests.{le-leb}
use Rattle.type_book.specs.Book.{offset_of, size_of}
use Rattle.type_category.specs.Category.{category_of}
use Rattle.type_category.specs.Number.{category_at}
use Rattle.type_category.specs.declared.type_category.AdsTypeCategory.{AdsTypeCategory}
use Rattle.type_category.specs.declared.type_category.AdsTypeCategory.TheVariants as category
use Rattle.type_book_check.specs.Check.{ValidBook}
use Rattle.resolve_field_plan.specs.Plan.{FieldIs, PlanEntry}
use Rattle.resolve_field_plan.proofs.Plans.{entry_kept_lem}
use Rattle.tape_shape.specs.declared.Shape.TheVariants as shape
use Rattle.tape_shape.specs.Value.{shape_of}
use Rattle.tape.specs.Record.{new_record}
use Rattle.tape.specs.declared.record.Record.{Record}
use Rattle.tape_array_elements.specs.Element.{whole, cut, shape_at}
use Rattle.de_leaves.specs.declared.leaf.LeafKind.TheVariants as kind
use Rattle.de_leaves.specs.Leaf.{kind_of_leaf, leaf_at}
use Rattle.de_leaf_output.specs.declared.Typed.{Typed}
use Rattle.de_leaf_output.specs.Numbers.{NumberRecordIs}
use Rattle.de_output.specs.declared.Step.{Step}
use Rattle.de_output.specs.Trace.{rec, one, From}
use Rattle.de_output.proofs.Runs.{from_as, chain}
use Rattle.de.specs.Walk.{Ctx, ctx, leaf_of, field_value, member_of, shape_walk, read_walk}
use Rattle.de.specs.Plans.{field_trace, FieldNumber}
use Rattle.de.proofs.Walks as walks

pub none-field : {c : Ctx} {left f : ℕ} {mem : List ℕ} (r : Record) → r ≡ new_record 0 0 0 0 → FieldNumber c left f mem r
none-field r e = record { is = λ h. absurd (h (rw e)) }

-- what is read by its id is read as a whole
number-shape : (c : AdsTypeCategory) → kind_of_leaf c ≡ kind.Number → shape.Leaf ≡ shape_of c
number-shape category.None e = refl
number-shape category.Primitive e = refl
number-shape category.Alias e = refl
number-shape category.Enum e = refl
number-shape category.Array e = absurd (let z : ◌≡◌ {A = ℕ} 0 1 = cc in omega arith)
number-shape category.Struct e = absurd (let z : ◌≡◌ {A = ℕ} 0 1 = cc in omega arith)
number-shape category.FunctionBlock e = absurd (let z : ◌≡◌ {A = ℕ} 0 1 = cc in omega arith)
number-shape category.Program e = refl
number-shape category.Function e = refl
number-shape category.SubRange e = refl
number-shape category.String e = refl
number-shape category.Bitset e = refl
number-shape category.Pointer e = refl
number-shape category.Union e = absurd (let z : ◌≡◌ {A = ℕ} 0 1 = cc in omega arith)
number-shape category.Reference e = refl
number-shape category.Interface e = refl

-- a value that is a number, one level down
module _ (c : Ctx) (left : ℕ) (n : left ≡ 0 → ⊥) (x : Typed) (ex : x.category ≡ category_of c.book c.width x.resolved) (mem : List ℕ) (r : Record) (q : NumberRecordIs c.book x mem r) (h : r.kind ≡ 0 → ⊥) where
  pub value-number : read_walk c left (whole x) mem ≡ one (rec r)
  unfolding shape_walk leaf_of leaf_at shape_at
  value-number =
      let s : shape.Leaf ≡ shape_at c.book c.width x.resolved = number-shape x.category (q.number h) ∙ ap shape_of ex in
      walks.walk-shape c left mem x shape.Leaf n s ∙ rw (← ex) (q.is h c.width)

module _ (book : List ℕ) (width left f : ℕ) (mem : List ℕ) (e : ℕ) (v : ValidBook book) (k : PlanEntry book width f e) (n : e ≡ 0 → ⊥) (deep : left ≡ 0 → ⊥) where
  pub field_is : (o s : ℕ) → o ≡ offset_of book f → s ≡ size_of book f → o + s ≤ length mem → (y : AdsTypeCategory) → y ≡ category_at ((e - 1) % 16) → (r : Record)
      → NumberRecordIs book (record { named = (e - 1) / 1048576; resolved = (e - 1) / 16 % 65536; category = y }) (take (o + s - o) (drop o mem)) r → FieldNumber (ctx book width) left f mem r
  unfolding field_value
  field_is o s eo es l y ey r q =
      let p : FieldIs book width f (record { offset = o; size = s; named = (e - 1) / 1048576; resolved = (e - 1) / 16 % 65536; category = y }) = (entry_kept_lem book width f e v k n o s y eo es ey).field _ refl in
      let z : o + s - o ≡ s = omega arith in
      record {
        is = λ h.
            rw (p.found, p.offset-is, p.size_is, p.named-is, p.resolved-is, le-leb (o + s) (length mem) l, ← p.category-is)
            (value-number (ctx book width) left deep (record { named = (e - 1) / 1048576; resolved = (e - 1) / 16 % 65536; category = y }) p.category-is (cut o s mem) r (rw (← z) q) h);
      }

-- ---- member: its key, then its value

module _ (c : Ctx) (left : ℕ) (mem : List ℕ) (f : ℕ) {tape tape₁ tape₂ txt txt₁ txt₂ : List ℕ} {s k r : Step} (key : From (one (rec (new_record 4 0 f 0))) tape txt s k tape₁ txt₁) where
  pub member-field : From (field_trace (read_walk c left) c mem f) tape₁ txt₁ k r tape₂ txt₂ → From (member_of (read_walk c left) c mem f) tape txt s r tape₂ txt₂
  unfolding member_of
  member-field v = chain key v

  pub member-number : (x : Record) → FieldNumber c left f mem x → (x.kind ≡ 0 → ⊥) → From (one (rec x)) tape₁ txt₁ k r tape₂ txt₂ → From (member_of (read_walk c left) c mem f) tape txt s r tape₂ txt₂
  member-number x q h v = member-field (from_as (q.is h) v)
