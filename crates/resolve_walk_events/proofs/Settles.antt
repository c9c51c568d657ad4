-- A new name's event: what its type comes to, and what is laid on the stack. Assumes nothing.
use mathlib.Core.Path.{◌≡◌, refl, sym, ◌∙◌}
use mathlib.Core.Bool.{Bool, true, false}
use mathlib.Core.List.{List}
use Prim.Native.Nat.{ℕ, ◌<◌}
use native.Mathlib.Omega.{arith}
use Rattle.type_book.specs.Book.{is_type, dimensions_of}
use Rattle.type_category.specs.declared.type_category.AdsTypeCategory.{AdsTypeCategory}
use Rattle.type_category.specs.Category.{category_of}
use Rattle.type_category.proofs.Categories.{alias-type}
use Rattle.resolvers.specs.declared.Resolved.{Resolved}
use Rattle.resolvers.specs.declared.Resolved.TheVariants.{Base, NotFound, TooLong}
use Rattle.resolvers.specs.Resolve.{goes_on, is_followed, resolve_alias, ResolvedIs}
use Rattle.resolvers.proofs.Chains.{follow-base, alias_breaks, follow_breaks}
use Rattle.resolvers.proofs.Numbers.{resolved-is}
use Rattle.resolve_walk_scratch.specs.Parts.{parts_of}
use Rattle.resolve_walk_scratch.specs.Scratch.{is_part, BlockMarked, MarkedAndPushed}
use Rattle.resolve_walk_scratch.proofs.Places.{part-dimensions}
use Rattle.resolve_walk_events.specs.declared.Event.TheVariants.{New}
use Rattle.resolve_walk_events.specs.declared.Event.TheVariants as event
use Rattle.resolve_walk_events.specs.Events.{settled_event, settled_on, Dead, Settles}

-- the alias at which a chain breaks is no part
pub alias-not-part : (book : List ℕ) (width t c : ℕ) → is_type book t ≡ true → resolve_alias book width t ≡ NotFound c → is_part book c ≡ false
alias-not-part book width t c y e =
    let k : is_type book c ≡ true = (follow_breaks (is_followed false book width) book 32 t c e).typed y in
    let d : dimensions_of book c ≡ 0 = (alias-type book c width (alias_breaks book width t c e)).dimensions in
    sym (part-dimensions book c true (sym k) refl (dimensions_of book c) refl) ∙ rw d

-- what a type of category c comes to, and its parts
expanded : (book : List ℕ) (width : ℕ) (sc : List ℕ) (depth t u : ℕ) (c : AdsTypeCategory) → c ≡ category_of book width u → resolve_alias book width t ≡ Base u
    → is_type book u ≡ true → {r : ℕ} {sc₂ : List ℕ} → MarkedAndPushed book c sc depth t u r sc₂ → Settles book width sc depth t (New u r c) sc₂
unfolding parts_of settled_event settled_on
expanded book width sc depth t u c ec to y g =
    record {
      so = record {
        kind = ec;
        to = to;
        typed = y;
        top = rw (← ec) g.top;
        marks = g.marks;
        more = g.more;
        few = g.few;
      };
      event = rw (to, ← ec, g.place);
      numbers = rw (to, ← ec) g.numbers;
    }

pub settle_own : (book : List ℕ) (width : ℕ) (sc : List ℕ) (depth t : ℕ) (c : AdsTypeCategory) → c ≡ category_of book width t → (g : Bool) → g ≡ goes_on false c → g ≡ false
    → is_type book t ≡ true → {r : ℕ} {sc₂ : List ℕ} → MarkedAndPushed book c sc depth t t r sc₂ → Settles book width sc depth t (New t r c) sc₂
unfolding is_followed
settle_own book width sc depth t c ec g eg h y =
    expanded book width sc depth t t c ec (follow-base (is_followed false book width) book 31 t (rw (← ec) (sym eg ∙ h))) y

module _ (book : List ℕ) (width : ℕ) (sc : List ℕ) (depth t : ℕ) (y : is_type book t ≡ true) (l : depth < 4096) {a : Resolved}
    (ra : ResolvedIs book (resolve_alias book width t) a) where
  pub settle_base : (u : ℕ) → a ≡ Base u → (c : AdsTypeCategory) → c ≡ category_of book width u → {r : ℕ} {sc₂ : List ℕ} → MarkedAndPushed book c sc depth t u r sc₂
      → Settles book width sc depth t (New u r c) sc₂
  settle_base u e c ec = expanded book width sc depth t u c ec (sym (resolved-is _ _ ra.is) ∙ e) (ra.typed u e)

  module _ {sc₁ : List ℕ} (m : BlockMarked sc t sc₁) where
    dead : Dead sc depth t depth sc₁
    dead = record { top = m.stack depth (omega arith); marks = m.marks; more = omega arith }

    pub settle_lacks : (c : ℕ) → a ≡ NotFound c → Settles book width sc depth t (event.NotFound c depth) sc₁
    unfolding settled_event settled_on
    settle_lacks c e =
        let q = sym (resolved-is _ _ ra.is) ∙ e in
        record { so = record { to = q; alias = alias-not-part book width t c y q; dead = dead }; event = rw q; numbers = rw q m.numbers }

    pub settle_long : a ≡ TooLong → Settles book width sc depth t (event.TooLong depth) sc₁
    unfolding settled_event settled_on
    settle_long e =
        let q = sym (resolved-is _ _ ra.is) ∙ e in
        record { so = record { to = q; dead = dead }; event = rw q; numbers = rw q m.numbers }

pub base-type : (book : List ℕ) (answer : Resolved) (u : ℕ) {a : Resolved} → ResolvedIs book answer a → a ≡ Base u → is_type book u ≡ true
base-type book answer u r h = r.typed u h
