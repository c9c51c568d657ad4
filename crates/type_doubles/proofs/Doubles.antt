-- Two types of one name: the hashes that were met are marked; one law for each way out of each function. Assumes nothing.
use mathlib.Core.Path.{◌≡◌, refl, sym, ◌∙◌}
use mathlib.Core.Bool.{Bool, true, false, not, ◌||◌}
use mathlib.Core.List.{List}
use Prim.Native.Nat.{ℕ, ◌+◌, ◌<◌}
use native.Mathlib.Omega.{arith}
use borrow.Author.Count.{below_more}
use borrow.Author.Tests.{not-true, not-false}
use Rattle.type_book.specs.Book.{blocks, is_type, name_of, is_named}
use Rattle.type_provider.proofs.Finds.{named-kind, named-name, named-own}
use Rattle.type_order.specs.declared.Order.{Order}
use Rattle.type_order.specs.declared.Order.TheVariants.{Distinct, Doubled}
use Rattle.type_order.specs.Names.{Apart, Twice, OrderDecided}
use Rattle.type_doubles.specs.Doubles.{all_from, is_other, is_first, distinct}
use Rattle.type_marks.specs.Marks.{hash_of, is_marked, Marked}
use Rattle.type_doubles.specs.Met.{MarkedTo, MetIs}
use Rattle.type_doubles.proofs.All.{all_of, each_of}

-- ---- comparing names
pub other-holds : (book name : List ℕ) (n : ℕ) (t : Bool) → t ≡ is_named book name n → t ≡ false → is_other book name n ≡ true
unfolding is_other
other-holds book name n t e h = rw (← e, h)

-- ---- the types met, by their marks
pub marked-none : (book marks : List ℕ) → MarkedTo book marks 0
marked-none book marks = record { all = λ m l. absurd (omega arith) }

-- a name whose hash is not marked is new
new : (book marks name : List ℕ) (n : ℕ) → MarkedTo book marks n → is_marked marks (hash_of name) ≡ false → (m : ℕ) → m < n → is_other book name m ≡ true
unfolding is_other
new book marks name n to free m l = by (is_named book name m) refl
  where
    by : (t : Bool) → is_named book name m ≡ t → not t ≡ true
    by false h = refl
    by true h =
        let k : is_marked marks (hash_of (name_of book m)) ≡ true = to.all m l (named-kind book name m h) in
        let f : is_marked marks (hash_of (name_of book m)) ≡ false = rw (named-name book name m h) free in
        sym f ∙ k

module _ (book marks : List ℕ) (n : ℕ) (to : MarkedTo book marks n) where
  one_more : (marks' : List ℕ) → ((u : ℕ) → is_marked marks u ≡ true → is_marked marks' u ≡ true) → (is_type book n ≡ true → is_marked marks' (hash_of (name_of book n)) ≡ true) → MarkedTo book marks' (n + 1)
  one_more marks' kept here =
      record { all = below_more (λ m. is_type book m ≡ true → is_marked marks' (hash_of (name_of book m)) ≡ true) n (λ m l h. kept _ (to.all m l h)) here }

  module _ (t : Bool) (e : t ≡ is_type book n) where
    pub met-field : not t ≡ true → MetIs book n false marks
    unfolding is_first
    met-field h =
        let no : is_type book n ≡ false = sym e ∙ not-true t h in
        record {
          new = λ k. rw no;
          marked = one_more marks (λ u k. k) (λ k. cc);
        }

    module _ (h : not t ≡ false) (name : List ℕ) (q : name ≡ name_of book n) (s : ℕ) (o : s ≡ hash_of name) (g : Bool) (w : g ≡ is_marked marks s) where
      yes : is_type book n ≡ true
      yes = sym e ∙ not-false t h

      pub met-new : g ≡ false → (marks' : List ℕ) → Marked marks s marks' → MetIs book n false marks'
      unfolding is_first
      met-new k marks' m =
          record {
            new = λ v. rw (yes, ← q) (all_of _ n (new book marks name n to (rw (← o, ← w) k)));
            marked = one_more marks' m.kept (λ v. rw (← q, ← o) m.here);
          }

-- ---- what an order of the names decides
first-apart : (book : List ℕ) → Apart book → (n : ℕ) → n < blocks book → is_first book n ≡ true
unfolding is_first is_other
first-apart book apart n l = by (is_type book n) refl
  where
    other : is_type book n ≡ true → (m : ℕ) → m < n → (t : Bool) → is_named book (name_of book n) m ≡ t → not t ≡ true
    other k m g false h = refl
    other k m g true h = absurd (apart.all m n g l (named-kind book _ m h) k (named-name book _ m h))

    by : (t : Bool) → is_type book n ≡ t → not t || all_from (is_other book (name_of book n)) 0 n ≡ true
    by false k = refl
    by true k = all_of _ n (λ m g. other k m g _ refl)

pub distinct_apart : (book : List ℕ) → (d : Order) → OrderDecided book d → d ≡ Distinct → true ≡ distinct book
distinct_apart book d is e =
    let h : OrderDecided book Distinct = rw (← e) is in
    sym (all_of _ (blocks book) (first-apart book h.holds))

first_twice : (book : List ℕ) (two : Twice book) → is_first book two.two ≡ true → ⊥
unfolding is_first is_other
first_twice book two h =
    let all : all_from (is_other book (name_of book two.two)) 0 two.two ≡ true = (rw two.kind₂ at h) in
    let no : not (is_named book (name_of book two.two) two.one) ≡ true = each_of _ two.two all two.one two.before in
    let yes : is_named book (name_of book two.two) two.one ≡ true = rw two.same (named-own book two.one two.kind) in
    let z : ◌≡◌ {A = Bool} false true = (rw yes at no) in
    let y : ◌≡◌ {A = ℕ} 0 1 = cc in
    omega arith

pub distinct_twice : (book : List ℕ) → (d : Order) → OrderDecided book d → d ≡ Doubled → false ≡ distinct book
distinct_twice book d is e = by (distinct book) refl
  where
    two : Twice book
    two = let h : OrderDecided book Doubled = rw (← e) is in h.holds

    by : (t : Bool) → distinct book ≡ t → false ≡ distinct book
    by false k = sym k
    by true k = absurd (first_twice book two (each_of _ (blocks book) k two.two two.inside))
