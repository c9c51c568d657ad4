-- Names that rise, and blocks that are all listed: then no two types have one name. Assumes nothing.
use mathlib.Core.Path.{◌≡◌, refl, sym, ◌∙◌}
use mathlib.Core.Bool.{Bool, true, false, not}
use mathlib.Core.List.{List}
use Prim.Native.Nat.{ℕ, zero, suc, max, ◌+◌, ◌-◌, ◌≤◌, ◌<◌}
use native.Mathlib.Omega.{arith}
use lib.Dec.{ltb}
use borrow.Author.Count.{below_more}
use borrow.Author.Tests.{ltb-true, ltb-false, not-false}
use Rattle.type_book.specs.Book.{blocks, is_type, name_of, is_named}
use Rattle.type_provider.proofs.Finds.{named-kind, named-name}
use Rattle.type_order.specs.declared.Order.TheVariants.{Distinct, Doubled, Unknown}
use Rattle.type_order.specs.Names.{Apart, OrderDecided, Less, LessAt}
use Rattle.type_order.specs.Ranks.{number_at, RisesTo, Listed, RankIs, RankedTo, RankedIs}
use Rattle.type_order.proofs.Names.{less_other, less_trans}

-- ---- names that rise

module _ (book order : List ℕ) where
  pub rises-one : RisesTo book order 1
  rises-one = record { first = omega arith; each = λ i l g. absurd (omega arith) }

  pub rises-more : (i : ℕ) → RisesTo book order i → (a b : ℕ) → a ≡ number_at order (i - 1) → b ≡ number_at order i → (t : Bool) → LessAt book a b t → not t ≡ false → RisesTo book order (i + 1)
  rises-more i r a b ea eb t l h =
      let here : Less (name_of book (number_at order (i - 1))) (name_of book (number_at order i)) = rw (← ea, ← eb) (l.is (not-false t h)) in
      record {
        first = omega arith;
        each = λ j p g. below_more (λ k. 0 < k → Less (name_of book (number_at order (k - 1))) (name_of book (number_at order k))) i (λ k x y. r.each k y x) (λ y. here) j g p;
      }

  -- all n names, where the places before i rise and i is past the last of them
  pub rises-all : (i n : ℕ) → RisesTo book order i → n ≤ i → (1 ≤ n → i ≤ n) → RisesTo book order (max 1 n)
  rises-all i zero r l h = rises-one
  rises-all i (suc n) r l h = let e : max 1 (suc n) ≡ i = omega (arith, h (omega arith)) in rw e r

  -- of two places the earlier one's name stands before the later one's
  module _ (r : ℕ) (rise : RisesTo book order r) where
    rising : (d i : ℕ) → i + suc d < r → Less (name_of book (number_at order i)) (name_of book (number_at order (i + suc d)))
    rising zero i l =
        let k : i + 1 - 1 ≡ i = omega arith in
        (rw k at (rise.each (i + 1) (omega arith) l))
    rising (suc d) i l =
        let k : i + suc (suc d) - 1 ≡ i + suc d = omega arith in
        less_trans _ _ _ (rising d i (omega arith)) (rw k at (rise.each (i + suc (suc d)) (omega arith) l))

    between : (i j : ℕ) → i < j → j < r → Less (name_of book (number_at order i)) (name_of book (number_at order j))
    between i j l g =
        let k : i + suc (j - i - 1) ≡ j = omega arith in
        (rw k at (rising (j - i - 1) i (rw k g)))

-- ---- blocks that are listed

module _ (book order : List ℕ) (n : ℕ) where
  pub ranked_none : RankedTo book order n 0
  ranked_none = record { all = λ b l. absurd (omega arith) }

  pub ranked_more : (m : ℕ) → RankedTo book order n m → (t : Bool) → RankIs book order n m t → not t ≡ false → RankedTo book order n (m + 1)
  ranked_more m r t e h = record { all = below_more (λ b. is_type book b ≡ true → Listed order n b) m r.all (e.is (not-false t h)) }

  pub ranked_never : RankedIs book order n false
  ranked_never = record { is = λ e. absurd (let z : ◌≡◌ {A = ℕ} 0 1 = cc in omega arith) }

  pub ranked_all : (m : ℕ) → RankedTo book order n m → (k : ℕ) → k ≡ blocks book → k ≤ m → RankedIs book order n true
  ranked_all m r k e l = record { is = λ u. record { all = λ b g. r.all b (omega arith) } }

-- ---- what is decided

module _ (book order : List ℕ) (n r : ℕ) (l : n ≤ r) (rise : RisesTo book order r) (listed : RankedTo book order n (blocks book)) where
  apart : (a b : ℕ) → a < b → Listed order n a → Listed order n b → name_of book a ≡ name_of book b → ⊥
  apart a b g p q e = by (ltb p.rank q.rank) refl
    where
      by : (t : Bool) → ltb p.rank q.rank ≡ t → ⊥
      by true h = less_other _ _ (rw (p.is, q.is) at (between book order r rise p.rank q.rank (ltb-true _ _ h) (omega arith))) e
      by false h =
          let no : p.rank ≡ q.rank → ⊥ = λ k. (let s : a ≡ b = sym p.is ∙ rw k q.is in omega arith) in
          let c : q.rank ≤ p.rank = ltb-false _ _ h in
          less_other _ _ (rw (q.is, p.is) at (between book order r rise q.rank p.rank (omega (arith, no)) (omega arith))) (sym e)

  are_apart : Apart book
  are_apart = record { all = λ a b g h u v e. apart a b g (listed.all a (omega arith) u) (listed.all b h v) e }

pub decided-apart : (book order : List ℕ) (n r : ℕ) → RisesTo book order r → n ≤ r → (t : Bool) → RankedIs book order n t → t ≡ true → OrderDecided book Distinct
decided-apart book order n r rise l t e h = record { holds = are_apart book order n r l rise (e.is h) }

pub decided_twice : (book name : List ℕ) (b : ℕ) (u : Bool) → u ≡ is_named book name b → u ≡ true → (a : ℕ) → name ≡ name_of book a → (t : Bool) → t ≡ is_type book a → t ≡ true → a < b → (k : ℕ) → k ≡ blocks book → b < k → OrderDecided book Doubled
decided_twice book name b u eu hu a en t et ht l k ek g =
    let is : is_named book name b ≡ true = sym eu ∙ hu in
    record {
      holds = record {
        one = a;
        two = b;
        before = l;
        inside = rw (← ek) g;
        kind = sym et ∙ ht;
        kind₂ = named-kind book name b is;
        same = named-name book name b is ∙ en;
      };
    }

pub decided-nothing : (book : List ℕ) → OrderDecided book Unknown
decided-nothing book = record { holds = tt }
