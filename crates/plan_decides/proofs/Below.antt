-- What holds of each block that names what a type of a book is made of holds of each listed block; so that it is a block of the book.
-- Assumes nothing.
use Rattle.std.specs.Prelude.{Option, Some, None}
use mathlib.Core.Path.{◌≡◌, refl, sym, ap, ◌∙◌, subst}
use mathlib.Core.Bool.{true, false}
use mathlib.Core.List.Memᴰ
use mathlib.Core.List.{List, [], ◌∷◌, ◌++◌, Memᴰ}
use mathlib.Core.Logic.{⊎_elim}
use Prim.Native.Nat.{ℕ, zero, suc, ◌+◌, ◌<◌}
use native.Mathlib.Omega.{arith}
use borrow.Author.Tests.{eqb-true}
use Rattle.type_book.specs.Book.{blocks, is_type, fields_of, name_of, type_name_of}
use Rattle.type_provider.specs.Find.{find}
use Rattle.type_category.specs.Category.{category_of}
use Rattle.type_book_check.specs.Check.{ValidBook}
use Rattle.type_book_check.proofs.Valid.{valid-type, valid-below, valid-own}
use Rattle.resolvers.specs.declared.Resolved.{Resolved}
use Rattle.resolvers.specs.declared.Resolved.TheVariants.{Base, NotFound, TooLong}
use Rattle.resolvers.specs.Resolve.{is_followed, chain_onward, resolve_alias}
use Rattle.resolvers.proofs.Chains.{found_type, follow-ends, follow_breaks}
use Rattle.resolve_walk_scratch.specs.declared.ScratchParts.{ScratchParts}
use Rattle.resolve_walk_scratch.specs.declared.ScratchParts.TheVariants as parts
use Rattle.resolve_walk_scratch.specs.Parts.{parts_kind, blocks_after, parts_in, parts_of}
use Rattle.resolve_walk.specs.Walk.{Walk, over, full, met, comes_to, push, meet, walk, walk_of}
use Rattle.resolve_walk.specs.Reads.{listed}
use Rattle.resolve_walk.proofs.Goes.{Goes, goes}

listed_cases : (c b : ℕ) (x : List ℕ) (f : Resolved) (w : Walk) {X : Type 0} → Memᴰ c (listed (met b x f w)) → (f ≡ NotFound c → X) → (Memᴰ c (listed w) → X) → X
unfolding listed
listed_cases c b x (Base t) w m p q = q m
listed_cases c b x (NotFound d) w m p q = ⊎_elim (λ e. p (ap NotFound (sym e))) q (Memᴰ.cases_cons m)
listed_cases c b x TooLong w m p q = q m

over_none : (c : ℕ) → Memᴰ c (listed over) → ⊥
unfolding listed
over_none c m = Memᴰ.not-nil m

full-none : (c b : ℕ) (x : List ℕ) → Memᴰ c (listed (full b x)) → ⊥
unfolding listed
full-none c b x m = Memᴰ.not-nil m

in_after : (t k b : ℕ) → Memᴰ b (blocks_after t k) → b < t + 1 + k
unfolding blocks_after
in_after t zero b m = absurd (Memᴰ.not-nil m)
in_after t (suc k) b m = ⊎_elim (λ e. omega arith) (λ n. let r = in_after t k b n in omega (arith, r)) (Memᴰ.cases_cons m)

lacks-apart : (c u : ℕ) → Base u ≡ NotFound c → ⊥
lacks-apart c u e = let z : ◌≡◌ {A = ℕ} 0 1 = cc in omega arith

found-apart : (n : ℕ) → Some n ≡ None → ⊥
found-apart n e = let z : ◌≡◌ {A = ℕ} 0 1 = cc in omega arith

lacks-same : (b c : ℕ) → NotFound b ≡ NotFound c → b ≡ c
lacks-same b c e = cc

module _ (book : List ℕ) (width : ℕ) (v : ValidBook book) where
  type-below : (t : ℕ) → is_type book t ≡ true → t < blocks book
  type-below t y = valid-below book v t 0 (eqb-true _ _ y)

  parts_below : (t : ℕ) → is_type book t ≡ true → (b : ℕ) → Memᴰ b (parts_of book width t) → b < blocks book
  unfolding parts_of parts_in
  parts_below t y b m = by (parts_kind (category_of book width t)) m
    where
      by : (k : ScratchParts) → Memᴰ b (parts_in book t k) → b < blocks book
      by parts.Element m = let q : b ≡ t = Memᴰ.eq_of_singleton m in omega (arith, type-below t y)
      by parts.Fields m = omega (arith, in_after t (fields_of book t) b m, (valid-type book v t y).room)
      by parts.Nothing m = absurd (Memᴰ.not-nil m)

  -- what holds of the parts of each type, and of each alias
  module _ (P : ℕ → Type 0) (of_parts : (t : ℕ) → is_type book t ≡ true → (b : ℕ) → Memᴰ b (parts_of book width t) → P b)
      (of-alias : (t : ℕ) → is_type book t ≡ true → is_followed false book width t ≡ true → P t) where
    either : (xs ys : List ℕ) → ((b : ℕ) → Memᴰ b xs → P b) → ((b : ℕ) → Memᴰ b ys → P b) → (b : ℕ) → Memᴰ b (xs ++ ys) → P b
    either [] ys p q b m = q b m
    either (x ∷ xs) ys p q b m =
        ⊎_elim (λ e. p b (Memᴰ.head e)) (λ n. either xs ys (λ d k. p d (Memᴰ.tail k)) q b n) (Memᴰ.cases_cons m)

    -- what a name comes to is a type block of the book, or breaks off at an alias of it, or at once
    comes_typed : (b u : ℕ) (f : Option ℕ) → find book (type_name_of book b) ≡ f → comes_to book width b f ≡ Base u → is_type book u ≡ true
    unfolding chain_onward
    comes_typed b u (Some t) q e = (follow-ends (is_followed false book width) book 32 t u e).typed (found_type book (type_name_of book b) t q)
    comes_typed b u None q e = absurd (lacks-apart b u (sym e))

    chain_breaks : (t c : ℕ) → is_type book t ≡ true → resolve_alias book width t ≡ NotFound c → P c
    chain_breaks t c y e =
        let r = follow_breaks (is_followed false book width) book 32 t c e in
        of-alias c (r.typed y) r.goes_on

    comes_to_lem : (b c : ℕ) → P b → (f : Option ℕ) → find book (type_name_of book b) ≡ f → comes_to book width b f ≡ NotFound c → P c
    unfolding chain_onward
    comes_to_lem b c h (Some t) q e = chain_breaks t c (found_type book (type_name_of book b) t q) e
    comes_to_lem b c h None q e = subst (λ (x : ℕ). P x) (lacks-same b c e) h

    push-all : (s : List ℕ) (r : Resolved) → ((u : ℕ) → r ≡ Base u → is_type book u ≡ true) → ((b : ℕ) → Memᴰ b s → P b)
        → (b : ℕ) → Memᴰ b (push book width r s) → P b
    unfolding push
    push-all s (Base t) y p b m = either (parts_of book width t) s (of_parts t (y t refl)) p b m
    push-all s (NotFound d) y p b m = p b m
    push-all s TooLong y p b m = p b m

    goes-all : {left : ℕ} {vs : List (List ℕ)} {s : List ℕ} {w : Walk} → Goes book width left vs s w → ((b : ℕ) → Memᴰ b s → P b)
        → (c : ℕ) → Memᴰ c (listed w) → P c
    goes-all Goes.none p c m = absurd (over_none c m)
    goes-all (Goes.old e g) p c m = goes-all g (λ b k. p b (Memᴰ.tail k)) c m
    goes-all (Goes.fresh {left} {b} {v = vs} {s} {w} e g) p c m =
        listed_cases c b (type_name_of book b) (comes_to book width b (find book (type_name_of book b))) w m
        (λ q. comes_to_lem b c (p b (Memᴰ.head refl)) (find book (type_name_of book b)) refl q)
        (λ n. goes-all g
        (push-all s (comes_to book width b (find book (type_name_of book b))) (λ u k. comes_typed b u (find book (type_name_of book b)) refl k) (λ d k. p d (Memᴰ.tail k))) c n)
    goes-all (Goes.stop {b} e) p c m = absurd (full-none c b (type_name_of book b) m)

    module _ (root : ℕ) (y : is_type book root ≡ true) where
      root-typed : (u : ℕ) (f : Option ℕ) → find book (name_of book root) ≡ f → comes_to book width root f ≡ Base u → is_type book u ≡ true
      unfolding chain_onward
      root-typed u (Some t) q e = (follow-ends (is_followed false book width) book 32 t u e).typed (found_type book (name_of book root) t q)
      root-typed u None q e = absurd (lacks-apart root u (sym e))

      root-to : (c : ℕ) (f : Option ℕ) → find book (name_of book root) ≡ f → comes_to book width root f ≡ NotFound c → P c
      unfolding chain_onward
      root-to c (Some t) q e = chain_breaks t c (found_type book (name_of book root) t q) e
      root-to c None q e = absurd (found-apart root (sym (valid-own book v root y) ∙ q))

      pub listed-all : (c : ℕ) → Memᴰ c (listed (walk_of book width root)) → P c
      unfolding walk_of meet
      listed-all c m =
          let name = name_of book root in
          let r = comes_to book width root (find book name) in
          listed_cases c root name r (walk book width 4095 (name ∷ []) (push book width r [])) m
          (λ q. root-to c (find book name) refl q)
          (λ n. goes-all (goes book width 4095 (name ∷ []) (push book width r []))
          (push-all [] r (λ u k. root-typed u (find book name) refl k) (λ b k. absurd (Memᴰ.not-nil k))) c n)

  pub listed_below : (root : ℕ) → is_type book root ≡ true → (c : ℕ) → Memᴰ c (listed (walk_of book width root)) → c < blocks book
  listed_below root y = listed-all (λ (b : ℕ). b < blocks book) parts_below (λ t k e. type-below t k) root y
