-- Chains of aliases and references: where they end, and the turns of the loop that follows one. Assumes nothing.
use Rattle.std.specs.Prelude.{Option, Some, None}
use mathlib.Core.Path.{◌≡◌, refl, sym, ap, ◌∙◌}
use mathlib.Core.Bool.{Bool, true, false, not}
use mathlib.Core.List.{List}
use Prim.Native.Nat.{ℕ, zero, suc, ◌+◌, ◌-◌, ◌≤◌, ◌<◌}
use native.Mathlib.Omega.{arith}
use borrow.Author.Tests.{not-true, not-false}
use Rattle.type_book.specs.Book.{is_type, type_name_of}
use Rattle.type_provider.specs.Find.{find, found_numbers}
use Rattle.type_index.specs.Index.{FoundBy}
use Rattle.type_provider.proofs.Finds.{find-named, named-kind}
use Rattle.type_category.specs.declared.type_category.AdsTypeCategory.{AdsTypeCategory}
use Rattle.type_category.specs.declared.type_category.AdsTypeCategory.TheVariants as category
use Rattle.type_category.specs.Category.{category_of}
use Rattle.type_book_check.specs.Check.{ValidBook}
use Rattle.type_book_check.proofs.Valid.{valid-unique}
use Rattle.resolvers.specs.declared.Resolved.{Resolved}
use Rattle.resolvers.specs.declared.Resolved.TheVariants.{Base, NotFound, TooLong}
use Rattle.resolvers.proofs.Numbers.{resolved-says}
use Rattle.resolvers.specs.Resolve.{goes_on, is_followed, chain_onward, follow, resolve_alias, look_up, ResolvedIs, LookedUp}

-- ---- the categories that are followed

-- an alias is followed, and no other type where references are not
pub alias_followed : (references : Bool) (book : List ℕ) (width n : ℕ) → category_of book width n ≡ category.Alias → is_followed references book width n ≡ true
unfolding is_followed
alias_followed references book width n h = rw h

only-alias : (c : AdsTypeCategory) → goes_on false c ≡ true → c ≡ category.Alias
only-alias category.Alias h = refl
only-alias category.Reference h = cc
only-alias category.None h = cc
only-alias category.Primitive h = cc
only-alias category.Enum h = cc
only-alias category.Array h = cc
only-alias category.Struct h = cc
only-alias category.FunctionBlock h = cc
only-alias category.Program h = cc
only-alias category.Function h = cc
only-alias category.SubRange h = cc
only-alias category.String h = cc
only-alias category.Bitset h = cc
only-alias category.Pointer h = cc
only-alias category.Union h = cc
only-alias category.Interface h = cc

pub followed_alias : (book : List ℕ) (width n : ℕ) → is_followed false book width n ≡ true → category_of book width n ≡ category.Alias
unfolding is_followed
followed_alias book width n h = only-alias (category_of book width n) h

-- the category of block n, as the code asks for it
pub followed_is : (references : Bool) (book : List ℕ) (width n : ℕ) (c : AdsTypeCategory) → c ≡ category_of book width n
    → (r : Bool) → r ≡ goes_on references c → r ≡ is_followed references book width n
unfolding is_followed
followed_is references book width n c e r h = h ∙ rw e

-- ---- one look-up of a chain

module _ (goes : ℕ → Bool) (book : List ℕ) where
  pub follow-none : (t : ℕ) → follow goes book 0 t ≡ TooLong
  unfolding follow
  follow-none t = refl

  pub follow-base : (k t : ℕ) → goes t ≡ false → follow goes book (suc k) t ≡ Base t
  unfolding follow
  follow-base k t h = rw h

  pub follow-on : (k t u : ℕ) → goes t ≡ true → find book (type_name_of book t) ≡ Some u → follow goes book (suc k) t ≡ follow goes book k u
  unfolding follow chain_onward
  follow-on k t u h e = rw (h, e)

  pub follow-lacks : (k t : ℕ) → goes t ≡ true → find book (type_name_of book t) ≡ None → follow goes book (suc k) t ≡ NotFound t
  unfolding follow chain_onward
  follow-lacks k t h e = rw (h, e)

-- what is found is a type block
pub found_type : (book name : List ℕ) (u : ℕ) → find book name ≡ Some u → is_type book u ≡ true
found_type book name u e = named-kind book name u (find-named book name u e).named

-- ---- where a chain ends

-- a block that a chain from block t ends at does not go on, and is a type block if block t is one
pub record Ends (goes : ℕ → Bool) (book : List ℕ) (t u : ℕ) : Type 0 where
  pub stops : goes u ≡ false
  pub typed : is_type book t ≡ true → is_type book u ≡ true

-- a block whose type name is not found goes on, and is a type block if block t is one
pub record Breaks (goes : ℕ → Bool) (book : List ℕ) (t c : ℕ) : Type 0 where
  pub goes_on : goes c ≡ true
  pub nothing : find book (type_name_of book c) ≡ None
  pub typed : is_type book t ≡ true → is_type book c ≡ true

module _ (goes : ℕ → Bool) (book : List ℕ) where
  pub follow-ends : (k t u : ℕ) → follow goes book k t ≡ Base u → Ends goes book t u
  follow-ends zero t u e = absurd (let z = follow-none goes book t in let z : ◌≡◌ {A = ℕ} 0 1 = cc in omega arith)
  follow-ends (suc k) t u e = by (goes t) refl (find book (type_name_of book t)) refl (λ n. follow-ends k n u)
    where
      by : (g : Bool) → goes t ≡ g → (f : Option ℕ) → find book (type_name_of book t) ≡ f
          → ((n : ℕ) → follow goes book k n ≡ Base u → Ends goes book n u) → Ends goes book t u
      by false h f q ih =
          let z : follow goes book (suc k) t ≡ Base t = follow-base goes book k t h in
          let o : t ≡ u = cc in
          record { stops = rw (← o) h; typed = λ y. rw (← o) y }
      by true h (Some n) q ih =
          let r = ih n (sym (follow-on goes book k t n h q) ∙ e) in
          record { stops = r.stops; typed = λ y. r.typed (found_type book (type_name_of book t) n q) }
      by true h None q ih = absurd (let z = follow-lacks goes book k t h q in let z : ◌≡◌ {A = ℕ} 0 1 = cc in omega arith)

  pub follow_breaks : (k t c : ℕ) → follow goes book k t ≡ NotFound c → Breaks goes book t c
  follow_breaks zero t c e = absurd (let z = follow-none goes book t in let z : ◌≡◌ {A = ℕ} 0 1 = cc in omega arith)
  follow_breaks (suc k) t c e = by (goes t) refl (find book (type_name_of book t)) refl (λ n. follow_breaks k n c)
    where
      by : (g : Bool) → goes t ≡ g → (f : Option ℕ) → find book (type_name_of book t) ≡ f
          → ((n : ℕ) → follow goes book k n ≡ NotFound c → Breaks goes book n c) → Breaks goes book t c
      by false h f q ih = absurd (let z = follow-base goes book k t h in let z : ◌≡◌ {A = ℕ} 0 1 = cc in omega arith)
      by true h (Some n) q ih =
          let r = ih n (sym (follow-on goes book k t n h q) ∙ e) in
          record { goes_on = r.goes_on; nothing = r.nothing; typed = λ y. r.typed (found_type book (type_name_of book t) n q) }
      by true h None q ih =
          let z : follow goes book (suc k) t ≡ NotFound t = follow-lacks goes book k t h q in
          let o : t ≡ c = cc in
          record { goes_on = rw (← o) h; nothing = rw (← o) q; typed = λ y. rw (← o) y }

-- aliases resolved: the block is no alias; a block whose type name is not found is one
pub alias-ends : (book : List ℕ) (width t u : ℕ) → resolve_alias book width t ≡ Base u → category_of book width u ≡ category.Alias → ⊥
alias-ends book width t u e h =
    let a : is_followed false book width u ≡ true = alias_followed false book width u h in
    let b : is_followed false book width u ≡ false = (follow-ends (is_followed false book width) book 32 t u e).stops in
    let z : ◌≡◌ {A = ℕ} 0 1 = cc in
    omega arith

pub alias_breaks : (book : List ℕ) (width t c : ℕ) → resolve_alias book width t ≡ NotFound c → category_of book width c ≡ category.Alias
alias_breaks book width t c e = followed_alias book width c (follow_breaks (is_followed false book width) book 32 t c e).goes_on

-- ---- the look-up by an index, in a valid book

pub found-valid : (book : List ℕ) → ValidBook book → (name : List ℕ) (f : Option ℕ) → FoundBy book name f → found_numbers f ≡ found_numbers (find book name)
found-valid book v name f ef = ef.unique (valid-unique book v)

pub found-typed : (book : List ℕ) (b : ℕ) (f : Option ℕ) → f ≡ find book (type_name_of book b) → (u : ℕ) → f ≡ Some u → is_type book u ≡ true
found-typed book b f ef u h = found_type book (type_name_of book b) u (sym ef ∙ h)

-- ---- the loop of `follow`

module _ (references : Bool) (book : List ℕ) (width : ℕ) (whole : Resolved) (at i : ℕ)
    (inv : whole ≡ follow (is_followed references book width) book (32 - i) at) where
  pub chain-end : 32 ≤ i → ResolvedIs book whole TooLong
  chain-end h =
      let z : 32 - i ≡ 0 = omega arith in
      record {
        is = resolved-says _ _ (sym (inv ∙ rw z (follow-none (is_followed references book width) book at)));
        typed = λ u e. absurd (let z : ◌≡◌ {A = ℕ} 0 1 = cc in omega arith);
      }

  module _ (l : i < 32) (g : Bool) (eg : g ≡ is_followed references book width at) where
    turn : whole ≡ follow (is_followed references book width) book (suc (32 - (i + 1))) at
    turn = let q : 32 - i ≡ suc (32 - (i + 1)) = omega arith in inv ∙ ap (λ (n : ℕ). follow (is_followed references book width) book n at) q

    pub chain-base : not g ≡ true → is_type book at ≡ true → ResolvedIs book whole (Base at)
    chain-base h y =
        record {
          is = resolved-says _ _ (sym (turn ∙ follow-base (is_followed references book width) book (32 - (i + 1)) at (sym eg ∙ not-true g h)));
          typed = λ u e. let q : at ≡ u = cc in rw (← q) y;
        }

    module _ (h : not g ≡ false) (f : Option ℕ) (ef : f ≡ find book (type_name_of book at)) where
      goes_on_lem : is_followed references book width at ≡ true
      goes_on_lem = sym eg ∙ not-false g h

      pub chain-lacks : f ≡ None → ResolvedIs book whole (NotFound at)
      chain-lacks n =
          record {
            is = resolved-says _ _ (sym (turn ∙ follow-lacks (is_followed references book width) book (32 - (i + 1)) at goes_on_lem (sym ef ∙ n)));
            typed = λ u e. absurd (let z : ◌≡◌ {A = ℕ} 0 1 = cc in omega arith);
          }

      pub chain-again : (u : ℕ) → f ≡ Some u → whole ≡ follow (is_followed references book width) book (32 - (i + 1)) u
      chain-again u n = turn ∙ follow-on (is_followed references book width) book (32 - (i + 1)) at u goes_on_lem (sym ef ∙ n)

-- ---- the look-up of what a block names

module _ (book : List ℕ) (width b : ℕ) where
  pub look_at : (u : ℕ) → find book (type_name_of book b) ≡ Some u → look_up book width b ≡ resolve_alias book width u
  unfolding look_up chain_onward
  look_at u e = rw e

  pub look-nothing : find book (type_name_of book b) ≡ None → look_up book width b ≡ NotFound b
  unfolding look_up chain_onward
  look-nothing e = rw e

  -- what block b names is a type block; a block whose type name is not found is block b, or an alias on its chain
  pub look-typed : (u : ℕ) → look_up book width b ≡ Base u → is_type book u ≡ true
  look-typed u e = by (find book (type_name_of book b)) refl
    where
      by : (f : Option ℕ) → find book (type_name_of book b) ≡ f → is_type book u ≡ true
      by (Some n) q =
          (follow-ends (is_followed false book width) book 32 n u (sym (look_at n q) ∙ e)).typed (found_type book (type_name_of book b) n q)
      by None q = let z = look-nothing q in cc

  pub look-lacks : (c : ℕ) → look_up book width b ≡ NotFound c → find book (type_name_of book c) ≡ None
  look-lacks c e = by (find book (type_name_of book b)) refl
    where
      by : (f : Option ℕ) → find book (type_name_of book b) ≡ f → find book (type_name_of book c) ≡ None
      by (Some n) q = (follow_breaks (is_followed false book width) book 32 n c (sym (look_at n q) ∙ e)).nothing
      by None q = let z : look_up book width b ≡ NotFound b = look-nothing q in let o : b ≡ c = cc in rw (← o) q

  module _ (f : Option ℕ) (ef : f ≡ find book (type_name_of book b)) where
    pub looked_nothing : f ≡ None → LookedUp book width b (NotFound b)
    looked_nothing n =
        record {
          is = resolved-says _ _ (sym (look-nothing (sym ef ∙ n)));
          typed = λ u e. absurd (let z : ◌≡◌ {A = ℕ} 0 1 = cc in omega arith);
        }

    pub looked_at : (u : ℕ) → f ≡ Some u → (r : Resolved) → ResolvedIs book (resolve_alias book width u) r → LookedUp book width b r
    looked_at u n r q =
        record {
          is = q.is ∙ resolved-says _ _ (sym (look_at u (sym ef ∙ n)));
          typed = q.typed;
        }
