-- What a walk lists, and what is needed: a listed block names a needed name that the book lacks; where the walk is whole, each reached name
-- that comes to nothing is listed; where it moreover lists nothing, every needed name is found. Assumes nothing.
use Rattle.std.specs.Prelude.{Option, Some, None}
use mathlib.Core.Path.{◌≡◌, refl, sym, ap, ◌∙◌}
use mathlib.Core.Bool.{Bool, true, false}
use mathlib.Core.Logic.{⊎_elim}
use mathlib.Core.List.Memᴰ
use mathlib.Core.List.{List, [], ◌∷◌, Memᴰ}
use Prim.Native.Nat.{ℕ, zero, suc}
use native.Mathlib.Omega.{arith}
use Rattle.type_book.specs.Book.{is_type, name_of, type_name_of}
use Rattle.type_provider.specs.Find.{find}
use Rattle.type_book_check.specs.Check.{ValidBook}
use Rattle.type_book_check.proofs.Valid.{valid-own}
use Rattle.resolvers.specs.declared.Resolved.{Resolved}
use Rattle.resolvers.specs.declared.Resolved.TheVariants.{Base, NotFound, TooLong}
use Rattle.resolvers.specs.Resolve.{is_followed, chain_onward, follow, resolve_alias}
use Rattle.resolvers.proofs.Chains.{follow-none, follow-base, follow-on, follow-lacks, follow_breaks}
use Rattle.resolve_walk.specs.Walk.{Walk, over, full, met, comes_to, push, meet, walk, walk_of}
use Rattle.resolve_walk.specs.Reads.{names, listed, whole}
use Rattle.resolve_walk.specs.Reached.{Reached, Needed, reached, chain}
use Rattle.resolve_walk.proofs.Goes.{Goes, none, old, fresh, stop, goes}
use Rattle.resolve_walk.proofs.Reach.{whole-rest, met-is-reached, reached-met, reached-found}
use Rattle.resolve_missing_types.specs.Needs.{Lacking, Unresolved, Listing, Defined}

different : {X : Type 0} → ◌≡◌ {A = ℕ} 0 1 → X
different z = absurd (omega arith)

-- ---- needed names, chain by chain

-- a name is found, and its chain ends in at most `looks` look-ups
record Ending (book : List ℕ) (width : ℕ) (x : List ℕ) : Type 0 where
  at : ℕ
  to : ℕ
  looks : ℕ
  found : find book x ≡ Some at
  ends : follow (is_followed false book width) book looks at ≡ Base to

module _ (book : List ℕ) (width : ℕ) where
  -- so is the next name on its chain
  next-ends : (t : ℕ) → is_followed false book width t ≡ true → (k u : ℕ) → follow (is_followed false book width) book k t ≡ Base u → Ending book width (type_name_of book t)
  next-ends t g zero u e = let z = follow-none (is_followed false book width) book t in different cc
  next-ends t g (suc k) u e = by (find book (type_name_of book t)) refl
    where
      by : (f : Option ℕ) → find book (type_name_of book t) ≡ f → Ending book width (type_name_of book t)
      by (Some n) q = record { at = n; to = u; looks = k; found = q; ends = sym (follow-on (is_followed false book width) book k t n g q) ∙ e }
      by None q = let z = follow-lacks (is_followed false book width) book k t g q in different cc

  -- the name at which a needed name's chain breaks is needed
  break_needed : (root : List ℕ) (k : ℕ) (x : List ℕ) (t c : ℕ) → Needed book width root x → find book x ≡ Some t → follow (is_followed false book width) book k t ≡ NotFound c → Needed book width root (type_name_of book c)
  break_needed root zero x t c n f e = let z = follow-none (is_followed false book width) book t in different cc
  break_needed root (suc k) x t c n f e =
      by (is_followed false book width t) refl (find book (type_name_of book t)) refl (λ m u. break_needed root k (type_name_of book t) u c m)
    where
      by : (g : Bool) → is_followed false book width t ≡ g → (q : Option ℕ) → find book (type_name_of book t) ≡ q
          → (Needed book width root (type_name_of book t) → (u : ℕ) → find book (type_name_of book t) ≡ Some u → follow (is_followed false book width) book k u ≡ NotFound c → Needed book width root (type_name_of book c))
          → Needed book width root (type_name_of book c)
      by false g q h ih = let z = follow-base (is_followed false book width) book k t g in different cc
      by true g (Some u) h ih = ih (chain n f g refl) u h (sym (follow-on (is_followed false book width) book k t u g h) ∙ e)
      by true g None h ih =
          let z = follow-lacks (is_followed false book width) book k t g h in
          let o : t ≡ c = cc in
          chain n f g (ap (type_name_of book) (sym o))

-- ---- what is listed

listed_cases : (c b : ℕ) (x : List ℕ) (f : Resolved) (w : Walk) {X : Type 0} → Memᴰ c (listed (met b x f w)) → (f ≡ NotFound c → X) → (Memᴰ c (listed w) → X) → X
unfolding listed
listed_cases c b x (Base t) w m p q = q m
listed_cases c b x (NotFound d) w m p q = ⊎_elim (λ e. p (ap NotFound (sym e))) q (Memᴰ.cases_cons m)
listed_cases c b x TooLong w m p q = q m

over_none : (c : ℕ) → Memᴰ c (listed over) → ⊥
unfolding listed
over_none c m = Memᴰ.not-nil m

full-none : (c b : ℕ) (x : List ℕ) → Memᴰ c (listed (full b x)) → ⊥
unfolding listed
full-none c b x m = Memᴰ.not-nil m

listed-rest : (c b : ℕ) (x : List ℕ) (f : Resolved) (w : Walk) → Memᴰ c (listed w) → Memᴰ c (listed (met b x f w))
unfolding listed
listed-rest c b x (Base t) w m = m
listed-rest c b x (NotFound d) w m = Memᴰ.tail m
listed-rest c b x TooLong w m = m

listed_here : (c b : ℕ) (x : List ℕ) (f : Resolved) (w : Walk) → f ≡ NotFound c → Memᴰ c (listed (met b x f w))
unfolding listed
listed_here c b x f w e = rw e (Memᴰ.head refl)

module _ (book : List ℕ) (width : ℕ) (root : List ℕ) where
  -- a reached name of block b that comes to nothing at block c
  comes_lacking : (b c : ℕ) → Reached book width root (type_name_of book b) → (f : Option ℕ) → find book (type_name_of book b) ≡ f → comes_to book width b f ≡ NotFound c → Unresolved book book width root c
  unfolding chain_onward
  comes_lacking b c r (Some t) q e =
      record {
        lacking = (follow_breaks (is_followed false book width) book 32 t c e).nothing;
        needed = break_needed book width root 32 (type_name_of book b) t c (reached r) q e;
      }
  comes_lacking b c r None q e =
      let o : b ≡ c = cc in
      rw (← o) (record { lacking = q; needed = reached r })

  list-lacking : {left : ℕ} {v : List (List ℕ)} {s : List ℕ} {w : Walk} → Goes book width left v s w → ((x : List ℕ) → Memᴰ x (names w) → Reached book width root x)
      → (c : ℕ) → Memᴰ c (listed w) → Unresolved book book width root c
  unfolding names
  list-lacking none h c m = absurd (over_none c m)
  list-lacking (old e g) h c m = list-lacking g h c m
  list-lacking (fresh {left} {b} {v} {s} {w} e g) h c m =
      listed_cases c b (type_name_of book b) (comes_to book width b (find book (type_name_of book b))) w m
      (λ q. comes_lacking b c (h (type_name_of book b) (Memᴰ.head refl)) (find book (type_name_of book b)) refl q)
      (λ n. list-lacking g (λ x k. h x (Memᴰ.tail k)) c n)
  list-lacking (stop {b} e) h c m = absurd (full-none c b (type_name_of book b) m)

-- a listed block is one of a reached name that the book lacks: by its own name, or by the last alias of its chain
module _ (book : List ℕ) (width root : ℕ) (v : ValidBook book) (y : is_type book root ≡ true) where
  pub listed-lacking : (c : ℕ) → Memᴰ c (listed (walk_of book width root)) → Unresolved book book width (name_of book root) c
  unfolding walk_of meet names chain_onward
  listed-lacking c m =
      let own : find book (name_of book root) ≡ Some root = valid-own book v root y in
      let name = name_of book root in
      listed_cases c root name (comes_to book width root (find book name)) (walk book width 4095 (name ∷ []) (push book width (comes_to book width root (find book name)) [])) m
      (λ q.
      let e : resolve_alias book width root ≡ NotFound c = ap (comes_to book width root) (sym own) ∙ q in
      record {
        lacking = (follow_breaks (is_followed false book width) book 32 root c e).nothing;
        needed = break_needed book width name 32 name root c (reached (met-is-reached book width root name (Memᴰ.head refl))) own e;
      })
      (λ n. list-lacking book width name (goes book width 4095 (name ∷ []) _) (λ x k. met-is-reached book width root x (Memᴰ.tail k)) c n)

-- ---- where the walk is whole and lists nothing, every needed name is found

module _ (book : List ℕ) (width root : ℕ) (h : whole (walk_of book width root) ≡ true) (l : listed (walk_of book width root) ≡ []) where
  needed-ends : {x : List ℕ} → Needed book width (name_of book root) x → Ending book width x
  needed-ends (reached {x} r) =
      let q = reached-found book width root h l x r in
      record { at = q.at; to = q.to; looks = 32; found = q.found; ends = q.base }
  needed-ends (chain {x} {y} {t} n f g e) =
      let q = needed-ends n in
      let o : q.at ≡ t = let p : Some q.at ≡ Some t = sym q.found ∙ f in cc in
      rw e (next-ends book width t g q.looks q.to (rw (← o) q.ends))

  pub needed-found : (x : List ℕ) → Needed book width (name_of book root) x → Defined book x
  needed-found x n = let q = needed-ends n in record { at = q.at; found = q.found }

-- ---- where the walk is whole, each reached name that comes to nothing is listed

module _ (book : List ℕ) (width : ℕ) where
  rest-listing : (b : ℕ) (y : List ℕ) (f : Resolved) (w : Walk) (x : List ℕ) → Listing book (listed w) x → Listing book (listed (met b y f w)) x
  rest-listing b y f w x q = record { block = q.block; member = listed-rest q.block b y f w q.member; names_it_lem = q.names_it_lem }

  goes-listing : {left : ℕ} {v : List (List ℕ)} {s : List ℕ} {w : Walk} → Goes book width left v s w → whole w ≡ true → (x : List ℕ) → Memᴰ x (names w) → find book x ≡ None → Listing book (listed w) x
  unfolding names whole chain_onward
  goes-listing none h x m q = absurd (Memᴰ.not-nil m)
  goes-listing (old e g) h x m q = goes-listing g h x m q
  goes-listing (fresh {left} {b} {v} {s} {w} e g) h x m q =
      let y = type_name_of book b in
      let f = comes_to book width b (find book y) in
      ⊎_elim
      (λ o. record { block = b; member = listed_here b b y f w (ap (comes_to book width b) (ap (find book) (sym o) ∙ q)); names_it_lem = sym o })
      (λ n. rest-listing b y f w x (goes-listing g (whole-rest b y f w h) x n q))
      (Memᴰ.cases_cons m)
  goes-listing (stop e) h x m q = different cc

  goes_broken : {left : ℕ} {v : List (List ℕ)} {s : List ℕ} {w : Walk} → Goes book width left v s w → whole w ≡ true → (x : List ℕ) → Memᴰ x (names w)
      → (t c : ℕ) → find book x ≡ Some t → resolve_alias book width t ≡ NotFound c → Memᴰ c (listed w)
  unfolding names whole chain_onward
  goes_broken none h x m t c q k = absurd (Memᴰ.not-nil m)
  goes_broken (old e g) h x m t c q k = goes_broken g h x m t c q k
  goes_broken (fresh {left} {b} {v} {s} {w} e g) h x m t c q k =
      let y = type_name_of book b in
      let f = comes_to book width b (find book y) in
      ⊎_elim
      (λ o. listed_here c b y f w (ap (comes_to book width b) (ap (find book) (sym o) ∙ q) ∙ k))
      (λ n. listed-rest c b y f w (goes_broken g (whole-rest b y f w h) x n t c q k))
      (Memᴰ.cases_cons m)
  goes_broken (stop e) h x m t c q k = different cc

module _ (book : List ℕ) (width root : ℕ) (h : whole (walk_of book width root) ≡ true) (x : List ℕ) (r : Reached book width (name_of book root) x) where
  -- a reached name whose chain breaks at block c: block c is listed
  pub broken_listed : (t c : ℕ) → find book x ≡ Some t → resolve_alias book width t ≡ NotFound c → Memᴰ c (listed (walk_of book width root))
  unfolding walk_of meet names chain_onward
  broken_listed t c q k =
      let y = name_of book root in
      let f = comes_to book width root (find book y) in
      let w = walk book width 4095 (y ∷ []) (push book width f []) in
      ⊎_elim
      (λ o. listed_here c root y f w (ap (comes_to book width root) (ap (find book) (sym o) ∙ q) ∙ k))
      (λ n. listed-rest c root y f w (goes_broken book width (goes book width 4095 (y ∷ []) _) (whole-rest root y f w h) x n t c q k))
      (Memᴰ.cases_cons (reached-met book width root h r))

  -- a reached name that the book lacks, in a valid book: a block that names it is listed
  pub lacking-listed : ValidBook book → is_type book root ≡ true → Lacking book x → Listing book (listed (walk_of book width root)) x
  unfolding walk_of meet names
  lacking-listed v t q =
      let y = name_of book root in
      let f = comes_to book width root (find book y) in
      let w = walk book width 4095 (y ∷ []) (push book width f []) in
      ⊎_elim
      (λ o. let z : find book y ≡ Some root = valid-own book v root t in let n : find book y ≡ None = ap (find book) (sym o) ∙ q in different cc)
      (λ n. rest-listing book width root y f w x (goes-listing book width (goes book width 4095 (y ∷ []) _) (whole-rest root y f w h) x n q))
      (Memᴰ.cases_cons (reached-met book width root h r))
