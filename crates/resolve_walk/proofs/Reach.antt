-- What a walk meets: (i) only what is reached, (ii) all of it where it ends whole, and then all is found where it lists nothing, (iii) no
-- name twice. Each law is of the walk from a name, and then of a root's, which is that from its name. Assumes nothing.
use Rattle.std.specs.Prelude.{Option, Some, None}
use mathlib.Core.Path.{◌≡◌, refl, sym, ap, ◌∙◌}
use mathlib.Core.Bool.{Bool, true, false, ◌||◌, or-true}
use mathlib.Core.Logic.{◌⊎◌, inl, inr, ⊎_elim}
use mathlib.Core.List.Memᴰ
use mathlib.Core.List.{List, [], ◌∷◌, Memᴰ}
use Prim.Native.Nat.{ℕ, ◌≤◌}
use native.Mathlib.Omega.{arith}
use lib.ListN.{length}
use Rattle.type_book.specs.Book.{name_of, type_name_of, same_name}
use Rattle.type_provider.specs.Find.{find}
use Rattle.type_book.proofs.Names.{same_eq, same_refl}
use Rattle.resolvers.specs.declared.Resolved.{Resolved}
use Rattle.resolvers.specs.declared.Resolved.TheVariants.{Base, NotFound, TooLong}
use Rattle.resolvers.specs.Resolve.{chain_onward, resolve_alias}
use Rattle.resolve_walk_scratch.specs.Parts.{parts_of}
use Rattle.resolve_walk.specs.Walk.{Walk, over, met, comes_to, has, push, meet, walk, walk_from, walk_of}
use Rattle.resolve_walk.specs.Reads.{names, count, listed, whole}
use Rattle.resolve_walk.specs.Reached.{Reached, start, part, Distinct, none as nothing, more, Resolves}
use Rattle.resolve_walk.proofs.Goes.{Goes, none, old, fresh, stop, walk_none, goes}

pub true-false : {X : Type 0} → true ≡ false → X
true-false e = absurd (let z : ◌≡◌ {A = ℕ} 0 1 = cc in omega arith)

has_cases : (y x : List ℕ) (v : List (List ℕ)) → has (y ∷ v) x ≡ true → (x ≡ y) ⊎ (has v x ≡ true)
unfolding has
has_cases y x v h = by (same_name y x) refl h
  where
    by : (t : Bool) → same_name y x ≡ t → t || has v x ≡ true → (x ≡ y) ⊎ (has v x ≡ true)
    by true e h = inl (sym (same_eq y x e))
    by false e h = inr h

-- what is pushed is a part of the type, or was there
push_cases : (book : List ℕ) (width : ℕ) (s : List ℕ) (f : Resolved) {b : ℕ} {X : Type 0} → Memᴰ b (push book width f s) → ((t : ℕ) → f ≡ Base t → Memᴰ b (parts_of book width t) → X) → (Memᴰ b s → X) → X
unfolding push
push_cases book width s (Base t) m p q = ⊎_elim (p t refl) q (Memᴰ.append_cases (parts_of book width t) m)
push_cases book width s (NotFound c) m p q = q m
push_cases book width s TooLong m p q = q m

-- a name comes to a type: the book defines it, and its aliases end there
look-base : (book : List ℕ) (width b u : ℕ) (f : Option ℕ) → comes_to book width b f ≡ Base u → (t : ℕ) × (f ≡ Some t) × (resolve_alias book width t ≡ Base u)
unfolding chain_onward
look-base book width b u (Some t) h = (t, refl, h)
look-base book width b u None h = absurd (let z : ◌≡◌ {A = ℕ} 0 1 = cc in omega arith)

base-look : (book : List ℕ) (width b u t : ℕ) (f : Option ℕ) → f ≡ Some t → resolve_alias book width t ≡ Base u → comes_to book width b f ≡ Base u
unfolding chain_onward
base-look book width b u t f e h = rw e h

-- ---- (i)

module _ (book : List ℕ) (width : ℕ) (root : List ℕ) where
  parts-reached : (s : List ℕ) (a : ℕ) (x : List ℕ) → Reached book width root x → ((b : ℕ) → Memᴰ b s → Reached book width root (type_name_of book b))
      → (b : ℕ) → Memᴰ b (push book width (comes_to book width a (find book x)) s) → Reached book width root (type_name_of book b)
  parts-reached s a x r h b m = push_cases book width s (comes_to book width a (find book x)) m (λ u e p. let q = look-base book width a u (find book x) e in part r q.1 q.2 p refl) (h b)

  cons-reached : {x : List ℕ} {xs : List (List ℕ)} → Reached book width root x → ((y : List ℕ) → Memᴰ y xs → Reached book width root y) → (y : List ℕ) → Memᴰ y (x ∷ xs) → Reached book width root y
  cons-reached r h y m = ⊎_elim (λ e. rw e r) (h y) (Memᴰ.cases_cons m)

  pub only-reached : {left : ℕ} {v : List (List ℕ)} {s : List ℕ} {w : Walk} → Goes book width left v s w → ((b : ℕ) → Memᴰ b s → Reached book width root (type_name_of book b))
      → (x : List ℕ) → Memᴰ x (names w) → Reached book width root x
  unfolding names
  only-reached none h x m = absurd (Memᴰ.not-nil m)
  only-reached (old e g) h x m = only-reached g (λ b m. h b (Memᴰ.tail m)) x m
  only-reached (fresh {left} {b} {v} {s} e g) h x m =
      let r = h b (Memᴰ.head refl) in
      cons-reached r (λ y n. only-reached g (parts-reached s b (type_name_of book b) r (λ b m. h b (Memᴰ.tail m))) y n) x m
  only-reached (stop {b} e) h x m = cons-reached (h b (Memᴰ.head refl)) (λ y m. absurd (Memᴰ.not-nil m)) x m

pub from-reached : (book : List ℕ) (width : ℕ) (name : List ℕ) (block : ℕ) (x : List ℕ) → Memᴰ x (names (walk_from book width name block)) → Reached book width name x
unfolding meet names
from-reached book width name block x m =
    let r = start refl in
    cons-reached book width name r
    (only-reached book width name (goes book width 4095 (name ∷ []) (push book width (comes_to book width block (find book name)) []))
    (parts-reached book width name [] block name r (λ b m. absurd (Memᴰ.not-nil m))))
    x m

pub met-is-reached : (book : List ℕ) (width root : ℕ) (x : List ℕ) → Memᴰ x (names (walk_of book width root)) → Reached book width (name_of book root) x
unfolding walk_of
met-is-reached book width root = from-reached book width (name_of book root) root

-- ---- (iii)

-- no name that was visited before is met again
pub apart : (book : List ℕ) (width : ℕ) {left : ℕ} {v : List (List ℕ)} {s : List ℕ} {w : Walk} → Goes book width left v s w → (x : List ℕ) → Memᴰ x (names w) → has v x ≡ true → ⊥
unfolding names has
apart book width none x m h = Memᴰ.not-nil m
apart book width (old e g) x m h = apart book width g x m h
apart book width (fresh {left} {b} {v} {s} e g) x m h =
    ⊎_elim
    (λ q. true-false (sym h ∙ ap (has v) q ∙ e))
    (λ n. apart book width g x n (more-has (type_name_of book b) x v h))
    (Memᴰ.cases_cons m)
  where
    more-has : (y x : List ℕ) (v : List (List ℕ)) → has v x ≡ true → has (y ∷ v) x ≡ true
    more-has y x v h = rw h (or-true (same_name y x))
apart book width (stop {b} {v} e) x m h =
    ⊎_elim (λ q. true-false (sym h ∙ ap (has v) q ∙ e)) (λ n. Memᴰ.not-nil n) (Memᴰ.cases_cons m)

has_self : (x : List ℕ) (v : List (List ℕ)) → has (x ∷ v) x ≡ true
unfolding has
has_self x v = rw (same_refl x)

distinct : (book : List ℕ) (width : ℕ) {left : ℕ} {v : List (List ℕ)} {s : List ℕ} {w : Walk} → Goes book width left v s w → Distinct (names w)
unfolding names
distinct book width none = nothing
distinct book width (old e g) = distinct book width g
distinct book width (fresh {left} {b} {v} e g) = more (λ m. apart book width g _ m (has_self (type_name_of book b) v)) (distinct book width g)
distinct book width (stop e) = more Memᴰ.not-nil nothing

pub from_once : (book : List ℕ) (width : ℕ) (name : List ℕ) (block : ℕ) → Distinct (names (walk_from book width name block))
unfolding meet names
from_once book width name block =
    let g = goes book width 4095 (name ∷ []) (push book width (comes_to book width block (find book name)) []) in
    more (λ m. apart book width g _ m (has_self name [])) (distinct book width g)

pub met_once : (book : List ℕ) (width root : ℕ) → Distinct (names (walk_of book width root))
unfolding walk_of
met_once book width root = from_once book width (name_of book root) root

-- the rest of a whole walk is whole
pub whole-rest : (b : ℕ) (x : List ℕ) (f : Resolved) (w : Walk) → whole (met b x f w) ≡ true → whole w ≡ true
unfolding whole
whole-rest b x (Base u) w h = h
whole-rest b x (NotFound c) w h = h
whole-rest b x TooLong w h = true-false (sym h)

whole-count : (book : List ℕ) (width : ℕ) {left : ℕ} {v : List (List ℕ)} {s : List ℕ} {w : Walk} → Goes book width left v s w → whole w ≡ true → count w ≤ left
unfolding names whole
whole-count book width none h = omega arith
whole-count book width (old e g) h = whole-count book width g h
whole-count book width (fresh {left} {b} {v} {s} {w} e g) h = let i = whole-count book width g (whole-rest b (type_name_of book b) (comes_to book width b (find book (type_name_of book b))) w h) in omega arith
whole-count book width (stop e) h = true-false (sym h)

-- ---- (ii)

-- y was visited before, or is met
abbrev Known : List (List ℕ) → Walk → List ℕ → Type 0
Known v w y = (has v y ≡ true) ⊎ Memᴰ y (names w)

known-met : (b : ℕ) (x y : List ℕ) (f : Resolved) (v : List (List ℕ)) (w : Walk) → Known (x ∷ v) w y → Known v (met b x f w) y
unfolding names
known-met b x y f v w k =
    ⊎_elim (λ h. ⊎_elim (λ e. inr (Memᴰ.head e)) (λ q. inl q) (has_cases x y v h)) (λ m. inr (Memᴰ.tail m)) k

push-part : (book : List ℕ) (width : ℕ) (s : List ℕ) (f : Resolved) {b t : ℕ} → f ≡ Base t → Memᴰ b (parts_of book width t) → Memᴰ b (push book width f s)
unfolding push
push-part book width s f {b} {t} e m = rw e (Memᴰ.append_left s m)

push-rest : (book : List ℕ) (width : ℕ) (s : List ℕ) (f : Resolved) {b : ℕ} → Memᴰ b s → Memᴰ b (push book width f s)
unfolding push
push-rest book width s (Base t) m = Memᴰ.append_right (parts_of book width t) m
push-rest book width s (NotFound c) m = m
push-rest book width s TooLong m = m

listed-none : (b : ℕ) (x : List ℕ) (f : Resolved) (w : Walk) → whole (met b x f w) ≡ true → listed (met b x f w) ≡ [] → ((u : ℕ) × (f ≡ Base u)) × (listed w ≡ [])
unfolding listed whole
listed-none b x (Base u) w k h = ((u, refl), h)
listed-none b x (NotFound c) w k h = absurd (let z = ap length h in omega arith)
listed-none b x TooLong w k h = true-false (sym k)

module _ (book : List ℕ) (width : ℕ) where
  -- every name on the stack is known in the end
  stack-known : {left : ℕ} {v : List (List ℕ)} {s : List ℕ} {w : Walk} → Goes book width left v s w → whole w ≡ true → (c : ℕ) → Memᴰ c s → Known v w (type_name_of book c)
  unfolding whole
  stack-known none h c m = absurd (Memᴰ.not-nil m)
  stack-known (old {left} {b} {v} e g) h c m = ⊎_elim (λ q. inl (ap (λ (n : ℕ). has v (type_name_of book n)) q ∙ e)) (λ n. stack-known g h c n) (Memᴰ.cases_cons m)
  stack-known (fresh {left} {b} {v} {s} {w} e g) h c m =
      known-met b (type_name_of book b) (type_name_of book c) (comes_to book width b (find book (type_name_of book b))) v w
      (⊎_elim
      (λ q. inl (ap (λ (n : ℕ). has (type_name_of book b ∷ v) (type_name_of book n)) q ∙ has_self (type_name_of book b) v))
      (λ n. stack-known g (whole-rest b (type_name_of book b) (comes_to book width b (find book (type_name_of book b))) w h) c (push-rest book width s (comes_to book width b (find book (type_name_of book b))) n))
      (Memᴰ.cases_cons m))
  stack-known (stop e) h c m = true-false (sym h)

  -- the parts of what is met are known in the end
  closed : {left : ℕ} {v : List (List ℕ)} {s : List ℕ} {w : Walk} → Goes book width left v s w → whole w ≡ true
      → (x : List ℕ) (t u c : ℕ) → Memᴰ x (names w) → find book x ≡ Some t → resolve_alias book width t ≡ Base u → Memᴰ c (parts_of book width u) → Known v w (type_name_of book c)
  unfolding whole names
  closed none h x t u c m f r p = absurd (Memᴰ.not-nil m)
  closed (old e g) h x t u c m f r p = closed g h x t u c m f r p
  closed (fresh {left} {b} {v} {s} {w} e g) h x t u c m f r p =
      known-met b (type_name_of book b) (type_name_of book c) (comes_to book width b (find book (type_name_of book b))) v w
      (⊎_elim
      (λ q. stack-known g (whole-rest b (type_name_of book b) (comes_to book width b (find book (type_name_of book b))) w h) c (push-part book width s (comes_to book width b (find book (type_name_of book b))) (base-look book width b u t (find book (type_name_of book b)) (ap (find book) (sym q) ∙ f) r) p))
      (λ n. closed g (whole-rest b (type_name_of book b) (comes_to book width b (find book (type_name_of book b))) w h) x t u c n f r p)
      (Memᴰ.cases_cons m))
  closed (stop e) h x t u c m f r p = true-false (sym h)

  -- what is met is found where nothing is listed
  found_all : {left : ℕ} {v : List (List ℕ)} {s : List ℕ} {w : Walk} → Goes book width left v s w → whole w ≡ true → listed w ≡ [] → (x : List ℕ) → Memᴰ x (names w) → Resolves book width x
  unfolding whole names
  found_all none h l x m = absurd (Memᴰ.not-nil m)
  found_all (old e g) h l x m = found_all g h l x m
  found_all (fresh {left} {b} {v} {s} {w} e g) h l x m =
      let q = listed-none b (type_name_of book b) (comes_to book width b (find book (type_name_of book b))) w h l in
      let k = look-base book width b q.0.0 (find book (type_name_of book b)) q.0.1 in
      ⊎_elim (λ e. record { at = k.0; to = q.0.0; found = ap (find book) e ∙ k.1; base = k.2 }) (λ n. found_all g (whole-rest b (type_name_of book b) (comes_to book width b (find book (type_name_of book b))) w h) q.1 x n) (Memᴰ.cases_cons m)
  found_all (stop e) h l x m = true-false (sym h)

  module _ (name : List ℕ) (block : ℕ) (h : whole (walk_from book width name block) ≡ true) where
    first : Walk
    first = walk book width 4095 (name ∷ []) (push book width (comes_to book width block (find book name)) [])

    goes_first : Goes book width 4095 (name ∷ []) (push book width (comes_to book width block (find book name)) []) first
    unfolding first
    goes_first = goes book width 4095 _ _

    known-all : (y : List ℕ) → Known (name ∷ []) first y → Memᴰ y (names (walk_from book width name block))
    unfolding meet names first has
    known-all y k = ⊎_elim (λ q. true-false (sym q)) (λ m. m) (known-met block name y (comes_to book width block (find book name)) [] first k)

    whole-first : whole first ≡ true
    unfolding meet first
    whole-first = whole-rest block name (comes_to book width block (find book name)) first h

    pub from-met : {x : List ℕ} → Reached book width name x → Memᴰ x (names (walk_from book width name block))
    unfolding meet names first
    from-met (start e) = Memᴰ.head e
    from-met (part {x} {y} {t} {u} {b} r f g p e) =
        rw e
        (known-all (type_name_of book b)
        (⊎_elim
        (λ q. stack-known goes_first whole-first b (push-part book width [] (comes_to book width block (find book name)) (base-look book width block u t (find book name) (ap (find book) (sym q) ∙ f) g) p))
        (λ n. closed goes_first whole-first x t u b n f g p)
        (Memᴰ.cases_cons (from-met r))))

    pub from_found : listed (walk_from book width name block) ≡ [] → (x : List ℕ) → Reached book width name x → Resolves book width x
    unfolding meet names first
    from_found l x r =
        let q = listed-none block name (comes_to book width block (find book name)) first h l in
        let k = look-base book width block q.0.0 (find book name) q.0.1 in
        ⊎_elim (λ e. record { at = k.0; to = q.0.0; found = ap (find book) e ∙ k.1; base = k.2 }) (λ n. found_all goes_first whole-first q.1 x n) (Memᴰ.cases_cons (from-met r))

  module _ (root : ℕ) (h : whole (walk_of book width root) ≡ true) where
    pub reached-met : {x : List ℕ} → Reached book width (name_of book root) x → Memᴰ x (names (walk_of book width root))
    unfolding walk_of
    reached-met = from-met (name_of book root) root h

    pub reached-found : listed (walk_of book width root) ≡ [] → (x : List ℕ) → Reached book width (name_of book root) x → Resolves book width x
    unfolding walk_of
    reached-found = from_found (name_of book root) root h

-- ---- a number of the answer

pub from-count : (book : List ℕ) (width : ℕ) (name : List ℕ) (block : ℕ) → whole (walk_from book width name block) ≡ true → count (walk_from book width name block) ≤ 4096
unfolding meet names
from-count book width name block h =
    let i = whole-count book width (goes book width 4095 (name ∷ []) (push book width (comes_to book width block (find book name)) [])) (whole-rest block name (comes_to book width block (find book name)) _ h) in omega arith

pub count-whole : (book : List ℕ) (width root : ℕ) → whole (walk_of book width root) ≡ true → count (walk_of book width root) ≤ 4096
unfolding walk_of
count-whole book width root = from-count book width (name_of book root) root

-- a walk from a name that the book lacks meets that name alone: its block is listed, or 7 is answered with it
pub from-lacking : (book : List ℕ) (width : ℕ) (name : List ℕ) (block : ℕ) → find book name ≡ None → walk_from book width name block ≡ met block name (NotFound block) over
unfolding meet push chain_onward
from-lacking book width name block h = rw (h, walk_none book width 4095 (name ∷ []))
