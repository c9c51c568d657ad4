-- Demand 3 from nothing: the bound on the asks, what holds after one that lists none, and the theorem. Assumes nothing.
use Rattle.std.specs.Prelude.{Option, Some, None}
use mathlib.Core.Path.{◌≡◌, refl, sym, ◌∙◌, subst}
use mathlib.Core.Bool.{true}
use mathlib.Core.Logic.{⊎_elim}
use mathlib.Core.List.Memᴰ
use mathlib.Core.List.{List, [], ◌∷◌, Memᴰ}
use Prim.Native.Nat.{ℕ, ◌+◌, ◌*◌, ◌≤◌}
use native.Mathlib.Omega.{arith}
use borrow.Author.Tests.{eqb-true, le-leb}
use lib.ListN.{length, drop, length-take}
use Rattle.type_book.specs.Book.{byte_at, kind_of, name_of}
use Rattle.type_block_form.specs.Form.{every, is_printable}
use Rattle.type_provider.specs.Find.{find}
use Rattle.type_provider.proofs.Finds.{find-named, named-name}
use Rattle.type_book_check.specs.Check.{ValidBook}
use Rattle.type_book_check.proofs.Valid.{valid-below, valid-names}
use Rattle.resolvers.proofs.Chains.{found_type}
use Rattle.type_book_check.specs.Given.{is_root_name}
use Rattle.resolve_walk.specs.Reached.{Needed, reached, start, Distinct, none as no_name, more as one_more}
use Rattle.resolve_missing_types.specs.Needs.{Lacking, Defined}
use Rattle.closure_books.proofs.Covered.{different}
use Rattle.closure.specs.Calls.{Ours, book_of, Call, ask, add, bytes, next, after_calls, Each, none, more}
use Rattle.closure.specs.Demand.{root_name, Lent, AddedNext, end, this, other, refused, Fetched, asks_listing, Closed, Claim, Premises}
use Rattle.closure.specs.Demand as demand
use Rattle.closure.proofs.Bases.{Base, unchanged, none-refused, add-keeps, add-finds}
use Rattle.closure.proofs.Steps.{Sound, base}
use Rattle.closure.proofs.Asks.{Theirs}
use Rattle.closure.proofs.Lists.{each_first, each-rest, sound-next, found-next, sound-after, found_after, bounded}
use Rattle.closure.proofs.Demand.{demand3}
use Rattle.closure_named.specs.Named.{FetchedBy, NamedFetched, named_listing, NamedBound, NamedNone, here, later, NamedClosed, FromNothing}
use Rattle.closure_named.proofs.Lacks.{given-found, sound-at, base-next, calls_are}

module _ (c : List ℕ) (width : ℕ) (name : List ℕ) (w : Theirs c width name) (formed : is_root_name name ≡ true) where
  -- ---- a book that has the root's name: the asks are those of demand 3 for its block

  module _ (t : ℕ) where
    fetched-at : (is : List Call) (s : Ours) → Each c (Lent c) s is → Sound c t name s → find (book_of s) name ≡ Some t
        → Each c (NamedFetched c width name) s is → Each c (Fetched c width t) s is
    fetched-at [] s g o e f = none
    fetched-at (ask ix sc ls ∷ is) s g o e f =
        let h : FetchedBy c width name s is (Some t) = rw e at (each_first f) in
        more h (fetched-at is s (each-rest g) o e (each-rest f))
    fetched-at (add n ∷ is) s g o e f =
        more tt (fetched-at is (next c (add n) s) (each-rest g) (sound-next c width t name w (add n) is s (each_first g) o)
        (found-next c width t name w (add n) is s (each_first g) o name t e) (each-rest f))
    fetched-at (bytes m ∷ is) s g o e f =
        more tt (fetched-at is (next c (bytes m) s) (each-rest g) (sound-next c width t name w (bytes m) is s (each_first g) o)
        (found-next c width t name w (bytes m) is s (each_first g) o name t e) (each-rest f))

    pub listing-at : (is : List Call) (s : Ours) → Each c (Lent c) s is → Sound c t name s → find (book_of s) name ≡ Some t
        → asks_listing c width t is s ≡ named_listing c width name is s
    unfolding asks_listing named_listing
    listing-at [] s g o e = refl
    listing-at (ask ix sc ls ∷ is) s g o e = let h = listing-at is s (each-rest g) o e in rw (e, h)
    listing-at (add n ∷ is) s g o e =
        listing-at is (next c (add n) s) (each-rest g) (sound-next c width t name w (add n) is s (each_first g) o)
        (found-next c width t name w (add n) is s (each_first g) o name t e)
    listing-at (bytes m ∷ is) s g o e =
        listing-at is (next c (bytes m) s) (each-rest g) (sound-next c width t name w (bytes m) is s (each_first g) o)
        (found-next c width t name w (bytes m) is s (each_first g) o name t e)

  -- ---- the bound

  -- as `NamedBound`, of names that lack in a book s at first, and among which the root's is not
  record Others (s : Ours) (is : List Call) (now : Ours) : Type 0 where
    names : List (List ℕ)
    distinct : Distinct names
    needed : (x : List ℕ) → Memᴰ x names → Needed c width name x
    lacking : (x : List ℕ) → Memᴰ x names → Lacking (book_of s) x
    root-not : Memᴰ name names → ⊥
    many : length names ≡ named_listing c width name is now

  -- what is found stays found, so what lacks after a call lacked before it
  lacked : (i : Call) (is : List Call) (s : Ours) → Lent c s i is → Base c s → (x : List ℕ) → Lacking (book_of (next c i s)) x → Lacking (book_of s) x
  lacked (ask ix sc ls) is s g o x h = h
  lacked (add n) is s g o x h = by (find (book_of s) x) refl
    where
      by : (f : Option ℕ) → find (book_of s) x ≡ f → Lacking (book_of s) x
      by (Some k) e = let z = add-keeps c w.valid s o n g x k e in different cc
      by None e = e
  lacked (bytes m) is s g o x h = subst (λ (z : Ours). Lacking (book_of z) x) (unchanged s m c (λ e. g (none-refused s m e))) h

  found-bound : (is : List Call) (s : Ours) → Each c (Lent c) s is → Each c (NamedFetched c width name) s is → Base c s → (t : ℕ) → find (book_of s) name ≡ Some t → Others s is s
  found-bound is s g f o t e =
      let h : Sound c t name s = sound-at c name s o t e in
      let q = bounded c width t name w is s g (fetched-at t is s g h e f) h in
      record {
        names = q.0;
        distinct = q.1;
        needed = q.2;
        lacking = q.3;
        root-not = λ m. let z = q.3 name m in different cc;
        many = q.4 ∙ listing-at t is s g h e;
      }

  -- the same names lack in the book before a call
  earlier : (i : Call) (is : List Call) (s : Ours) → Lent c s i is → Base c s → named_listing c width name (i ∷ is) s ≡ named_listing c width name is (next c i s)
      → Others (next c i s) is (next c i s) → Others s (i ∷ is) s
  earlier i is s g o e h =
      record {
        names = h.names;
        distinct = h.distinct;
        needed = h.needed;
        lacking = λ x m. lacked i is s g o x (h.lacking x m);
        root-not = h.root-not;
        many = h.many ∙ sym e;
      }

  -- after an ask that lists the root's name, which is added before the next ask
  added-bound : (is : List Call) → AddedNext c name is → (s : Ours) → Each c (Lent c) s is → Each c (NamedFetched c width name) s is → Base c s → Others s is s
  unfolding named_listing
  added-bound [] a s g f o =
      record {
        names = [];
        distinct = no_name;
        needed = λ x m. absurd (Memᴰ.not-nil m);
        lacking = λ x m. absurd (Memᴰ.not-nil m);
        root-not = λ m. Memᴰ.not-nil m;
        many = refl;
      }
  added-bound (add n ∷ is) (this e) s g f o =
      let q = add-finds c w.valid s o n (each_first g) in
      let h : find (book_of (next c (add n) s)) name ≡ Some q.0 = rw (← e) q.1 in
      earlier (add n) is s (each_first g) o refl
      (found-bound is (next c (add n) s) (each-rest g) (each-rest f) (base-next c width name w formed (add n) is s (each_first g) o) q.0 h)
  added-bound (add n ∷ is) (other a) s g f o =
      earlier (add n) is s (each_first g) o refl
      (added-bound is a (next c (add n) s) (each-rest g) (each-rest f) (base-next c width name w formed (add n) is s (each_first g) o))
  added-bound (bytes m ∷ is) (refused a) s g f o =
      earlier (bytes m) is s (each_first g) o refl
      (added-bound is a (next c (bytes m) s) (each-rest g) (each-rest f) (base-next c width name w formed (bytes m) is s (each_first g) o))
  added-bound (ask _ _ _ ∷ is) a s g f o = elim a [ ]

  pub bound-is : (is : List Call) (s : Ours) → Each c (Lent c) s is → Each c (NamedFetched c width name) s is → Base c s → NamedBound c width name s is
  unfolding named_listing
  bound-is [] s g f o =
      record {
        names = [];
        distinct = no_name;
        needed = λ x m. absurd (Memᴰ.not-nil m);
        lacking = λ x m. absurd (Memᴰ.not-nil m);
        many = refl;
      }
  bound-is (ask ix sc ls ∷ is) s g f o = by (find (book_of s) name) refl
    where
      by : (h : Option ℕ) → find (book_of s) name ≡ h → NamedBound c width name s (ask ix sc ls ∷ is)
      by (Some t) e =
          let q = found-bound (ask ix sc ls ∷ is) s g f o t e in
          record { names = q.names; distinct = q.distinct; needed = q.needed; lacking = q.lacking; many = q.many }
      by None e =
          let a : AddedNext c name is = rw e at (each_first f) in
          let q : Others s is s = added-bound is a s (each-rest g) (each-rest f) o in
          record {
            names = name ∷ q.names;
            distinct = one_more q.root-not q.distinct;
            needed = λ x m. ⊎_elim (λ z. rw z (reached (start refl))) (q.needed x) (Memᴰ.cases_cons m);
            lacking = λ x m. ⊎_elim (λ z. rw z e) (q.lacking x) (Memᴰ.cases_cons m);
            many = rw e (omega (arith, q.many));
          }
  bound-is (add n ∷ is) s g f o =
      let q = bound-is is (next c (add n) s) (each-rest g) (each-rest f) (base-next c width name w formed (add n) is s (each_first g) o) in
      record { names = q.names; distinct = q.distinct; needed = q.needed; lacking = λ x m. lacked (add n) is s (each_first g) o x (q.lacking x m); many = q.many }
  bound-is (bytes b ∷ is) s g f o =
      let q = bound-is is (next c (bytes b) s) (each-rest g) (each-rest f) (base-next c width name w formed (bytes b) is s (each_first g) o) in
      record { names = q.names; distinct = q.distinct; needed = q.needed; lacking = λ x m. lacked (bytes b) is s (each_first g) o x (q.lacking x m); many = q.many }

  -- ---- after an ask that lists none

  module _ (defines : (x : List ℕ) → Needed c width name x → Defined c x) where
    -- a book that has the root's name meets demand 3's premises
    held : (is : List Call) (s : Ours) → Each c (Lent c) s is → (t : ℕ) → Sound c t name s → Premises c width t s is
    held is s g t h =
        let n : name_of (book_of s) t ≡ name = h.named in
        record {
          calls = g;
          theirs-valid = w.valid;
          ours-valid = h.valid;
          room = h.room;
          defines = rw n defines;
          holds = h.holds;
          covers = h.covers;
          few = rw n w.few;
          short = rw n w.short;
        }

    closed-from : (is : List Call) (s : Ours) → Each c (Lent c) s is → Base c s → (t : ℕ) → find (book_of s) name ≡ Some t
        → demand.ListedNone c width t s is → NamedClosed c width name (after_calls c is s)
    unfolding demand.Demand3
    closed-from is s g o t e l =
        let h : Sound c t name s = sound-at c name s o t e in
        let last : Sound c t name (after_calls c is s) = sound-after c width t name w is s g h in
        let f : find (book_of (after_calls c is s)) name ≡ Some t = found_after c width t name w is s g h name t e in
        record {
          at = t;
          found = f;
          given = given-found c name formed (after_calls c is s) (base c w.valid t name (after_calls c is s) last) t f;
          closed = rw h.named at ((demand3 c width t s is (held is s g t h)).closed l);
        }

    pub closed_is : {s : Ours} {is : List Call} → NamedNone c width name s is → Each c (Lent c) s is → Base c s → NamedClosed c width name (after_calls c is s)
    unfolding after_calls
    closed_is (here {s} {ix} {sc} {ls} {is} {t} e h) g o = closed-from (ask ix sc ls ∷ is) s g o t e (demand.here h)
    closed_is (later {s} {i} {is} r) g o = closed_is r (each-rest g) (base-next c width name w formed i is s (each_first g) o)

-- ---- the theorem

-- a name that a valid book defines is of the form
pub name-formed : (book : List ℕ) → ValidBook book → (x : List ℕ) → Defined book x → is_root_name x ≡ true
unfolding is_root_name
name-formed book v x d =
    let n : ℕ = d.at in
    let e : name_of book n ≡ x = named-name book x n (find-named book x n d.found).named in
    let m = (valid-names book v n (valid-below book v n 0 (eqb-true (kind_of book n) 1 (found_type book x n d.found)))).name in
    let l : length (name_of book n) ≤ 200 = omega (arith, m.short, length-take (byte_at book n 52) (drop (n * 512 + 54) book)) in
    let q : length x ≤ 200 = rw e at l in
    let p : every is_printable x ≡ true = rw e at m.printable in
    rw (le-leb (length x) 200 q, p)

pub from_nothing : FromNothing
unfolding FromNothing
from_nothing c width name s is p =
    let w : Theirs c width name = record { valid = p.theirs-valid; few = p.few; short = p.short } in
    let o : Base c s = record { valid = p.ours-valid; room = p.room; covers = p.covers } in
    let formed : is_root_name name ≡ true = name-formed c p.theirs-valid name (p.defines name (reached (start refl))) in
    record {
      calls = calls_are c width name w formed is s p.calls o;
      bound = λ f. bound-is c width name w formed is s p.calls f o;
      closed = λ l. closed_is c width name w formed p.defines l p.calls o;
    }
