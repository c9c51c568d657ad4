-- Demand 3 follows from demand 3 with the root by its name: a root block that our book has is the block of its name at every call of a list, so what
-- is claimed by the name is what is claimed by the block. `demand3` is not used. Assumes nothing.
use Rattle.std.specs.Prelude.{Some}
use mathlib.Core.Path.{◌≡◌, refl, sym, ◌∙◌, subst}
use mathlib.Core.Bool.{true}
use mathlib.Core.List.{List, [], ◌∷◌}
use Prim.Native.Nat.{ℕ}
use Rattle.type_provider.specs.Find.{find}
use Rattle.type_book_check.specs.declared.RootCheck.TheVariants.{Root}
use Rattle.type_book_check.specs.declared.GivenRoot.TheVariants.{Block}
use Rattle.type_book_check.specs.Check.{check_root}
use Rattle.type_book_check.specs.Given.{is_root_name, check_given}
use Rattle.type_book_check.specs.Given as given
use Rattle.type_book_check.proofs.Roots.{at_block}
use Rattle.type_book_check.proofs.Valid.{valid-own}
use Rattle.type_book_check.proofs.Givens.{given-at-block}
use Rattle.resolve_walk.specs.Reached.{reached, start}
use Rattle.resolve_missing_types.specs.declared.Missing.{Missing}
use Rattle.resolve_missing_types.specs.Calls.{missing_call, MissingIs}
use Rattle.resolve_missing_types.specs.Given.{given_missing, GivenMissingIs}
use Rattle.resolve_missing_types.proofs.Numbers.{missing_says}
use Rattle.closure.specs.Calls.{Ours, book_of, Call, ask, add, bytes, next, after_calls, Each, none, more}
use Rattle.closure.specs.Demand.{root_name, Lent, CallIs, Fetched, ListedNone, Closed, Premises, Claim, Demand3}
use Rattle.closure.specs.Demand as demand
use Rattle.closure.proofs.Steps.{Sound, base, ours}
use Rattle.closure.proofs.Asks.{Theirs, root-check}
use Rattle.closure.proofs.Lists.{each_first, each-rest, sound-next, found-next, found_after}
use Rattle.closure_named.specs.Named.{NamedPremises, NamedCallIs, NamedFetched, NamedNone, here, later, NamedClosed, NamedClaim, FromNothing}
use Rattle.closure_named.proofs.Lacks.{given-found}
use Rattle.closure_named.proofs.Nothing.{listing-at, name-formed}

-- what the call by a block promises is what the call by a root that stands for that block does
missing_back : (buffer : List ℕ) (len : ℕ) (ix : List ℕ) (width : ℕ) (root : given.Given) (sc ls : List ℕ) (r : Missing) (sc' ls' : List ℕ) (t : ℕ)
    → check_given buffer len root ≡ Block t → check_root buffer len t ≡ Root t
    → MissingIs buffer len ix width t sc ls r sc' ls' → GivenMissingIs buffer len ix width root sc ls r sc' ls'
unfolding given_missing missing_call
missing_back buffer len ix width root sc ls r sc' ls' t g e q =
    record {
      answer = q.answer ∙ missing_says _ _ (sym (at_block _ _ (Root t) (sym e) t refl) ∙ given-at-block _ _ _ (Block t) (sym g) t refl);
      scratch = q.scratch ∙ sym (at_block _ _ (Root t) (sym e) t refl) ∙ given-at-block _ _ _ (Block t) (sym g) t refl;
      blocks = q.blocks ∙ sym (at_block _ _ (Root t) (sym e) t refl) ∙ given-at-block _ _ _ (Block t) (sym g) t refl;
    }

module _ (c : List ℕ) (width root : ℕ) (name : List ℕ) (w : Theirs c width name) (formed : is_root_name name ≡ true) where
  -- ---- each call

  call_back : (i : Call) (is : List Call) (s : Ours) → Sound c root name s → find (book_of s) name ≡ Some root
      → NamedCallIs c width name s i is → CallIs c width root name s i is
  call_back (ask ix sc ls) is s o e h = λ r sc' ls' m.
      let g : check_given s.buffer s.len (given.name name) ≡ Block root = given-found c name formed s (base c w.valid root name s o) root e in
      let k : check_root s.buffer s.len root ≡ Root root = root-check c width root name w s o in
      rw e at (h r sc' ls' (missing_back s.buffer s.len ix width (given.name name) sc ls r sc' ls' root g k m))
  call_back (add n) is s o e h = h
  call_back (bytes b) is s o e h = h

  calls_back : (is : List Call) (s : Ours) → Each c (Lent c) s is → Sound c root name s → find (book_of s) name ≡ Some root
      → Each c (NamedCallIs c width name) s is → Each c (CallIs c width root name) s is
  calls_back [] s g o e h = none
  calls_back (i ∷ is) s g o e h =
      more (call_back i is s o e (each_first h))
      (calls_back is (next c i s) (each-rest g) (sound-next c width root name w i is s (each_first g) o)
      (found-next c width root name w i is s (each_first g) o name root e) (each-rest h))

  -- ---- the bound

  fetch_back : (i : Call) (is : List Call) (s : Ours) → find (book_of s) name ≡ Some root → Fetched c width root s i is → NamedFetched c width name s i is
  fetch_back (ask ix sc ls) is s e f = rw e f
  fetch_back (add n) is s e f = tt
  fetch_back (bytes b) is s e f = tt

  fetched-back : (is : List Call) (s : Ours) → Each c (Lent c) s is → Sound c root name s → find (book_of s) name ≡ Some root
      → Each c (Fetched c width root) s is → Each c (NamedFetched c width name) s is
  fetched-back [] s g o e f = none
  fetched-back (i ∷ is) s g o e f =
      more (fetch_back i is s e (each_first f))
      (fetched-back is (next c i s) (each-rest g) (sound-next c width root name w i is s (each_first g) o)
      (found-next c width root name w i is s (each_first g) o name root e) (each-rest f))

  -- ---- after an ask that lists none

  none-back : {s : Ours} {is : List Call} → ListedNone c width root s is → Each c (Lent c) s is → Sound c root name s → find (book_of s) name ≡ Some root
      → NamedNone c width name s is
  none-back (demand.here {s} {ix} {sc} {ls} {is} h) g o e = here e h
  none-back (demand.later {s} {i} {is} r) g o e =
      later (none-back r (each-rest g) (sound-next c width root name w i is s (each_first g) o)
      (found-next c width root name w i is s (each_first g) o name root e))

  closed-back : (s : Ours) → find (book_of s) name ≡ Some root → NamedClosed c width name s → Closed c width root name s
  closed-back s e q =
      let z : Some q.at ≡ Some root = sym q.found ∙ e in
      let y : q.at ≡ root = cc in
      subst (λ (t : ℕ). Closed c width t name s) y q.closed

-- ---- the theorem

module _ (c : List ℕ) (width root : ℕ) (s : Ours) (is : List Call) (p : Premises c width root s is) where
  -- demand 3's premises for a root block are those for its name
  pub premises_by-name : NamedPremises c width (root_name root s) s is
  premises_by-name =
      record {
        calls = p.calls;
        theirs-valid = p.theirs-valid;
        ours-valid = p.ours-valid;
        room = p.room;
        defines = p.defines;
        covers = p.covers;
        few = p.few;
        short = p.short;
      }

  -- and what is claimed by the name is what demand 3 claims of the block
  pub claim_by-name : NamedClaim c width (root_name root s) s is → Claim c width root s is
  claim_by-name q =
      let w : Theirs c width (root_name root s) = record { valid = p.theirs-valid; few = p.few; short = p.short } in
      let o : Sound c root (root_name root s) s =
      record { valid = p.ours-valid; room = p.room; holds = p.holds; covers = p.covers; named = refl } in
      let formed : is_root_name (root_name root s) ≡ true =
      name-formed c p.theirs-valid (root_name root s) (p.defines (root_name root s) (reached (start refl))) in
      let e : find (book_of s) (root_name root s) ≡ Some root = valid-own (book_of s) (ours c w.valid root (root_name root s) s o) root p.holds in
      record {
        calls = calls_back c width root (root_name root s) w formed is s p.calls o e q.calls;
        bound = λ f.
            let b = q.bound (fetched-back c width root (root_name root s) w formed is s p.calls o e f) in
            record {
              names = b.names;
              distinct = b.distinct;
              needed = b.needed;
              lacking = b.lacking;
              many = b.many ∙ sym (listing-at c width (root_name root s) w formed root is s p.calls o e);
            };
        closed = λ l.
            closed-back c width root (root_name root s) w formed (after_calls c is s)
            (found_after c width root (root_name root s) w is s p.calls o (root_name root s) root e)
            (q.closed (none-back c width root (root_name root s) w formed l p.calls o e));
      }

-- "The old claim is its instance"
pub demand3-is_its_instance : FromNothing → Demand3
unfolding FromNothing Demand3
demand3-is_its_instance from c width root s is p =
    claim_by-name c width root s is p (from c width (root_name root s) s is (premises_by-name c width root s is p))
