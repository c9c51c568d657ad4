-- Our book while it may lack the root's name: each call of a list, by its contract. Assumes nothing.
use Rattle.std.specs.Prelude.{Option, Some, None}
use mathlib.Core.Path.{◌≡◌, refl, sym, ◌∙◌, subst}
use mathlib.Core.Bool.{true}
use mathlib.Core.List.{List, [], ◌∷◌}
use Prim.Native.Nat.{ℕ}
use lib.ListN.{drop}
use Rattle.type_provider.specs.Find.{find}
use Rattle.type_provider.proofs.Finds.{find-named, named-name}
use Rattle.type_book_check.specs.declared.RootCheck.TheVariants.{Root}
use Rattle.type_book_check.specs.declared.GivenRoot.TheVariants.{Block, Lacking as NotThere}
use Rattle.type_book_check.specs.Check.{check_book, check_root}
use Rattle.type_book_check.specs.Given.{lacking_root, is_root_name, check_given}
use Rattle.type_book_check.specs.Given as given
use Rattle.type_book_check.proofs.Numbers.{valid-number}
use Rattle.type_book_check.proofs.Roots.{at_block}
use Rattle.type_book_check.proofs.Givens.{named-found, named-lacks, given-answer, given-at-lacking, given-at-block}
use Rattle.type_index.specs.Index.{index_fits}
use Rattle.resolvers.proofs.Chains.{found_type}
use Rattle.resolve_walk.specs.Scratch.{scratch_fits, list_fits}
use Rattle.resolve_walk.specs.Reached.{reached, start}
use Rattle.resolve_missing_types.specs.declared.Missing.{Missing}
use Rattle.resolve_missing_types.specs.declared.Missing.TheVariants.{Listed}
use Rattle.resolve_missing_types.specs.Calls.{missing_numbers, missing_fits, missing_call, MissingIs}
use Rattle.resolve_missing_types.specs.Given.{lacking_answer, lacking_list, given_missing, GivenMissingIs}
use Rattle.resolve_missing_types.proofs.Numbers.{missing_is, missing_says}
use Rattle.closure.specs.Calls.{Ours, book_of, Call, ask, add, bytes, next, Each, none, more}
use Rattle.closure.specs.Demand.{Lent}
use Rattle.closure.proofs.Bases.{Base, base-add, unchanged, none-refused, add_is, bytes-is}
use Rattle.closure.proofs.Steps.{Sound}
use Rattle.closure.proofs.Asks.{Theirs, root-check, ask-is}
use Rattle.closure.proofs.Lists.{each_first, each-rest}
use Rattle.closure_named.specs.Named.{LackingAskIs, NamedAskIs, NamedCallIs}

-- ---- what the root's name stands for in our book

module _ (c : List ℕ) (name : List ℕ) (formed : is_root_name name ≡ true) (s : Ours) (o : Base c s) where
  pub given-found : (t : ℕ) → find (book_of s) name ≡ Some t → check_given s.buffer s.len (given.name name) ≡ Block t
  given-found t e =
      sym (given-answer s.buffer s.len (check_book s.buffer s.len) refl 0 (valid-number _ o.valid) refl (given.name name) (Block t)
      (named-found (book_of s) name true (sym formed) refl (find (book_of s) name) refl t e))

  pub given-lacks : find (book_of s) name ≡ None → check_given s.buffer s.len (given.name name) ≡ NotThere
  given-lacks e =
      sym (given-answer s.buffer s.len (check_book s.buffer s.len) refl 0 (valid-number _ o.valid) refl (given.name name) NotThere
      (named-lacks (book_of s) name true (sym formed) refl (find (book_of s) name) refl e))

-- a book that has the root's name is one of demand 3
pub sound-at : (c : List ℕ) (name : List ℕ) (s : Ours) → Base c s → (t : ℕ) → find (book_of s) name ≡ Some t → Sound c t name s
sound-at c name s o t e =
    record {
      valid = o.valid;
      room = o.room;
      holds = found_type (book_of s) name t e;
      covers = o.covers;
      named = named-name (book_of s) name t (find-named (book_of s) name t e).named;
    }

-- the call by a name that stands for a block promises what the call by that block does
pub missing_at : (buffer : List ℕ) (len : ℕ) (ix : List ℕ) (width : ℕ) (root : given.Given) (sc ls : List ℕ) (r : Missing) (sc' ls' : List ℕ) (t : ℕ)
    → check_given buffer len root ≡ Block t → check_root buffer len t ≡ Root t
    → GivenMissingIs buffer len ix width root sc ls r sc' ls' → MissingIs buffer len ix width t sc ls r sc' ls'
unfolding given_missing missing_call
missing_at buffer len ix width root sc ls r sc' ls' t g e q =
    record {
      answer = q.answer ∙ missing_says _ _ (sym (given-at-block _ _ _ (Block t) (sym g) t refl) ∙ at_block _ _ (Root t) (sym e) t refl);
      scratch = q.scratch ∙ sym (given-at-block _ _ _ (Block t) (sym g) t refl) ∙ at_block _ _ (Root t) (sym e) t refl;
      blocks = q.blocks ∙ sym (given-at-block _ _ _ (Block t) (sym g) t refl) ∙ at_block _ _ (Root t) (sym e) t refl;
    }

-- ---- an ask while our book lacks the root's name

module _ (c : List ℕ) (width : ℕ) (name : List ℕ) (s : Ours) (e : find (book_of s) name ≡ None) (g : check_given s.buffer s.len (given.name name) ≡ NotThere)
    (ix sc ls : List ℕ) (i : index_fits ix ≡ true) (p : scratch_fits sc ≡ true) (q : list_fits ls ≡ true) (r : Missing) (sc' ls' : List ℕ)
    (m : GivenMissingIs s.buffer s.len ix width (given.name name) sc ls r sc' ls') where
  lent : missing_fits ix sc ls ≡ true
  lent = rw (i, p, q)

  answered : r ≡ Listed 1 true 1
  unfolding given_missing lacking_answer
  answered =
      let z : lacking_answer (missing_fits ix sc ls) ≡ given_missing s.buffer s.len ix width (given.name name) sc ls = given-at-lacking _ _ _ NotThere (sym g) refl in
      missing_is _ _ (rw (← z, lent) at m.answer)

  listing : ls' ≡ lacking_root ∷ drop 1 ls
  unfolding lacking_list
  listing =
      let z : ls' ≡ lacking_list (missing_fits ix sc ls) ls = m.blocks ∙ sym (given-at-lacking _ _ _ NotThere (sym g) refl) in
      rw lent at z

  pub lacking-ask : LackingAskIs c width name s ls r ls'
  unfolding missing_numbers
  lacking-ask =
      record {
        unrefused = rw answered;
        answer = missing_says _ _ answered;
        blocks = listing;
        needed = reached (start refl);
        lacking = e;
      }

-- ---- each call

module _ (c : List ℕ) (width : ℕ) (name : List ℕ) (w : Theirs c width name) (formed : is_root_name name ≡ true) where
  pub base-next : (i : Call) (is : List Call) (s : Ours) → Lent c s i is → Base c s → Base c (next c i s)
  base-next (ask ix sc ls) is s g o = o
  base-next (add n) is s g o = base-add c w.valid s o n g
  base-next (bytes m) is s g o = subst (λ (z : Ours). Base c z) (sym (unchanged s m c (λ e. g (none-refused s m e)))) o

  call_is : (i : Call) (is : List Call) (s : Ours) → Lent c s i is → Base c s → NamedCallIs c width name s i is
  call_is (ask ix sc ls) is s g o = λ r sc' ls' m. by r sc' ls' m (find (book_of s) name) refl
    where
      by : (r : Missing) (sc' ls' : List ℕ) → GivenMissingIs s.buffer s.len ix width (given.name name) sc ls r sc' ls'
          → (f : Option ℕ) → find (book_of s) name ≡ f → NamedAskIs c width name s ls r ls' (find (book_of s) name)
      by r sc' ls' m (Some t) e =
          let h : Sound c t name s = sound-at c name s o t e in
          let k : check_root s.buffer s.len t ≡ Root t = root-check c width t name w s h in
          rw e (ask-is c width t name w s h ix sc ls g.0 g.1 g.2 r sc' ls'
          (missing_at s.buffer s.len ix width (given.name name) sc ls r sc' ls' t (given-found c name formed s o t e) k m))
      by r sc' ls' m None e =
          rw e (lacking-ask c width name s e (given-lacks c name formed s o e) ix sc ls g.0 g.1 g.2 r sc' ls' m)
  call_is (add n) is s g o = λ r buffer m. add_is c w.valid s o n g r buffer m
  call_is (bytes b) is s g o = λ r buffer m. bytes-is c w.valid s o b g r buffer m

  pub calls_are : (is : List Call) (s : Ours) → Each c (Lent c) s is → Base c s → Each c (NamedCallIs c width name) s is
  calls_are [] s g o = none
  calls_are (i ∷ is) s g o =
      more (call_is i is s (each_first g) o) (calls_are is (next c i s) (each-rest g) (base-next i is s (each_first g) o))
