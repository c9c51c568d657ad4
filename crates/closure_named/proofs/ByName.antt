-- Demand 3 from nothing, of the calls by the root's name. Assumes nothing.
use Rattle.std.specs.Prelude.{Some}
use mathlib.Core.Path.{◌≡◌, refl}
use mathlib.Core.Bool.{true}
use mathlib.Core.List.{List, [], ◌∷◌}
use Prim.Native.Nat.{ℕ}
use Rattle.type_provider.specs.Find.{find}
use Rattle.type_book_check.specs.declared.GivenRoot.TheVariants.{Block}
use Rattle.type_book_check.specs.Given.{is_root_name, check_given}
use Rattle.type_book_check.specs.Given as given
use Rattle.resolve_walk.specs.Reads.{listed}
use Rattle.resolve_walk.specs.Reached.{Needed, reached, start}
use Rattle.resolve_missing_types.specs.Needs.{Defined}
use Rattle.closure_books.proofs.Covered.{different}
use Rattle.closure.specs.Calls.{Ours, book_of, Call, ask, after_calls, Each, walk_at}
use Rattle.closure.specs.Demand.{Lent}
use Rattle.closure.proofs.Bases.{Base}
use Rattle.closure.proofs.Steps.{Sound, base}
use Rattle.closure.proofs.Asks.{Theirs, root-check, none-defined}
use Rattle.closure.proofs.Lists.{each_first, each-rest, sound-after, found_after}
use Rattle.closure.proofs.Closed.{closed_at}
use Rattle.closure_named.specs.Named.{NamedNone, here, later}
use Rattle.closure_named.specs.ByName.{ClosedByName, FromNothingByName}
use Rattle.closure_named.proofs.Blocks.{block_stands, closed_given}
use Rattle.closure_named.proofs.Lacks.{given-found, sound-at, base-next}
use Rattle.closure_named.proofs.Nothing.{name-formed}

module _ (c : List ℕ) (width : ℕ) (name : List ℕ) (w : Theirs c width name) (formed : is_root_name name ≡ true) where
  -- a book that has the root's name and lacks nothing needed
  closed_here : (s : Ours) → Base c s → (t : ℕ) → find (book_of s) name ≡ Some t → ((x : List ℕ) → Needed c width name x → Defined (book_of s) x) → ClosedByName c width name s
  closed_here s o t e all =
      let h : Sound c t name s = sound-at c name s o t e in
      let g : check_given s.buffer s.len (given.name name) ≡ Block t = given-found c name formed s o t e in
      record {
        valid = o.valid;
        none = λ x n l. let d = all x n in let z = d.found in different cc;
        named = closed_given c width (given.name name) t name s (block_stands s.buffer s.len (given.name name) t g (root-check c width t name w s h))
            (closed_at c width t name w s h all);
      }

  -- once an ask has listed none, our book lacks nothing needed at any later time
  closed_from : (is : List Call) (s : Ours) → Each c (Lent c) s is → Base c s → (t : ℕ) → find (book_of s) name ≡ Some t → listed (walk_at width t s) ≡ []
      → ClosedByName c width name (after_calls c is s)
  closed_from is s g o t e l =
      let h : Sound c t name s = sound-at c name s o t e in
      closed_here (after_calls c is s) (base c w.valid t name (after_calls c is s) (sound-after c width t name w is s g h)) t
      (found_after c width t name w is s g h name t e)
      (λ x n. let d = none-defined c width t name w s h l x n in record { at = d.at; found = found_after c width t name w is s g h x d.at d.found })

  closed_after : {s : Ours} {is : List Call} → NamedNone c width name s is → Each c (Lent c) s is → Base c s → ClosedByName c width name (after_calls c is s)
  unfolding after_calls
  closed_after (here {s} {ix} {sc} {ls} {is} {t} e h) g o = closed_from (ask ix sc ls ∷ is) s g o t e h
  closed_after (later {s} {i} {is} r) g o = closed_after r (each-rest g) (base-next c width name w formed i is s (each_first g) o)

-- ---- the theorem

pub from_nothing_by_name : FromNothingByName
unfolding FromNothingByName
from_nothing_by_name c width name s is p l =
    let w : Theirs c width name = record { valid = p.theirs-valid; few = p.few; short = p.short } in
    let o : Base c s = record { valid = p.ours-valid; room = p.room; covers = p.covers } in
    let formed : is_root_name name ≡ true = name-formed c p.theirs-valid name (p.defines name (reached (start refl))) in
    closed_after c width name w formed l p.calls o
