-- The premises can be met from nothing: the controller's book is that of demand 3's own witness, ours has no bytes. The list asks for the root by its name, adds it
-- and asks again. Assumes nothing.
use mathlib.Core.List.{[], ◌∷◌}
use Prim.Native.Nat.{◌<◌}
use native.Mathlib.Omega.{arith}
use borrow.Author.Tests.{eqb-true}
use lib.ListN.{replicate}
use Rattle.type_book.specs.Book.{blocks, kind_of}
use Rattle.type_book_check.proofs.Valid.{empty-valid, valid-below}
use Rattle.closure_books.specs.Books.{Twin}
use Rattle.closure.specs.Calls.{Ours, book_of, Call, ask, add, none, more}
use Rattle.closure.specs.Demand.{root_name}
use Rattle.closure.proofs.Lists.{each_first}
use Rattle.closure.proofs.Witness.{theirs, lent, ours, witness}
use Rattle.closure_named.specs.Named.{NamedPremises}

-- our buffer, with nothing in it
abbrev pub nothing : Ours
nothing = record { buffer = lent; len = 0 }

-- the root's definition in the controller's book
abbrev pub root : Twin (book_of ours) 0 theirs
root = witness.covers.only 0 witness.holds

abbrev pub asked : Call
asked = ask (replicate 16384 0) (replicate 8192 0) (replicate 4096 0)

pub from-nothing-witness : NamedPremises theirs 8 (root_name 0 ours) nothing (asked ∷ add root.block ∷ asked ∷ [])
from-nothing-witness =
    record {
      calls = more (each_first witness.calls) (more root.type (more (each_first witness.calls) none));
      theirs-valid = witness.theirs-valid;
      ours-valid = empty-valid lent;
      room = witness.room;
      defines = witness.defines;
      covers = record { only = λ m t. absurd (let l : m < blocks [] = valid-below [] (empty-valid []) m 0 (eqb-true (kind_of [] m) 1 t) in omega arith) };
      few = witness.few;
      short = witness.short;
    }
