-- Demand 3 from nothing, of the calls by the root's name: after an ask that lists none, what demand 3 claims of the calls by the block's number holds of
-- those by its name too. Assumes nothing.
use Rattle.std.specs.Prelude.{◌≡◌, true, ◌↔◌, List, ℕ, length}
use Rattle.enc_number.specs.Answer.{refusal_of}
use Rattle.enc_number.specs.Refusals as refusal
use Rattle.type_book_check.specs.declared.BookCheck.TheVariants.{Valid}
use Rattle.type_book_check.specs.Check.{check_book}
use Rattle.type_book_check.specs.Given.{Given}
use Rattle.type_book_check.specs.Given as given
use Rattle.type_index.specs.Index.{index_fits}
use Rattle.resolve_walk.specs.Scratch.{scratch_fits}
use Rattle.resolve_walk.specs.Reached.{Needed}
use Rattle.resolve_missing_types.specs.Needs.{Lacking}
use Rattle.resolve_read_modify_write.specs.declared.Rmw.{Rmw}
use Rattle.resolve_read_modify_write.specs.declared.Rmw.TheVariants.{Yes}
use Rattle.resolve_read_modify_write.specs.Calls.{rmw_numbers}
use Rattle.resolve_read_modify_write.specs.Given.{GivenRmwIs}
use Rattle.de_output.specs.declared.ReadAnswer.{ReadAnswer}
use Rattle.de_output.specs.Answer.{read_numbers, ReadIs}
use Rattle.de.specs.Read.{given_trace}
use Rattle.ser.specs.declared.WriteAnswer.{WriteAnswer}
use Rattle.ser.specs.Call.{write_numbers, given_write, WriteIs}
use Rattle.closure.specs.Calls.{Ours, book_of, Call, after_calls}
use Rattle.closure.specs.Demand.{BlockReached}
use Rattle.closure_named.specs.Named.{NamedPremises, NamedNone}

-- the calls for a root however it is given, in that state, with any index and any scratch that are long enough, any memory and any buffers; by the contracts
-- of the calls that take such a root. `Closed` is its instance for a number
pub record GivenClosed (c : List ℕ) (width : ℕ) (root : Given) (name : List ℕ) (s : Ours) : Type 0 where
  -- "read-modify-write is "yes" exactly when a reached name resolves to a function block"
  pub keeps : (ix sc : List ℕ) → index_fits ix ≡ true → scratch_fits sc ≡ true → (r : Rmw) (sc' : List ℕ) → GivenRmwIs s.buffer s.len ix width root sc r sc'
      → (rmw_numbers r ≡ rmw_numbers Yes) ↔ BlockReached c width name
  -- more than the demand has: it is not refused, so it is "no" otherwise
  pub decides : (ix sc : List ℕ) → index_fits ix ≡ true → scratch_fits sc ≡ true → (r : Rmw) (sc' : List ℕ) → GivenRmwIs s.buffer s.len ix width root sc r sc'
      → refusal_of (rmw_numbers r) ≡ 0
  -- "and no read [..] of the root, whatever the bytes, is refused for a type not found"
  pub reads : (memory tape text : List ℕ) (r : ReadAnswer) (tape' text' : List ℕ)
      → ReadIs (given_trace s.buffer s.len width root memory) tape text r tape' text' → refusal_of (read_numbers r) ≡ refusal.not_found → ⊥
  -- "and no [..] write of the root, whatever the bytes, is refused for a type not found": nor whatever the tape, its text and the output
  pub writes : (image tape text output : List ℕ) (r : WriteAnswer) (output' : List ℕ)
      → WriteIs (given_write s.buffer s.len width root image (length output) tape text) image output r output' → refusal_of (write_numbers r) ≡ refusal.not_found → ⊥

-- our book, and every call by the root's name in that state
pub record ClosedByName (c : List ℕ) (width : ℕ) (name : List ℕ) (s : Ours) : Type 0 where
  -- our book is valid still
  pub valid : check_book s.buffer s.len ≡ Valid
  -- "no needed name is lacking"
  pub none : (x : List ℕ) → Needed c width name x → Lacking (book_of s) x → ⊥
  -- the calls by the name: `requires_read_modify_write_named`, `read_named`, `write_named`
  pub named : GivenClosed c width (given.name name) name s

-- "After an ask that lists none": at the end of the list, so, since this is of every list, at any time after that ask
unfoldable pub FromNothingByName : Type 0
FromNothingByName = (c : List ℕ) (width : ℕ) (name : List ℕ) (s : Ours) (is : List Call) → NamedPremises c width name s is → NamedNone c width name s is
    → ClosedByName c width name (after_calls c is s)
