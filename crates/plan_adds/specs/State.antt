-- What is known of our buffer in the midst of the adds, and what their parts promise each other. Assumes nothing.
use Rattle.std.specs.Prelude.{◌≡◌, true, Result, Ok, Err, List, ℕ, take}
use Rattle.type_book.specs.Book.{is_type}
use Rattle.type_book_check.specs.declared.BookCheck.TheVariants.{Valid}
use Rattle.type_book_check.specs.Check.{check_book}
use Rattle.plan_type_adds.specs.Knows.{Knows}
use Rattle.closure.specs.Calls.{Ours}
use Rattle.plan_adds.specs.declared.Unfetched.{Unfetched}
use Rattle.plan_adds.specs.declared.Unfetched.TheVariants as unfetched
use Rattle.plan_adds.specs.declared.Added.{Added}
use Rattle.plan_adds.specs.declared.Added.TheVariants as added
use Rattle.plan_adds.specs.declared.Swept.{Swept}
use Rattle.plan_adds.specs.Adds.{ours, Adding, on, lacks, room, fetch_of, due_of, sweep_by}

-- our book is valid, and the marks say which of the controller's types it knows
pub record Ready (c buffer : List ℕ) (len : ℕ) (known : List ℕ) : Type 0 where
  pub valid : check_book buffer len ≡ Valid
  pub knows : Knows c (take len buffer) known

-- the types of a book stay types
pub record Kept (buffer : List ℕ) (len : ℕ) (after : List ℕ) (len' : ℕ) : Type 0 where
  pub types : (m : ℕ) → is_type (take len buffer) m ≡ true → is_type (take len' after) m ≡ true

-- what is said of one type: its definition is added, or it was known; or the controller's book lacks it, or there is no room
abbrev pub fetched_length : ℕ → Result ℕ Unfetched → ℕ
fetched_length len (Ok l) = l
fetched_length len (Err e) = len

-- the same with our buffer, as an adding
unfoldable pub fetched_said : ℕ → ℕ → Result ℕ Unfetched → List ℕ → Adding
fetched_said b len (Ok l) buffer = on (ours buffer l)
fetched_said b len (Err unfetched.NotFound) buffer = lacks b (ours buffer len)
fetched_said b len (Err unfetched.Full) buffer = room (ours buffer len)

-- the promise of adding one type: what is said of it, that all is ready for the next, and that our types are kept
pub record FetchedIs (c : List ℕ) (b : ℕ) (buffer : List ℕ) (len : ℕ) (r : Result ℕ Unfetched) (after known : List ℕ) : Type 0 where
  pub is : fetched_said b len r after ≡ fetch_of c b (ours buffer len)
  pub ready : Ready c after (fetched_length len r) known
  pub kept : Kept buffer len after (fetched_length len r)

-- what is said of several types
abbrev pub added_length : Added → ℕ
added_length (added.More l) = l
added_length (added.NotFound b l) = l
added_length (added.Full l) = l

-- the same with our buffer, as an adding
unfoldable pub added_said : Added → List ℕ → Adding
added_said (added.More l) buffer = on (ours buffer l)
added_said (added.NotFound b l) buffer = lacks b (ours buffer l)
added_said (added.Full l) buffer = room (ours buffer l)

-- the promise of adding several types: what is said of them, that all is ready for the next, and that our types are kept
pub record AddedIs (adding : Adding) (c buffer : List ℕ) (len : ℕ) (r : Added) (after known : List ℕ) : Type 0 where
  pub is : added_said r after ≡ adding
  pub ready : Ready c after (added_length r) known
  pub kept : Kept buffer len after (added_length r)

-- what is said of one block that is swept: the length of our book then, and how many fields are due
pub record SweptIs (c : List ℕ) (width i due : ℕ) (buffer : List ℕ) (len : ℕ) (r : Swept) (after known : List ℕ) : Type 0 where
  pub is : (go : ℕ → Ours → Ours) → go r.due (ours after r.len) ≡ sweep_by go c i (ours buffer len) (due_of (take len buffer) width i due)
  pub ready : Ready c after r.len known
  pub kept : Kept buffer len after r.len

-- what is said of several: the length of our book at the end
pub record SweepIs (final : Ours) (c buffer : List ℕ) (len l : ℕ) (after known : List ℕ) : Type 0 where
  pub is : ours after l ≡ final
  pub ready : Ready c after l known
  pub kept : Kept buffer len after l
