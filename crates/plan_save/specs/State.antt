-- What is known of our buffer in the midst of a plan, and what the parts of the call promise each other. No contract of a public function
-- cites this. Assumes nothing.
use Rattle.std.specs.Prelude.{◌≡◌, Bool, true, false, Option, Some, None, Result, Ok, Err, List, ℕ, ◌/◌, length, take}
use Rattle.type_book.specs.Book.{is_type}
use Rattle.type_index.specs.declared.Trust.{Trust}
use Rattle.type_index.specs.Trust.{Trusted}
use Rattle.resolve_read_modify_write.specs.declared.Rmw.{Rmw}
use Rattle.resolve_read_modify_write.specs.declared.Rmw.TheVariants as rmw
use Rattle.resolve_read_modify_write.specs.Reads.{rmw_of}
use Rattle.resolve_walk.specs.Walk.{Walk, walk_of}
use Rattle.resolve_walk.specs.Reads.{listed, whole}
use Rattle.plan_type_adds.specs.Knows.{Knows}
use Rattle.closure.specs.Calls.{Ours}
use Rattle.plan_adds.specs.declared.Added.{Added}
use Rattle.plan_save.specs.declared.Plan.{Plan}
use Rattle.plan_save.specs.declared.Plan.TheVariants as plan
use Rattle.std.specs.declared.ops.ControlFlow.{ControlFlow}
use Rattle.std.specs.declared.ops.ControlFlow.TheVariants.{Continue, Break}
use Rattle.plan_save.specs.Rounds.{Decision, decided, lacking, refused, next_round, not_whole, round_of}
use Rattle.plan_adds.specs.Adds.{ours, add_all}
use Rattle.plan_adds.specs.State.{Ready, added_length, added_said}

-- the half of a lent index that is of the controller's book
abbrev pub half_of : List ℕ → List ℕ
half_of index = take (length index / 2) index

-- before the first round: the marks say which of the controller's types our book knows, and what is said of the controller's half is so
pub record Prepared (c book : List ℕ) (t : Trust) (hints known : List ℕ) : Type 0 where
  pub knows : Knows c book known
  pub trusted : Trusted c (half_of hints) t

-- an answer with our buffer
unfoldable pub plan_said : Plan → List ℕ → Decision
plan_said (plan.Yes len) buffer = decided true (ours buffer len)
plan_said (plan.No len) buffer = decided false (ours buffer len)
plan_said (plan.NotFound b len) buffer = lacking b (ours buffer len)
plan_said (plan.Refused n len) buffer = refused n (ours buffer len)

-- what is said of one round
unfoldable pub round_said : (Ours → Decision) → ControlFlow Plan ℕ → List ℕ → Decision
round_said go (Continue l) buffer = go (ours buffer l)
round_said go (Break p) buffer = plan_said p buffer

-- what holds where another round follows
abbrev pub Follows : List ℕ → ℕ → ControlFlow Plan ℕ → List ℕ → List ℕ → Type 0
Follows c root (Continue l) after known = Ready c after l known × (is_type (take l after) root ≡ true)
Follows c root (Break p) after known = Unit {0}

-- the promise of a round: what is said of it, whatever the rounds after it do, what holds where one follows, and that what was said of the
-- controller's half of the index still is so
pub record RoundIs (c : List ℕ) (width root : ℕ) (buffer : List ℕ) (len from : ℕ) (r : ControlFlow Plan ℕ) (after known hints : List ℕ) (t : Trust) : Type 0 where
  pub is : (go : Ours → Decision) → round_said go r after ≡ round_of go c width from (walk_of (take len buffer) width root) (ours buffer len)
  pub follows : Follows c root r after known
  pub trusted : Trusted c (half_of hints) t

-- read-modify-write answers "no"
unfoldable pub says_no : Rmw → Bool
says_no rmw.Yes = false
says_no rmw.No = true
says_no (rmw.NotFound b) = false
says_no (rmw.Refused n) = false

-- what is said of the list alone
abbrev pub ListSaid : Walk → Result ℕ ℕ → List ℕ → Type 0
ListSaid w (Ok n) list = (whole w ≡ true) × (n ≡ length (listed w)) × (take n list ≡ listed w)
ListSaid w (Err k) list = (whole w ≡ false) × (k ≡ not_whole w)

-- the promise of the list: what is said of it
pub record ListedIs (w : Walk) (r : Result ℕ ℕ) (list : List ℕ) : Type 0 where
  pub says : ListSaid w r list

-- what is said of an ask, with what read-modify-write says of the same walk
abbrev pub AskSaid : List ℕ → ℕ → Walk → Result (Option ℕ) ℕ → List ℕ → Type 0
AskSaid book width w (Ok None) list = says_no (rmw_of book width w) ≡ true
AskSaid book width w (Ok (Some n)) list = (whole w ≡ true) × (n ≡ length (listed w)) × (take n list ≡ listed w) × (says_no (rmw_of book width w) ≡ false)
AskSaid book width w (Err k) list = (whole w ≡ false) × (k ≡ not_whole w)

-- the promise of an ask: what is said of it
pub record AskedIs (book : List ℕ) (width : ℕ) (w : Walk) (r : Result (Option ℕ) ℕ) (list : List ℕ) : Type 0 where
  pub says : AskSaid book width w r list

-- what is said of a round by its adds
pub record AfterAdds (a : Added) (r : ControlFlow Plan ℕ) : Type 0 where
  pub is : (go : Ours → Decision) (buffer : List ℕ) → round_said go r buffer ≡ next_round go (added_said a buffer)
  pub same : (l : ℕ) → r ≡ Continue l → added_length a ≡ l

-- what is said of a round that adds the types of a list of blocks, and then sweeps from a block on
pub record AddedRound (c : List ℕ) (width from : ℕ) (bs buffer : List ℕ) (len : ℕ) (r : ControlFlow Plan ℕ) (after known : List ℕ) : Type 0 where
  pub is : (go : Ours → Decision) → round_said go r after ≡ next_round go (add_all c width from bs (ours buffer len))
  pub follows : (root : ℕ) → is_type (take len buffer) root ≡ true → Follows c root r after known

-- what is said of the rounds
pub record PlannedIs (o : Decision) (r : Plan) (after : List ℕ) : Type 0 where
  pub is : plan_said r after ≡ o
