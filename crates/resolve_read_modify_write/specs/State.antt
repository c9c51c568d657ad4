-- What is known of read-modify-write in the midst of the walk `all`. No contract of a public function cites this. Assumes nothing.
use Rattle.std.specs.Prelude.{◌≡◌, List, [], ℕ, ◌+◌, ◌<◌}
use Rattle.std.specs.declared.ops.ControlFlow.{ControlFlow}
use Rattle.std.specs.declared.ops.ControlFlow.TheVariants.{Continue, Break}
use Rattle.resolve_walk_events.specs.declared.Event.{Event}
use Rattle.resolve_walk.specs.Walk.{Walk}
use Rattle.resolve_walk.specs.State.{LeftToWalk, After, work, Falls}
use Rattle.resolve_walk.specs.declared.Rest.{Rest}
use Rattle.resolve_read_modify_write.specs.declared.Rmw.{Rmw}
use Rattle.resolve_read_modify_write.specs.Reads.{rmw_of}

-- the state between two turns: the rest of the walk has the answer of the whole
pub record RmwNow (book : List ℕ) (width : ℕ) (all : Walk) (sc : List ℕ) (left depth : ℕ) : Type 0 where
  pub rest : Walk
  pub left_over : LeftToWalk book width sc [] left depth rest
  pub reads : rmw_of book width all ≡ rmw_of book width rest

-- what the state is after an event was decided
abbrev pub RmwThen : List ℕ → ℕ → Walk → List ℕ → ControlFlow Rmw Rest → Type 0
RmwThen book width all sc (Continue x) = RmwNow book width all sc x.left x.depth
RmwThen book width all sc (Break a) = a ≡ rmw_of book width all

-- the measure of a state of the loop
unfoldable pub loop_work : List ℕ → ControlFlow Rmw Rest → ℕ
loop_work sc (Continue x) = 1 + work sc x.left x.depth
loop_work sc (Break a) = 0

-- an event is decided
pub record Decided (e : Event) (left : ℕ) (r : ControlFlow Rmw Rest) : Type 0 where
  pub goes : (book : List ℕ) (width : ℕ) (all : Walk) (sc : List ℕ) (w : Walk) → rmw_of book width all ≡ rmw_of book width w → After book width sc [] left w e → RmwThen book width all sc r
  pub falls : (sc : List ℕ) (m : ℕ) → Falls sc left m e → loop_work sc r < 1 + m

-- a record, so that `search` takes it as it stands
pub record Here (book : List ℕ) (width : ℕ) (all : Walk) (sc : List ℕ) (r : ControlFlow Rmw Rest) : Type 0 where
  pub so : RmwThen book width all sc r
