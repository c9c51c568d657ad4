-- What is known of the missing list in the midst of the walk `all`, of which w is left. No contract of a public function cites this.
-- Assumes nothing.
use Rattle.std.specs.Prelude.{◌≡◌, Bool, false, cond, Option, Some, None, ◌&&◌, List, ◌++◌, ℕ, ◌+◌, ◌-◌, ◌≤◌, ◌<◌, length, take, drop, set, eqb}
use Rattle.type_index.specs.declared.Trust.{Trust}
use Rattle.type_index.specs.Trust.{trust_then, Trusted}
use Rattle.resolve_walk_events.specs.declared.Event.{Event}
use Rattle.resolve_walk_events.specs.declared.Event.TheVariants.{Old, New, Full}
use Rattle.resolve_walk_events.specs.declared.Event.TheVariants as event
use Rattle.resolve_walk.specs.Walk.{Walk}
use Rattle.resolve_walk.specs.Reads.{count, listed, whole}
use Rattle.resolve_walk.specs.State.{LeftToWalk, After, work, Falls, IsDue}
use Rattle.resolve_missing_types.specs.declared.Progress.{Progress}

-- what was read of the walk stands in the count, the list and the mark; what is left to read is w
pub record ReadSoFar (all : Walk) (list₀ list : List ℕ) (left n : ℕ) (ok : Bool) (w : Walk) : Type 0 where
  pub counts : count all + left ≡ 4096 + count w
  pub lists : listed all ≡ take n list ++ listed w
  pub ends : whole all ≡ ok && whole w
  pub kept : drop n list ≡ drop n list₀
  pub long : length list ≡ length list₀
  pub room : n + left ≤ 4096

-- the state between two turns
pub record MissingNow (book : List ℕ) (width : ℕ) (all : Walk) (list₀ sc list : List ℕ) (left depth n : ℕ) (ok : Bool) : Type 0 where
  pub rest : Walk
  pub left_over : LeftToWalk book width sc (take n list) left depth rest
  pub reading : ReadSoFar all list₀ list left n ok rest

-- the walk ended at a name too many
pub record Stopped (all : Walk) (list₀ list : List ℕ) (n : ℕ) : Type 0 where
  pub counts : count all ≡ 4097
  pub lists : listed all ≡ take n list
  pub ends : whole all ≡ false
  pub kept : drop n list ≡ drop n list₀
  pub long : length list ≡ length list₀
  pub room : n ≤ 4096

-- block b is listed after n others
pub record OneMore (list : List ℕ) (n b r : ℕ) (list' : List ℕ) : Type 0 where
  pub count : r ≡ n + 1
  pub blocks : list' ≡ set list n b

-- what the state is after an event was applied
abbrev pub MissingThen : List ℕ → ℕ → Walk → List ℕ → List ℕ → List ℕ → ℕ → Option Progress → Type 0
MissingThen book width all list₀ sc list n (Some x) = MissingNow book width all list₀ sc list x.left x.depth x.n x.ok
MissingThen book width all list₀ sc list n None = Stopped all list₀ list n

-- less than m is left to do then
abbrev pub LessWork : List ℕ → ℕ → Option Progress → Type 0
LessWork sc m (Some x) = work sc x.left x.depth < m
LessWork sc m None = Unit {0}

-- an event is applied to list, mark and count
pub record Applied (e : Event) (list : List ℕ) (left n : ℕ) (ok : Bool) (r : Option Progress) (list' : List ℕ) : Type 0 where
  pub goes : (book : List ℕ) (width : ℕ) (all : Walk) (list₀ sc : List ℕ) (w : Walk) → ReadSoFar all list₀ list left n ok w → After book width sc (take n list) left w e → MissingThen book width all list₀ sc list' n r
  pub falls : (sc : List ℕ) (m : ℕ) → Falls sc left m e → LessWork sc m r

-- an event that is still to be applied
pub record Pending (book : List ℕ) (width : ℕ) (all : Walk) (list₀ sc list : List ℕ) (left n : ℕ) (ok : Bool) (e : Event) : Type 0 where
  pub rest : Walk
  pub reading : ReadSoFar all list₀ list left n ok rest
  pub after : After book width sc (take n list) left rest e
  pub due : IsDue left e

-- the measure of the loop: the event, and what is left to do after it
unfoldable pub pend : List ℕ → ℕ → Event → ℕ
pend sc left (Old d) = 1 + work sc left d
pend sc left (event.NotFound c d) = 1 + work sc (left - 1) d
pend sc left (New t d c) = 1 + work sc (left - 1) d
pend sc left (event.TooLong d) = 1 + work sc (left - 1) d
pend sc left Full = 0

-- what is known of the index once n blocks are listed, where `before` were: it is held against the book when one was listed, and what is known
-- of it holds
pub record Learned (book index : List ℕ) (t : Trust) (before n : ℕ) (r : Trust) : Type 0 where
  pub is : r ≡ cond (eqb before n) t (trust_then book index t)
  pub trusted : Trusted book index r
