-- The plan of a save: rounds of asks and adds, until an ask lists none; then read-modify-write (demand 3's list, made by one call).
-- c is the controller's book throughout. Assumes nothing.
use Rattle.std.specs.Prelude.{Bool, true, false, cond, List, [], ◌∷◌, ℕ, zero, suc, eqb, ltb}
use Rattle.enc_number.specs.Answer.{refusal_of}
use Rattle.enc_number.specs.Refusals as refusal
use Rattle.type_book.specs.Book.{blocks}
use Rattle.resolvers.specs.declared.Resolved.TheVariants.{TooLong}
use Rattle.resolvers.specs.Resolve.{resolved_numbers}
use Rattle.resolve_walk.specs.Walk.{Walk}
use Rattle.resolve_walk.specs.Reads.{count, listed, whole}
use Rattle.resolve_read_modify_write.specs.declared.Rmw.{Rmw}
use Rattle.resolve_read_modify_write.specs.declared.Rmw.TheVariants as rmw
use Rattle.resolve_read_modify_write.specs.Reads.{rmw_of}
use Rattle.closure.specs.Calls.{Ours, book_of, walk_at}
use Rattle.plan_adds.specs.Adds.{Adding, on, lacks, room, add_all}

-- the answer, with our buffer: read-modify-write; 7 with the block whose type name wasn't found; another refusal
pub data Decision : Type 0 where
  decided : Bool → Ours → Decision
  lacking : ℕ → Ours → Decision
  refused : ℕ → Ours → Decision

-- what read-modify-write answers
unfoldable pub ruled : Rmw → Ours → Decision
ruled rmw.Yes s = decided true s
ruled rmw.No s = decided false s
ruled (rmw.NotFound b) s = lacking b s
ruled (rmw.Refused n) s = refused n s

-- the next round, unless the adding ended
unfoldable pub next_round : (Ours → Decision) → Adding → Decision
next_round go (on s) = go s
next_round go (lacks b s) = lacking b s
next_round go (room s) = refused refusal.no_room s

-- an ask that is whole: none is listed, and read-modify-write answers; or the listed types are added, then what the types from block i on are
-- made of, and another ask follows
unfoldable pub closing : (Ours → Decision) → List ℕ → ℕ → ℕ → Walk → Ours → List ℕ → Decision
closing go c width i w s [] = ruled (rmw_of (book_of s) width w) s
closing go c width i w s (b ∷ bs) = next_round go (add_all c width i (b ∷ bs) s)

-- an ask that is not whole: 9 for a name too many, else the number of a chain that is too long
abbrev pub not_whole : Walk → ℕ
not_whole w = cond (eqb (count w) 4097) refusal.too_many_names (refusal_of (resolved_numbers TooLong))

-- one round, by its ask
unfoldable pub round_of : (Ours → Decision) → List ℕ → ℕ → ℕ → Walk → Ours → Decision
round_of go c width i w s = cond (whole w) (closing go c width i w s (listed w)) (refused (not_whole w) s)

-- the block from which the types are swept in a round after which k may follow: the first new one, so that only what is needed is added; in
-- the last two rounds block 0, after which nothing is left to add
unfoldable pub swept_from : ℕ → List ℕ → ℕ
swept_from k book = cond (ltb k 2) 0 (blocks book)

-- at most k rounds, and `go` where they run out
unfoldable pub rounds_then : (Ours → Decision) → List ℕ → ℕ → ℕ → ℕ → Ours → Decision
rounds_then go c width root zero s = go s
rounds_then go c width root (suc k) s = round_of (rounds_then go c width root k) c width (swept_from k (book_of s)) (walk_at width root s) s

-- at most k rounds, and 15 where they run out: eighteen never do (`plan-few`)
abbrev pub plan_from : List ℕ → ℕ → ℕ → ℕ → Ours → Decision
plan_from c width root k = rounds_then (refused refusal.no_room) c width root k
