-- The levels left fall from a value to the values in it. An array, a map and a member count as more than the value that they hold at the same level.
-- A loop over elements or members has found what `several` finds after them.
use mathlib.Core.Path.{◌≡◌}
use Prim.Native.Nat.{◌+◌, ◌*◌, ◌-◌}
use Rattle.tape_form.specs.Known.{KnownTexts}
use Rattle.tape_form.specs.Form.{form_ctx, several, member_at, value_at}
use Rattle.tape_form.proofs.form.+form_cycle.Given as goal

abbrev pub decreases-array : goal.decreases-array
decreases-array l = 3 * l.left + 2

abbrev pub decreases-map : goal.decreases-map
decreases-map l = 3 * l.left + 2

abbrev pub decreases-member : goal.decreases-member
decreases-member l = 3 * l.left + 1

abbrev pub decreases-value : goal.decreases-value
decreases-value l = 3 * l.left

abbrev pub invariant-array-loop : goal.invariant-array-loop
invariant-array-loop l = KnownTexts l.text l.known × (several (form_ctx l.book l.tape l.text) (value_at (form_ctx l.book l.tape l.text) l.left) 2 (l.n - l.counter) l.here ≡ several (form_ctx l.book l.tape l.text) (value_at (form_ctx l.book l.tape l.text) l.left) 2 l.n l.initial.here)

abbrev pub invariant-map-loop : goal.invariant-map-loop
invariant-map-loop l = KnownTexts l.text l.known × (several (form_ctx l.book l.tape l.text) (member_at (form_ctx l.book l.tape l.text) (value_at (form_ctx l.book l.tape l.text) l.left)) 5 (l.n - l.counter) l.here ≡ several (form_ctx l.book l.tape l.text) (member_at (form_ctx l.book l.tape l.text) (value_at (form_ctx l.book l.tape l.text) l.left)) 5 l.n l.initial.here)
