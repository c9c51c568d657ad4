-- The bytes of a name, tested and added up in one pass. No contract of a public function cites this. Assumes nothing.
use Rattle.std.specs.Prelude.{cond, List, ℕ, Option, Some, None}
use Rattle.type_block_form.specs.Form.{sum_of, every, is_printable}

-- the sum of a name's bytes, if each of them may stand in a name
unfoldable pub name_sum_of : List ℕ → Option ℕ
name_sum_of name = cond (every is_printable name) (Some (sum_of name)) None
