-- `row` meets its contract: antt computes the whole table. Assumes nothing.
use Rattle.std.proofs.Common.{◌≡◌, ℕ, ◌<◌, get_or, map, refl, ap, ◌∙◌, arith}
use Rattle.std.proofs.lemmas.List.FromFn.{get_or-map-range_with_len}
use Rattle.std.specs.List.{range_with_len}
use Rattle.enc_utf_8_rows.specs.declared.row.TheConstants.{ROWS}
use Rattle.enc_utf_8_rows.specs.Rows.{after_lead, after_due, row_of, own}
use Rattle.enc_utf_8_rows.proofs.row.row.Goals as goal

table_is : ROWS ≡ map row_of (range_with_len 0 256)
unfolding after_lead after_due row_of
table_is = refl

read : (b : ℕ) → b < 256 → get_or ROWS b 0 ≡ row_of b
read b h = ap (λ t. get_or t b 0) table_is ∙ get_or-map-range_with_len row_of 0 256 b b 0 h (omega arith)

pub returns : goal.returns
returns c = own (rw c.from.ensures (read c.args.b (omega arith)))
