-- `enc_utf_16_decoder::measure_units` meets its contract. The loop's invariant: `size` and the length of the text from `next` on are the length of the text from `at` on. Assumes nothing.
use native.Mathlib.Omega.{arith}
use Rattle.enc_utf_16_decoder.proofs.Blocks.{four-at-most, units_more, units_measured}
use borrow.Author.Rules.{rules}
use Rattle.enc_utf_16_decoder.proofs.measure_units.Goals as goal

pub loop-next-init : goal.loop-next-init
loop-next-init c = (search rules, search rules, search rules, omega arith)

pub loop-next-preserved : goal.loop-next-preserved
loop-next-preserved c = (search rules, search rules, search (rules, four-at-most), search units_more)

pub overflow_add-size : goal.overflow_add-size
overflow_add-size c = search (rules, four-at-most)

pub returns : goal.returns
returns c = search units_measured
