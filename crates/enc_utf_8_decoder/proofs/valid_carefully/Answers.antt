-- `valid_carefully` meets its contract. The loop keeps: the text is UTF-8 up to `at`. Nothing is asked of `until`. Assumes nothing.
use borrow.Author.Rules.{rules}
use Rattle.enc_utf_8.proofs.Cuts.{passed_start, passed_to, passed-all}
use Rattle.enc_utf_8_decoder.proofs.Blocks.{block_within, block-less, passed-block, passed-cut}
use Rattle.enc_utf_8_decoder.proofs.Steps.{passed_in, passed_out, codes_less, stopped}
use Rattle.enc_utf_8_decoder.proofs.valid_carefully.Goals as goal

pub loop-at-init : goal.loop-at-init
loop-at-init c = search passed_start

pub overflow_add-at : goal.overflow_add-at
overflow_add-at c = search (rules, block_within)

pub loop-at-smaller-then-ascii-gt0 : goal.loop-at-smaller-then-ascii-gt0
loop-at-smaller-then-ascii-gt0 c = search block-less

pub loop-at-preserved-then-ascii-gt0 : goal.loop-at-preserved-then-ascii-gt0
loop-at-preserved-then-ascii-gt0 c = search passed-block

pub loop-at-preserved-then-goes_through : goal.loop-at-preserved-then-goes_through
loop-at-preserved-then-goes_through c = search (rules, passed-cut)

pub codes_end-after-requires : goal.codes_end-after-requires
codes_end-after-requires c = record { bound_in_bounds = search rules; passed_to = search passed_out }

pub returns-then-after-bound : goal.returns-then-after-bound
returns-then-after-bound c = search (passed_to, passed_in, stopped)

pub loop-at-smaller : goal.loop-at-smaller
loop-at-smaller c = search codes_less

pub loop-at-preserved : goal.loop-at-preserved
loop-at-preserved c = search passed_in

pub returns : goal.returns
returns c = search (passed_to, passed-all)
