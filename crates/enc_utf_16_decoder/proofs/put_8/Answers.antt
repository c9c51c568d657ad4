-- `enc_utf_16_decoder::put_8` meets its contract: one byte, two, or what `put` writes. Assumes nothing.
use native.Mathlib.Omega.{arith}
use lib.ListN.{length-set}
use Rattle.enc_utf_16_decoder.proofs.Blocks.{short_put, none-full, two_put, two-full}
use Rattle.enc_utf_16_decoder.proofs.put_8.Goals as goal

pub returns-then-out-at : goal.returns-then-out-at
returns-then-out-at c = search none-full

pub returns-then-code-lt128 : goal.returns-then-code-lt128
returns-then-code-lt128 c = search short_put

pub returns-then-out-at-lt2 : goal.returns-then-out-at-lt2
returns-then-out-at-lt2 c = search two-full

pub bounds-out-at-3 : goal.bounds-out-at-3
bounds-out-at-3 c = simp length-set (omega arith)

pub returns : goal.returns
returns c = search two_put
