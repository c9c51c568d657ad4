-- `enc_utf_16_ascii::copy_units` meets its contract. The loop's invariant: the low bytes that are left, written from here on, make the buffer that all of them make. Assumes nothing.
use Rattle.enc_utf_16_ascii.proofs.Blocks.{copy_start, copy_room, copy_again, copy_end}
use borrow.Author.Rules.{rules}
use Rattle.enc_utf_16_ascii.proofs.copy_units.Goals as goal

pub loop-i-init : goal.loop-i-init
loop-i-init c = search copy_start

pub bounds-out-to : goal.bounds-out-to
bounds-out-to c = search (rules, copy_room)

pub loop-i-preserved : goal.loop-i-preserved
loop-i-preserved c = search copy_again

pub returns : goal.returns
returns c = search copy_end
