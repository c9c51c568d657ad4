-- `enc_utf_8_decoder::next` meets its contract. Each exit is a law of `Decodes`. Assumes nothing.
use Rattle.enc_utf_8.proofs.Decodes.{next-end, next_one, next-trail, next-two}
use Rattle.enc_utf_8_decoder.proofs.next.Goals as goal

pub returns-then-text-at : goal.returns-then-text-at
returns-then-text-at c = search next-end

pub returns-then-b-lt128 : goal.returns-then-b-lt128
returns-then-b-lt128 c = rw c.from.ensures (search next_one)

pub returns-then-b-lt194 : goal.returns-then-b-lt194
returns-then-b-lt194 c = search next-trail

pub returns-then-b-lt224 : goal.returns-then-b-lt224
returns-then-b-lt224 c = search next-two
