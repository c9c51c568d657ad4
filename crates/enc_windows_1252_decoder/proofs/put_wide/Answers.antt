-- `put_wide` meets its contract: two bytes, the first of them written twice, or three. Assumes nothing.
use Rattle.enc_windows_1252_decoder.proofs.Decoders.{wide-first, wide-second, wide_third, wide-done}
use Rattle.enc_windows_1252_decoder.proofs.put_wide.Goals as goal

pub bounds-out-at : goal.bounds-out-at
bounds-out-at c = search wide-first

pub bounds-out-last : goal.bounds-out-last
bounds-out-last c = search wide-second

pub bounds-out-last-2 : goal.bounds-out-last-2
bounds-out-last-2 c = search wide_third

pub returns : goal.returns
returns c = search wide-done
