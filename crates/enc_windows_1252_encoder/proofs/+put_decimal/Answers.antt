-- `put_decimal` meets its contract: a law for each exit. Assumes nothing.
use Rattle.std.proofs.Common.{arith}
use Rattle.enc_windows_1252_encoder.proofs.Encoders.{digit_room, digit_laid, digits-room, last_digit_room, last_digit_laid}
use Rattle.enc_windows_1252_encoder.proofs.+put_decimal.Goals as goal

pub bounds-out-at : goal.bounds-out-at
bounds-out-at t c = search digit_room

pub returns-then-number-lt10 : goal.returns-then-number-lt10
returns-then-number-lt10 t c = search digit_laid

pub put_decimal-end-requires : goal.put_decimal-end-requires
put_decimal-end-requires t c = (omega arith, search digits-room)

pub bounds-out-end : goal.bounds-out-end
bounds-out-end t c = search last_digit_room

pub overflow_add-result-2 : goal.overflow_add-result-2
overflow_add-result-2 t c = omega (arith, bounds-out-end t c)

pub returns : goal.returns
returns t c = search last_digit_laid
