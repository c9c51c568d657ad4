-- `four_fit` meets its contract. Assumes nothing.
use Rattle.enc_utf_8_decoder.proofs.Steps.{fit-second, fit-first}
use Rattle.enc_utf_8_decoder.proofs.four_fit.Goals as goal

pub returns-then-second_fits : goal.returns-then-second_fits
returns-then-second_fits c = search fit-second

pub returns-else-second_fits : goal.returns-else-second_fits
returns-else-second_fits c = search fit-first
