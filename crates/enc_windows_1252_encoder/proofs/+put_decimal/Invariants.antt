-- The number falls with each call.
use Rattle.enc_windows_1252_encoder.proofs.+put_decimal.Given as goal

abbrev pub decreases-put_decimal : goal.decreases-put_decimal
decreases-put_decimal l = l.number
