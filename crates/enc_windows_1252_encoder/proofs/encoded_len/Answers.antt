-- `encoded_len` meets its contract. The loop keeps: the length so far and that of what is left are the whole. Assumes nothing.
use borrow.Author.Rules.{rules}
use Rattle.enc_windows_1252_encoder.proofs.Encoders.{begins-over, begins-count, encode_part, encode_over, encode_fits}
use Rattle.enc_windows_1252_encoder.proofs.encoded_len.Goals as goal

pub returns-then-room-start : goal.returns-then-room-start
returns-then-room-start c = search begins-over

pub loop-i-init : goal.loop-i-init
loop-i-init c = (search rules, search begins-count)

pub returns-then-room-n : goal.returns-then-room-n
returns-then-room-n c = search encode_over

pub loop-i-preserved : goal.loop-i-preserved
loop-i-preserved c = (search rules, search encode_part)

pub returns : goal.returns
returns c = search encode_fits
