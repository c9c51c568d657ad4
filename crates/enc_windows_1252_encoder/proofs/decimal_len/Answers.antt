-- `decimal_len` meets its contract. The loop keeps: the digits so far and those of what is left are one more than all. Assumes nothing.
use borrow.Author.Rules.{rules}
use Rattle.enc_windows_1252.proofs.Decimals.{count-again, count-end}
use Rattle.enc_windows_1252_encoder.proofs.decimal_len.Goals as goal

pub loop-rest-init : goal.loop-rest-init
loop-rest-init c = (search rules, search rules)

pub loop-rest-preserved : goal.loop-rest-preserved
loop-rest-preserved c = (search rules, search count-again)

pub returns : goal.returns
returns c = (search count-end, search rules)
