-- `enc_number::le::le_short` meets its contract. Assumes nothing.
use Rattle.enc_number.proofs.ByteOrder.{fold_start, fold_more, fold_mul, fold_add}
use Rattle.enc_number.proofs.le.le_short.Goals as goal

pub loop-i-init : goal.loop-i-init
loop-i-init c = fold_start c.args.slice.now

pub overflow_mul-value : goal.overflow_mul-value
overflow_mul-value c = search fold_mul

pub overflow_add-value : goal.overflow_add-value
overflow_add-value c = search fold_add

pub loop-i-preserved : goal.loop-i-preserved
loop-i-preserved c = search fold_more
