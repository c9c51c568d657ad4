-- `ascii_prefix` meets its contract. Assumes nothing.
use Rattle.std.proofs.Common.{rules}
use Rattle.enc_windows_1252_encoder.proofs.Prefixes.{prefix_start, prefix_fits, prefix_block, prefix_rest}
use Rattle.enc_windows_1252_encoder.proofs.ascii_prefix.Goals as goal

pub loop-block-init : goal.loop-block-init
loop-block-init c = (search rules, search prefix_start)

pub returns-then-not-is_ascii : goal.returns-then-not-is_ascii
returns-then-not-is_ascii c = search rules

pub overflow_add-n : goal.overflow_add-n
overflow_add-n c = search (rules, prefix_fits)

pub loop-block-preserved : goal.loop-block-preserved
loop-block-preserved c = (search rules, search prefix_block)

pub returns-then-is_ascii : goal.returns-then-is_ascii
returns-then-is_ascii c = search prefix_rest

pub returns : goal.returns
returns c = search rules
