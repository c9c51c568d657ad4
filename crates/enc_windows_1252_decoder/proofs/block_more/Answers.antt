-- `block_more` meets its contract: the most of the bytes' texts are summed. Assumes nothing.
use mathlib.Core.Path.{◌≡◌}
use Rattle.std.specs.List.{sum_by}
use Rattle.std.proofs.Common.{rules, arith}
use Rattle.enc_windows_1252_decoder.specs.Lengths.{most_more}
use Rattle.enc_windows_1252_decoder.proofs.Texts.{text-most, most-twice}
use Rattle.enc_windows_1252_decoder.proofs.block_more.Goals as goal

pub returns : goal.returns
returns c =
    let e : c.sum-more.result ≡ sum_by most_more c.args.block.now = search rules in
    (omega (arith, text-most c.args.block.now c.type_inv.block), omega (arith, most-twice c.args.block.now))
