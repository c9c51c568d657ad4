-- `block_len` meets its contract: ASCII is its own text, and otherwise the lengths of the bytes' texts are summed. Assumes nothing.
use mathlib.Core.Path.{◌≡◌, sym, ◌∙◌}
use lib.ListN.{length}
use Rattle.std.specs.List.{sum_by}
use Rattle.std.proofs.Common.{rules}
use Rattle.enc_windows_1252.specs.Text.{decode_byte}
use Rattle.enc_windows_1252_decoder.proofs.Texts.{ascii-length, text-length}
use Rattle.enc_windows_1252_decoder.proofs.block_len.Goals as goal

pub returns-then-is_ascii : goal.returns-then-is_ascii
returns-then-is_ascii c = search ascii-length

pub returns : goal.returns
returns c = let e : c.sum.result ≡ sum_by (λ b. length (decode_byte b)) c.args.block.now = search rules in e ∙ sym (text-length c.args.block.now)
