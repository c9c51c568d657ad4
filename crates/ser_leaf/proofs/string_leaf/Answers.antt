use Rattle.std.proofs.Common.{rules}
use Rattle.enc_windows_1252.specs.Text as windows1252
use Rattle.ser_leaf.proofs.string_leaf.Goals as goal

pub returns : goal.returns
returns c = c.padded_leaf.ensures (windows1252.encode_text c.args.text.now) (λ lent p now h. search rules)
