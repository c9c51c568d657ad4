use Rattle.std.proofs.Common.{rules}
use Rattle.enc_utf_16.specs.Encode as utf16
use Rattle.ser_leaf.proofs.wstring_leaf.Goals as goal

pub returns : goal.returns
returns c = c.padded_leaf.ensures (utf16.encode16_text c.args.text.now) (λ lent p now h. search rules)
