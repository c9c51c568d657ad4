use mathlib.Core.Path.{◌∙◌}
use Rattle.tape.proofs.Records.{le-two, le-four, le-eight, record-made}
use Rattle.tape.proofs.record.to_bytes.Goals as goal

pub returns : goal.returns
returns c =
    record-made _ _ _ _ _ (c.to_le_bytes-s.ensures ∙ le-two _) (c.to_le_bytes-d.ensures ∙ le-four _) (c.to_le_bytes-a.ensures ∙ le-eight _) (c.to_le_bytes-b.ensures ∙ le-eight _)
