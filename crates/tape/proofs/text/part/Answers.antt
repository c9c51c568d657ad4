use Rattle.tape.proofs.Texts.{part-some, part-past, part-over}
use Rattle.tape.proofs.text.part.Goals as goal
use Rattle.tape.proofs.text.part.Goals.{else-from-end-via-then-from-end+else-len-end, else-from-end-via-else-from-end}

pub returns-then-len-end : goal.returns-then-len-end
returns-then-len-end c = search part-some

pub returns : goal.returns
returns c =
    elim c.else-from-end.branch [
      | else-from-end-via-then-from-end+else-len-end w ↦ part-over _ _ _ w.if-from-end.true w.if-len-end.false
      | else-from-end-via-else-from-end w ↦ part-past _ _ _ w.if-from-end.false
    ]
