use Rattle.tape.proofs.Records.{step_past, step-short, step-whole}
use Rattle.tape.proofs.cursor.Cursor.next.Goals as goal

ruleset exits = (step_past, step-short, step-whole)

pub returns-then-tape-at : goal.returns-then-tape-at
returns-then-tape-at c = search exits

pub returns-then-rest-lt-LENGTH : goal.returns-then-rest-lt-LENGTH
returns-then-rest-lt-LENGTH c = search exits

pub returns : goal.returns
returns c = search exits
