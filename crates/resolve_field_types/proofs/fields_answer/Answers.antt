-- `fields_answer` meets its contract. Assumes nothing.
use Rattle.resolve_field_types.proofs.Records.{answer-lacks, answer-endless, answer-short, answer-done}
use Rattle.resolve_field_types.proofs.fields_answer.Goals as goal

ruleset exits = (answer-lacks, answer-endless, answer-short, answer-done)

pub returns-in-NotFound : goal.returns-in-NotFound
returns-in-NotFound c = search exits

pub returns-in-TooLong : goal.returns-in-TooLong
returns-in-TooLong c = search exits

pub returns-then-fit-n : goal.returns-then-fit-n
returns-then-fit-n c = search exits

pub returns : goal.returns
returns c = search exits
