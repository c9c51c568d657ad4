use Rattle.tape.proofs.Records.{record-taken}
use Rattle.tape.proofs.record.from_bytes.Goals as goal

pub returns : goal.returns
returns c = search record-taken
