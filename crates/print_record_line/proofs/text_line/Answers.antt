use Rattle.print_record_line.proofs.Prints.{text-alone, text_put}
use Rattle.print_record_line.proofs.text_line.Goals as goal

-- src/lib.rt:97:9
pub returns-then-text-eq0 : goal.returns-then-text-eq0
returns-then-text-eq0 c = search text-alone

-- src/lib.rt:92:1
pub returns : goal.returns
returns c = search text_put
