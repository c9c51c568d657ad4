use Rattle.print_record_line.proofs.Prints.{word_clipped, word-text}
use Rattle.print_record_line.proofs.text_word.Goals as goal

-- src/lib.rt:86:9
pub returns-then-ended-eq0 : goal.returns-then-ended-eq0
returns-then-ended-eq0 c = search word_clipped

-- src/lib.rt:82:1
pub returns : goal.returns
returns c = search word-text
