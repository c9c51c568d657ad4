use Rattle.print_record_line.proofs.Prints.{array_line, array-end_line, map_line, key_line, map-end_line, record-text_line, enum_line, unit_line, other_line}
use Rattle.print_record_line.proofs.line.Goals as goal

pub returns-in-1 : goal.returns-in-1
returns-in-1 c = search array_line

pub returns-in-2 : goal.returns-in-2
returns-in-2 c = search array-end_line

pub returns-in-3 : goal.returns-in-3
returns-in-3 c = search map_line

pub returns-in-4 : goal.returns-in-4
returns-in-4 c = search key_line

pub returns-in-5 : goal.returns-in-5
returns-in-5 c = search map-end_line

pub returns-in-11 : goal.returns-in-11
returns-in-11 c = search record-text_line

pub returns-in-12 : goal.returns-in-12
returns-in-12 c = search enum_line

pub returns-in-13 : goal.returns-in-13
returns-in-13 c = search unit_line

pub returns-in_default : goal.returns-in_default
returns-in_default c = search other_line
