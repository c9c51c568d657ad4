use Rattle.de_leaf_output.proofs.Leaves.{leaf-record, leaf-text, leaf-refused}
use Rattle.de_leaf_output.proofs.put_leaf.Goals as goal

pub returns-in-Record : goal.returns-in-Record
returns-in-Record c = search leaf-record

pub returns-in-Text : goal.returns-in-Text
returns-in-Text c = search leaf-text

pub returns-in-Refused : goal.returns-in-Refused
returns-in-Refused c = search leaf-refused
