use Rattle.ser_named_blocks.proofs.Names.{named_start, named_here, named_again, named_none}
use Rattle.ser_named_blocks.proofs.find_named.Goals as goal

pub loop-i-init : goal.loop-i-init
loop-i-init c = search named_start

pub returns-then-same_name : goal.returns-then-same_name
returns-then-same_name c = search named_here

pub loop-i-preserved : goal.loop-i-preserved
loop-i-preserved c = search named_again

pub returns : goal.returns
returns c = search named_none
