use native.Mathlib.Omega.{arith}
use Rattle.ser_leaf.proofs.Leaves.{count-signed, count-unsigned, count-below, count-above, count-other}
use Rattle.ser_leaf.proofs.count_leaf.Goals as goal

ruleset exits = (count-signed, count-unsigned, count-below, count-above, count-other)

pub returns-in-7 : goal.returns-in-7
returns-in-7 c = search exits

pub returns-in-8 : goal.returns-in-8
returns-in-8 c = search exits

pub returns-in-6-to-13 : goal.returns-in-6-to-13
returns-in-6-to-13 c = count-other c.args.width c.args.r c.args.out.now (λ e. omega arith) (λ e. omega arith) (omega arith) (omega arith)

pub returns-in-6-to-13-2 : goal.returns-in-6-to-13-2
returns-in-6-to-13-2 c = count-other c.args.width c.args.r c.args.out.now (λ e. omega arith) (λ e. omega arith) (omega arith) (omega arith)

pub returns-in_default : goal.returns-in_default
returns-in_default c = count-below c.args.width c.args.r c.args.out.now (λ e. omega arith) (λ e. omega arith) (omega arith)

pub returns-in_default-2 : goal.returns-in_default-2
returns-in_default-2 c = count-above c.args.width c.args.r c.args.out.now (λ e. omega arith) (λ e. omega arith) (omega arith) (omega arith)
