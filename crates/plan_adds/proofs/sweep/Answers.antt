use Rattle.plan_adds.proofs.Lists.{sweeps_start, sweeps_ready, sweeps_end, sweeps_stop, sweeps_again}
use borrow.Author.Rules.{rules}
use Prim.Native.Nat.{◌-◌}
use Rattle.plan_adds.proofs.sweep.Goals as goal

ruleset exits = (sweeps_end, sweeps_stop)

pub loop-i-init : goal.loop-i-init
loop-i-init c = (search sweeps_start, search rules, search rules)

pub returns-then-at-i : goal.returns-then-at-i
returns-then-at-i c = search exits

pub sweep_block-swept-requires : goal.sweep_block-swept-requires
sweep_block-swept-requires c = (search rules, search rules, search sweeps_ready)

pub loop-i-preserved : goal.loop-i-preserved
loop-i-preserved c = (search sweeps_again, search rules, search rules)

pub returns : goal.returns
returns c = search exits
