-- `enc_utf_16_ascii::ascii_units` meets its contract. The loop's invariant: where nothing is added up so far, the code units so far are ASCII, and of ASCII nothing is. Assumes nothing.
use mathlib.Core.Path.{refl}
use Rattle.enc_utf_16_ascii.proofs.Blocks.{units_none, units_again, units_all, nothing-again, nothing-all}
use borrow.Author.Rules.{rules}
use Rattle.enc_utf_16_ascii.proofs.ascii_units.Goals as goal

pub loop-i-init : goal.loop-i-init
loop-i-init c = (search rules, λ z. search units_none, λ a. refl)

pub loop-i-preserved : goal.loop-i-preserved
loop-i-preserved c = (search rules, search units_again, search nothing-again)

pub returns : goal.returns
returns c = (search units_all, search nothing-all)
