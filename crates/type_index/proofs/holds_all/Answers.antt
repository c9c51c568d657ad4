-- `holds_all` meets its contract. Assumes nothing.
use mathlib.Core.Path.{◌≡◌}
use mathlib.Core.Bool.{true, false}
use borrow.Author.Rules.{rules}
use native.Mathlib.Omega.{arith}
use Rattle.std.proofs.lemmas.Iterator.{cases_from_all, YieldsList-from_range}
use Rattle.type_index.specs.Trust.{leads}
use Rattle.type_index.proofs.Trusts.{holds-cases}
use Rattle.type_index.proofs.holds_all.Goals as goal

pub returns : goal.returns
returns c =
    holds-cases c.args.book.now c.args.index.now c.searched.result c.searched.ensures _
    (cases_from_all _ _ _ (λ m. leads c.args.book.now c.args.index.now m ≡ true) (λ m. leads c.args.book.now c.args.index.now m ≡ false) c.all.ensures.ran
    (YieldsList-from_range 0 c.searched.result c.searched.result (cc) (omega arith))
    (λ x q k. search rules) (λ x q k. search rules))
