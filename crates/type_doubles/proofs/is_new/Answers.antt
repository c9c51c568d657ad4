use borrow.Author.Rules.{rules}
use native.Mathlib.Omega.{arith}
use mathlib.Core.Path.{◌≡◌}
use mathlib.Core.Bool.{true, false}
use Rattle.std.proofs.lemmas.Iterator.{cases_from_all, YieldsList-from_range}
use Rattle.type_doubles.specs.Doubles.{is_other}
use Rattle.type_doubles.proofs.All.{all-cases}
use Rattle.type_doubles.proofs.is_new.Goals as goal

pub returns : goal.returns
unfolding is_other
returns c =
    all-cases (is_other c.args.book.now c.args.name.now) c.args.n _
    (cases_from_all _ _ _ (λ m. is_other c.args.book.now c.args.name.now m ≡ true) (λ m. is_other c.args.book.now c.args.name.now m ≡ false) c.all.ensures.ran
    (YieldsList-from_range 0 c.args.n c.args.n (cc) (omega arith))
    (λ x q k. search rules) (λ x q k. search rules))
