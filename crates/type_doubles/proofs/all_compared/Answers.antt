use borrow.Author.Rules.{rules}
use native.Mathlib.Omega.{arith}
use mathlib.Core.Path.{◌≡◌}
use mathlib.Core.Bool.{true, false}
use Rattle.std.proofs.lemmas.Iterator.{cases_from_all, YieldsList-from_range}
use Rattle.type_doubles.specs.Doubles.{is_first}
use Rattle.type_doubles.proofs.All.{all-cases}
use Rattle.type_doubles.proofs.all_compared.Goals as goal

pub returns : goal.returns
returns c =
    rw c.blocks-n.ensures at
    (all-cases (is_first c.args.book.now) c.blocks-n.result _
    (cases_from_all _ _ _ (λ m. is_first c.args.book.now m ≡ true) (λ m. is_first c.args.book.now m ≡ false) c.all.ensures.ran
    (YieldsList-from_range 0 c.blocks-n.result c.blocks-n.result (cc) (omega arith))
    (λ x q k. search rules) (λ x q k. search rules)))
