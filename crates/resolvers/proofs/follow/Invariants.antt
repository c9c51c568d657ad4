-- `follow` meets its contract. Assumes nothing.
use mathlib.Core.Path.{◌≡◌}
use mathlib.Core.Bool.{true}
use Prim.Native.Nat.{◌-◌}
use Rattle.type_book.specs.Book.{is_type}
use Rattle.resolvers.specs.Resolve.{is_followed, follow as follow_in, resolve_type}
use Rattle.resolvers.proofs.follow.Given as goal

abbrev pub invariant-loop : goal.invariant-loop
invariant-loop l = (resolve_type l.references l.book l.width l.t ≡ follow_in (is_followed l.references l.book l.width) l.book (32 - l.counter) l.at) × (is_type l.book l.at ≡ true)
