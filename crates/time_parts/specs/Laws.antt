-- What holds of the two calls together (document 02, change request 7): no two counts of one type give the same parts. Assumes nothing.
use Rattle.std.specs.Prelude.{◌≡◌, List, ℕ, Some, None}
use Rattle.time_parts.specs.declared.Parts.{Parts}
use Rattle.time_parts.specs.Parts.{parts_named, count_named}

-- of the type of that name
pub record Exact (name : List ℕ) : Type 0 where
  -- a count's parts give the count back
  pub there : (n : ℕ) (p : Parts) → parts_named name n ≡ Some p → count_named name p ≡ Some n
  -- the count of some parts has those parts
  pub back : (p : Parts) (n : ℕ) → count_named name p ≡ Some n → parts_named name n ≡ Some p
  -- no two counts give the same parts
  pub one : (n m : ℕ) (p : Parts) → parts_named name n ≡ Some p → parts_named name m ≡ Some p → n ≡ m
  -- parts are refused exactly where no count has them
  pub refused : (p : Parts) → count_named name p ≡ None → (n : ℕ) → parts_named name n ≡ Some p → ⊥
  pub unnamed : (p : Parts) → ((n : ℕ) → parts_named name n ≡ Some p → ⊥) → count_named name p ≡ None
