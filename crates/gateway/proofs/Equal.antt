-- Answers of the same numbers. Assumes nothing.
use Rattle.std.specs.Prelude.{Option}
use mathlib.Core.Path.{◌≡◌, ◌∙◌}
use mathlib.Core.List.{List, [], ◌∷◌}
use Prim.Native.Nat.{ℕ}
use Rattle.type_category.specs.declared.type_category.AdsTypeCategory.{AdsTypeCategory}
use Rattle.type_category.specs.Number.{category_number, category_numbers}
use Rattle.type_book_check.specs.declared.BookCheck.{BookCheck}
use Rattle.type_book_check.specs.Check.{book_numbers}
use Rattle.resolvers.specs.Resolve.{resolved_numbers, ResolvedIs}
use Rattle.resolvers.specs.Calls.{resolution_numbers}
use Rattle.resolvers.specs.declared.Resolved.{Resolved}
use Rattle.resolvers.specs.declared.Resolution.{Resolution}
use Rattle.resolvers.proofs.Numbers.{resolved-is}
use Rattle.enc_number.specs.Answer.{refusal_of}
use Rattle.gateway_lent_values.specs.Values.{Gives}
use Rattle.time_parts.specs.declared.Parts.{Parts}
use Rattle.time_parts.specs.Parts.{parts_numbers, count_numbers, count_named}
use Rattle.gateway.specs.Calls.{ChainGiven}

numbered : (k : AdsTypeCategory) (n : ℕ) → n ≡ category_number k → 0 ∷ n ∷ [] ≡ category_numbers k
unfolding category_numbers
numbered k n q = rw q

pub category-given : (k c : AdsTypeCategory) (n : ℕ) {before after : List ℕ} {r : ℕ} → category_numbers k ≡ category_numbers c → n ≡ category_number k
    → Gives (0 ∷ n ∷ []) before r after → Gives (category_numbers c) before r after
category-given k c n e q g = rw (← e, ← numbered k n q) g

pub check-given : (k c : BookCheck) (r : ℕ) → book_numbers k ≡ book_numbers c → r ≡ refusal_of (book_numbers k) → r ≡ refusal_of (book_numbers c)
check-given k c r e q = rw (← e) q

pub chain-given : {book before after : List ℕ} {r : ℕ} {x y : Resolved} → ResolvedIs book y x → Gives (resolved_numbers x) before r after → ChainGiven book y before r after
chain-given q g = record { gives = rw (← q.is) g; typed = λ u e. q.typed u (resolved-is _ _ q.is ∙ e) }

pub resolution-given : (x y : Resolution) {before after : List ℕ} {r : ℕ} → resolution_numbers x ≡ resolution_numbers y
    → Gives (resolution_numbers x) before r after → Gives (resolution_numbers y) before r after
resolution-given x y e g = rw (← e) g

pub parts-given : (x y : Option Parts) {before after : List ℕ} {r : ℕ} → parts_numbers x ≡ parts_numbers y → Gives (parts_numbers x) before r after → Gives (parts_numbers y) before r after
parts-given x y e g = rw (← e) g

pub count-given : (name : List ℕ) (p q : Parts) (x : Option ℕ) {before after : List ℕ} {r : ℕ} → p ≡ q → count_numbers x ≡ count_numbers (count_named name p)
    → Gives (count_numbers x) before r after → Gives (count_numbers (count_named name q)) before r after
count-given name p q x h e g = rw (← h, ← e) g
