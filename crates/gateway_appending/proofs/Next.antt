-- How a caller comes to what it may say of its index: by a look at the book, and by what appending answered. Assumes nothing.
use mathlib.Core.Path.{◌≡◌, refl, sym, ap, ◌∙◌, subst}
use mathlib.Core.Bool.{Bool, true, false}
use mathlib.Core.List.{List, [], ◌∷◌}
use Prim.Native.Nat.{ℕ, ◌+◌}
use native.Mathlib.Omega.{arith}
use borrow.Author.Tests.{ne_eqb, eqb-true, eqb-false}
use lib.ListN.{length, take}
use lib.Dec.{eqb}
use Rattle.type_index.specs.declared.Trust.{Trust}
use Rattle.type_index.specs.declared.Trust.TheVariants as trust
use Rattle.type_index.specs.Trust.{holds_all, Trusted}
use Rattle.type_book_check.specs.declared.BookCheck.TheVariants.{Valid}
use Rattle.type_book_check.specs.Check.{check_book}
use Rattle.type_cache.specs.declared.Appended.TheVariants as appended
use Rattle.type_cache.specs.Append.{append_refusal, append_call}
use Rattle.type_cache.proofs.Appends.{call_done, call_refused}
use Rattle.type_cache.proofs.Numbers.{appended-is}
use Rattle.gateway_lent_values.specs.Values.{laid, Gives}
use Rattle.gateway_appending.specs.declared.Growth.{Growth}
use Rattle.gateway_appending.specs.declared.Growth.TheVariants.{Entered, Loose, Refused}
use Rattle.gateway_appending.specs.Growth.{growth_numbers, trust_of, appended_of, trust_after, AppendedBy}

module _ (book index : List ℕ) where
  -- it leads to every type of the book
  pub held-said : holds_all book index ≡ true → Trusted book index (trust_of 1)
  unfolding trust_of
  held-said h = record { held = λ e. h }

  -- nothing is said, so nothing is wrong
  pub other-said : (held : ℕ) → (held ≡ 1 → ⊥) → Trusted book index (trust_of held)
  unfolding trust_of
  other-said held ne = rw (ne_eqb held 1 ne) (record { held = λ e. absurd (let z : ◌≡◌ {A = ℕ} 0 1 = cc in omega arith) })

-- what is to be said the next time: the second value of an answer that is no refusal
pub record Next (after index : List ℕ) (len held : ℕ) : Type 0 where
  pub valid : check_book after len ≡ Valid
  pub trusted : Trusted (take len after) index (trust_of held)

module _ {buffer addition index after index' : List ℕ} {len : ℕ} {t : Trust} where
  pub next-said : (r : Growth) → AppendedBy buffer len addition index t r after index' → (n held : ℕ) → growth_numbers r ≡ 0 ∷ n ∷ held ∷ [] → Next after index' n held
  unfolding growth_numbers trust_of appended_of trust_after
  next-said (Entered m) a n held e =
      let q : m ≡ n = cc in
      let o : 1 ≡ held = cc in
      rw (← q, ← o) (record { valid = a.valid; trusted = a.trusted })
  next-said (Loose m) a n held e =
      let q : m ≡ n = cc in
      let o : 0 ≡ held = cc in
      rw (← q, ← o) (record { valid = a.valid; trusted = a.trusted })
  next-said (Refused m) a n held e = absurd (let z : ◌≡◌ {A = ℕ} 0 1 = cc in omega arith)

-- no refusal has the number 0
never-zero : (buffer : List ℕ) (len : ℕ) (d : List ℕ) → appended.Refused 0 ≡ append_call buffer len d → ⊥
never-zero buffer len d e = by (eqb (append_refusal buffer len d) 0) refl
  where
    by : (g : Bool) → eqb (append_refusal buffer len d) 0 ≡ g → ⊥
    by true q =
        let x : append_call buffer len d ≡ appended.Done (len + length d) = call_done buffer len d (eqb-true _ _ q) in
        let z : ◌≡◌ {A = ℕ} 0 1 = cc in
        omega arith
    by false q =
        let x : append_call buffer len d ≡ appended.Refused (append_refusal buffer len d) = call_refused buffer len d (eqb-false _ _ q) in
        let z : append_refusal buffer len d ≡ 0 = cc in
        eqb-false _ _ q z

-- the same of two lent values, where the number is 0
module _ {buffer addition index after index' : List ℕ} {len : ℕ} {t : Trust} where
  pub given-next : (r : Growth) → AppendedBy buffer len addition index t r after index' → (x y : ℕ) (rest : List ℕ) (n held : ℕ) (more : List ℕ)
      → Gives (growth_numbers r) (x ∷ y ∷ rest) 0 (n ∷ held ∷ more) → Next after index' n held
  unfolding growth_numbers laid appended_of
  given-next (Entered m) a x y rest n held more g =
      let v : n ∷ held ∷ more ≡ m ∷ 1 ∷ rest = g.values in
      let p : n ≡ m = cc in
      let q : held ≡ 1 = cc in
      next-said (Entered m) a n held (rw (p, q))
  given-next (Loose m) a x y rest n held more g =
      let v : n ∷ held ∷ more ≡ m ∷ 0 ∷ rest = g.values in
      let p : n ≡ m = cc in
      let q : held ≡ 0 = cc in
      next-said (Loose m) a n held (rw (p, q))
  given-next (Refused m) a x y rest n held more g =
      let p : 0 ≡ m = g.is in
      absurd (never-zero buffer len addition (rw (← p) at (appended-is _ _ a.appends.answer)))
