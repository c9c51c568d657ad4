-- Document 01's cases of a chain, in any book: 31 hops resolve; 32 answer 8, but 7 if the 32nd target is missing; an alias to itself is 8.
-- Assumes nothing.
use Rattle.std.specs.Prelude.{Some, None}
use mathlib.Core.Path.{◌≡◌, ap, ◌∙◌}
use mathlib.Core.Bool.{Bool, true, false}
use mathlib.Core.List.{List}
use Prim.Native.Nat.{ℕ, zero, suc, ◌+◌}
use native.Mathlib.Omega.{arith}
use Rattle.type_book.specs.Book.{type_name_of}
use Rattle.type_provider.specs.Find.{find}
use Rattle.resolvers.specs.declared.Resolved.TheVariants.{Base, NotFound, TooLong}
use Rattle.resolvers.specs.Resolve.{is_followed, follow, resolve_type}
use Rattle.resolvers.specs.Hops.{Hops, none, hop}
use Rattle.resolvers.proofs.Chains.{follow-none, follow-base, follow-on, follow-lacks}

module _ (goes : ℕ → Bool) (book : List ℕ) where
  -- after k hops, what is left of the look-ups is made from there
  pub hops_follow : (k m t u : ℕ) → Hops goes book k t u → follow goes book (k + m) t ≡ follow goes book m u
  hops_follow zero m t u none = let z : 0 + m ≡ m = omega arith in rw z
  hops_follow (suc k) m t u (hop {n = n} h e r) =
      let z : suc k + m ≡ suc (k + m) = omega arith in
      ap (λ (j : ℕ). follow goes book j t) z ∙ follow-on goes book (k + m) t n h e ∙ hops_follow k m n u r

  -- a block that names itself
  pub hops_self : (k t : ℕ) → goes t ≡ true → find book (type_name_of book t) ≡ Some t → Hops goes book k t t
  hops_self zero t h e = none
  hops_self (suc k) t h e = hop h e (hops_self k t h e)

module _ (references : Bool) (book : List ℕ) (width : ℕ) where
  pub hops_31 : (t u : ℕ) → Hops (is_followed references book width) book 31 t u → is_followed references book width u ≡ false
      → resolve_type references book width t ≡ Base u
  hops_31 t u r h = hops_follow (is_followed references book width) book 31 1 t u r ∙ follow-base (is_followed references book width) book 0 u h

  pub hops_32 : (t u : ℕ) → Hops (is_followed references book width) book 32 t u → resolve_type references book width t ≡ TooLong
  hops_32 t u r = hops_follow (is_followed references book width) book 32 0 t u r ∙ follow-none (is_followed references book width) book u

  pub hops_missing : (t u : ℕ) → Hops (is_followed references book width) book 31 t u → is_followed references book width u ≡ true
      → find book (type_name_of book u) ≡ None → resolve_type references book width t ≡ NotFound u
  hops_missing t u r h e = hops_follow (is_followed references book width) book 31 1 t u r ∙ follow-lacks (is_followed references book width) book 0 u h e

  pub self_endless : (t : ℕ) → is_followed references book width t ≡ true → find book (type_name_of book t) ≡ Some t → resolve_type references book width t ≡ TooLong
  self_endless t h e = hops_32 t t (hops_self (is_followed references book width) book 32 t h e)
