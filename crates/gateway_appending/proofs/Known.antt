-- A name that is looked up by an index is known, or not, as by a search of the book; and when an index goes on. Assumes nothing.
use Rattle.std.specs.Prelude.{Option, Some, None}
use mathlib.Core.Path.{◌≡◌, refl, sym, ap, ◌∙◌}
use mathlib.Core.Bool.{Bool, true, false, cond}
use mathlib.Core.List.{List}
use Prim.Native.Nat.{ℕ}
use native.Mathlib.Omega.{arith}
use borrow.Author.Tests.{ne_eqb}
use Rattle.type_book.specs.Book.{is_named}
use Rattle.type_provider.specs.Find.{find, NamedBlock}
use Rattle.type_provider.proofs.Finds.{find-nothing}
use Rattle.type_provider.proofs.Numbers.{found-is, found-says}
use Rattle.type_index.specs.declared.Trust.{Trust}
use Rattle.type_index.specs.declared.Trust.TheVariants as trust
use Rattle.type_index.specs.Index.{FoundBy}
use Rattle.type_index.specs.Trust.{Trusted}
use Rattle.type_index_grow.specs.Grow.{LastIs}
use Rattle.type_cache.specs.Append.{is_known}
use Rattle.type_cache.proofs.Appends.{known_at, known-not}
use Rattle.gateway_appending.specs.declared.Growth.{Growth}
use Rattle.gateway_appending.specs.Growth.{trust_of, stays_trusted, GoesIs, AppendedBy}

module _ (book name : List ℕ) (r : Option ℕ) (f : FoundBy book name r) where
  pub known_by : (n : ℕ) → r ≡ Some n → true ≡ is_known book name
  known_by n e = by (find book name) refl
    where
      b : NamedBlock book name n
      b = f.at n (found-says _ _ e)

      by : (g : Option ℕ) → find book name ≡ g → true ≡ is_known book name
      by (Some m) q = known_at book name (find book name) refl m q
      by None q =
          let y : is_named book name n ≡ false = find-nothing book name q n b.below in
          let x : is_named book name n ≡ true = b.named in
          let z : ◌≡◌ {A = ℕ} 0 1 = cc in
          absurd (omega arith)

  pub new_by : r ≡ None → false ≡ is_known book name
  new_by e = known-not book name (find book name) refl (found-is _ _ (f.nothing (found-says _ _ e)))

-- ---- what a caller says of its index
module _ (held : ℕ) where
  pub said-held : held ≡ 1 → trust.Held ≡ trust_of held
  unfolding trust_of
  said-held e = rw e

  pub said-other : (held ≡ 1 → ⊥) → trust.Foreign ≡ trust_of held
  unfolding trust_of
  said-other ne = rw (ne_eqb held 1 ne)

-- ---- whether the index goes on
module _ (t : Trust) (longer index : List ℕ) (n : ℕ) where
  pub goes-held : t ≡ trust.Held → (r : Bool) (index' : List ℕ) → LastIs longer index n r index' → GoesIs t longer index n r index'
  unfolding stays_trusted
  goes-held e r index' l = record { answer = rw e l.answer; numbers = rw e l.numbers }

  pub goes-unknown : t ≡ trust.Unknown → GoesIs t longer index n false index
  unfolding stays_trusted
  goes-unknown e = record { answer = sym (rw e); numbers = sym (rw e) }

  pub goes_foreign : t ≡ trust.Foreign → GoesIs t longer index n false index
  unfolding stays_trusted
  goes_foreign e = record { answer = sym (rw e); numbers = sym (rw e) }

-- ---- what is so of the index by what the caller says is so by what is known of it, and the other way round
pub trusted-said : (book index : List ℕ) (held : ℕ) (t : Trust) → t ≡ trust_of held → Trusted book index (trust_of held) → Trusted book index t
trusted-said book index held t e k = rw e k

pub appended-said : {buffer addition index after index' : List ℕ} {len : ℕ} {r : Growth} (held : ℕ) (t : Trust) → t ≡ trust_of held
    → AppendedBy buffer len addition index t r after index' → AppendedBy buffer len addition index (trust_of held) r after index'
appended-said held t e a = rw (← e) a
