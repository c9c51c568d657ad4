-- The tests on names: each loop keeps that the whole is what is left. Assumes nothing.
use mathlib.Core.Path.{◌≡◌, refl, sym, ◌∙◌}
use mathlib.Core.Bool.{Bool, true, false, ◌||◌, and-true}
use mathlib.Core.List.{List, [], ◌∷◌}
use Prim.Native.Nat.{ℕ, ◌+◌, ◌-◌, ◌≤◌, ◌<◌}
use native.Mathlib.Nat.{le_refl}
use native.Mathlib.Omega.{arith}
use native.Mathlib.Numerals.{add-one}
use lib.ListN.{length, take, drop, drop_of_length-le, length-take, length-drop}
use lib.Seq.{drop-cons, take_all}
use lib.Dec.{eqb}
use borrow.Author.Tests.{ne_eqb}
use Rattle.type_book.specs.Book.{same_name}
use Rattle.type_names.specs.Text.{starts_with, contains}
use Rattle.std.specs.List.{list_any}
use Rattle.type_book.proofs.Names.{same-lengths}

pub starts-short : (name start : List ℕ) → length name < length start → false ≡ starts_with name start
unfolding starts_with
starts-short name start h = same-lengths (take (length start) name) start (λ e. omega (arith, simp length-take at e))

pub starts-whole : (name start : List ℕ) (t : Bool) → t ≡ same_name (take (length start) name) start → t ≡ starts_with name start
unfolding starts_with
starts-whole name start t e = e

-- one byte is compared as such
starts-byte : (x b : ℕ) (xs : List ℕ) → starts_with (x ∷ xs) (b ∷ []) ≡ eqb x b
unfolding starts_with same_name
starts-byte x b xs = and-true (eqb x b)

in_nothing : (part : List ℕ) → contains [] part ≡ eqb (length part) 0
unfolding contains starts_with same_name
in_nothing [] = refl
in_nothing (x ∷ xs) = sym (ne_eqb (length (x ∷ xs)) 0 (λ e. omega arith))

module _ (name part : List ℕ) (i : ℕ) (inv : contains name part ≡ contains (drop i name) part) where
  turn : i < length name → contains name part ≡ starts_with (drop i name) part || contains (drop (i + 1) name) part
  unfolding contains
  turn h = inv ∙ rw (add-one, drop-cons name i 0 h)

  module _ (t : Bool) (q : t ≡ starts_with (take (length name - i) (drop i name)) part) where
    is-rest : take (length name - i) (drop i name) ≡ drop i name
    is-rest = take_all (length name - i) (drop i name) (simp length-drop (le_refl _))

    pub contains-here : i < length name → t ≡ true → true ≡ contains name part
    contains-here h y = sym (turn h ∙ rw (← is-rest, ← q, y))

    pub contains-again : i < length name → t ≡ false → contains name part ≡ contains (drop (i + 1) name) part
    contains-again h y = turn h ∙ rw (← is-rest, ← q, y)

  pub contains-end : length name ≤ i → eqb (length part) 0 ≡ contains name part
  contains-end h = sym (inv ∙ rw (drop_of_length-le name h) (in_nothing part))

pub any_byte : (name : List ℕ) (byte : ℕ) → list_any (λ y. eqb y byte) name ≡ contains name (byte ∷ [])
unfolding contains starts_with same_name
any_byte [] byte = refl
any_byte (x ∷ xs) byte = rw (any_byte xs byte, starts-byte x byte xs)

-- what a slice's own search for a byte says
pub byte_told : (name : List ℕ) (byte : ℕ) (t : Bool) → t ≡ list_any (λ y. eqb y byte) name → t ≡ contains name (byte ∷ [])
byte_told name byte t e = e ∙ any_byte name byte
