-- Laws of type ids; this module alone unfolds `id_of`. Assumes nothing.
use mathlib.Core.Path.{◌≡◌, refl, sym, ap, ◌∙◌}
use mathlib.Core.Bool.{Bool, true, false, cond}
use Prim.Native.Nat.{ℕ}
use lib.Dec.{eqb}
use borrow.Author.Tests.{eqb-true, ne_eqb}
use Rattle.type_id.specs.declared.AdsTypeId.{AdsTypeId}
use Rattle.type_id.specs.declared.AdsTypeId.TheVariants.{Void, Int16, Int32, Real32, Real64, Int8, UInt8, UInt16, UInt32, Int64, UInt64, String, WString, Real80, Bit, MaxTypes, BigType, Unknown}
use Rattle.type_id.specs.TypeId.{id_of, number_of}

-- every type id but Unknown is named
abbrev pub Named : AdsTypeId → Type 0
Named Void = Unit {0}
Named Int16 = Unit {0}
Named Int32 = Unit {0}
Named Real32 = Unit {0}
Named Real64 = Unit {0}
Named Int8 = Unit {0}
Named UInt8 = Unit {0}
Named UInt16 = Unit {0}
Named UInt32 = Unit {0}
Named Int64 = Unit {0}
Named UInt64 = Unit {0}
Named String = Unit {0}
Named WString = Unit {0}
Named Real80 = Unit {0}
Named Bit = Unit {0}
Named MaxTypes = Unit {0}
Named BigType = Unit {0}
Named (Unknown n) = ⊥

-- a named id is that of its number
pub named : (t : AdsTypeId) → Named t → (n : ℕ) → n ≡ number_of t → t ≡ id_of n
unfolding id_of
named Void h n e = rw e
named Int16 h n e = rw e
named Int32 h n e = rw e
named Real32 h n e = rw e
named Real64 h n e = rw e
named Int8 h n e = rw e
named UInt8 h n e = rw e
named UInt16 h n e = rw e
named UInt32 h n e = rw e
named Int64 h n e = rw e
named UInt64 h n e = rw e
named String h n e = rw e
named WString h n e = rw e
named Real80 h n e = rw e
named Bit h n e = rw e
named MaxTypes h n e = rw e
named BigType h n e = rw e
named (Unknown k) h n e = absurd h

-- a number that no named id has is Unknown
pub unknown : (n : ℕ) → (n ≡ 0 → ⊥) → (n ≡ 2 → ⊥) → (n ≡ 3 → ⊥) → (n ≡ 4 → ⊥) → (n ≡ 5 → ⊥) → (n ≡ 16 → ⊥) → (n ≡ 17 → ⊥) → (n ≡ 18 → ⊥) → (n ≡ 19 → ⊥) → (n ≡ 20 → ⊥) → (n ≡ 21 → ⊥) → (n ≡ 30 → ⊥) → (n ≡ 31 → ⊥) → (n ≡ 32 → ⊥) → (n ≡ 33 → ⊥) → (n ≡ 34 → ⊥) → (n ≡ 65 → ⊥) → Unknown n ≡ id_of n
unfolding id_of
unknown n h0 h2 h3 h4 h5 h16 h17 h18 h19 h20 h21 h30 h31 h32 h33 h34 h65 =
    rw (ne_eqb n 0 h0, ne_eqb n 2 h2, ne_eqb n 3 h3, ne_eqb n 4 h4, ne_eqb n 5 h5, ne_eqb n 16 h16, ne_eqb n 17 h17, ne_eqb n 18 h18, ne_eqb n 19 h19, ne_eqb n 20 h20, ne_eqb n 21 h21, ne_eqb n 30 h30, ne_eqb n 31 h31, ne_eqb n 32 h32, ne_eqb n 33 h33, ne_eqb n 34 h34, ne_eqb n 65 h65)

pick : (n k : ℕ) (t u : AdsTypeId) → number_of t ≡ k → number_of u ≡ n → number_of (cond (eqb n k) t u) ≡ n
pick n k t u a b = by (eqb n k) refl
  where
    by : (q : Bool) → eqb n k ≡ q → number_of (cond q t u) ≡ n
    by true e = a ∙ sym (eqb-true n k e)
    by false e = b

-- a number's id has that number
pub number_of_id : (n : ℕ) → number_of (id_of n) ≡ n
unfolding id_of
number_of_id n =
    pick n 0 Void _ refl
    (pick n 2 Int16 _ refl
    (pick n 3 Int32 _ refl
    (pick n 4 Real32 _ refl
    (pick n 5 Real64 _ refl
    (pick n 16 Int8 _ refl
    (pick n 17 UInt8 _ refl
    (pick n 18 UInt16 _ refl
    (pick n 19 UInt32 _ refl
    (pick n 20 Int64 _ refl
    (pick n 21 UInt64 _ refl
    (pick n 30 String _ refl
    (pick n 31 WString _ refl
    (pick n 32 Real80 _ refl
    (pick n 33 Bit _ refl
    (pick n 34 MaxTypes _ refl
    (pick n 65 BigType (Unknown n) refl refl))))))))))))))))

-- the id of a number comes back from its own number; an Unknown that holds a named id's number is the one that does not
pub id_of_number : (n : ℕ) → id_of (number_of (id_of n)) ≡ id_of n
id_of_number n = ap id_of (number_of_id n)

-- what a function of ids gives, at an id that is known
pub known : {X : Type 0} (f : AdsTypeId → X) (t u : AdsTypeId) (x : X) → t ≡ u → x ≡ f u → x ≡ f t
known f t u x e h = rw e h
