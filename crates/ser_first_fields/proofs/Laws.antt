-- A name whose hash is not marked is that of no field before, and what that means for the bits. Assumes nothing.
use Rattle.std.specs.Prelude.{Option, Some, None}
use mathlib.Core.Path.{◌≡◌, refl, sym, ◌∙◌}
use mathlib.Core.Bool.{Bool, true, false}
use mathlib.Core.List.{List}
use Prim.Native.Nat.{ℕ, zero, suc, ◌+◌, ◌-◌, ◌*◌, ◌/◌, ◌%◌, ◌^◌, ◌≤◌, ◌<◌}
use native.Mathlib.Omega.{arith}
use native.Mathlib.Nat.{zero-div}
use borrow.Author.Count.{below_more}
use borrow.Author.Tests.{eqb-true, eqb-false}
use lib.ListN.{length, get_or, replicate, get_or-replicate, length-replicate, get_or-eq_default}
use lib.Dec.{eqb, ltb}
use borrow.Author.Tests.{ltb-true, ltb-false}
use Rattle.type_book.specs.Book.{fields_of, name_of, same_name}
use Rattle.type_book.proofs.Names.{same_eq, same_refl}
use Rattle.ser_named_blocks.specs.Named.{named_from, field_named}
use Rattle.type_marks.proofs.Laws.{bit_is}
use Rattle.type_marks.specs.Marks.{hash_of, bit_of, BitSet, is_marked, Marked}
use Rattle.ser_first_fields.specs.Firsts.{found_block, Met, Firsts, Noted}

-- the block at place i is the first of a name that none before it has
first-at : (book name : List ℕ) (n k i : ℕ) → i < k → ((j : ℕ) → j < i → same_name (name_of book (n + j)) name ≡ false) → same_name (name_of book (n + i)) name ≡ true
    → named_from book name n k ≡ Some (n + i)
unfolding named_from
first-at book name n zero i l before here = absurd (omega arith)
first-at book name n (suc k) zero l before here = let e : n + 0 ≡ n = omega arith in rw (e) (rw (rw e at here))
first-at book name n (suc k) (suc i) l before here =
    let e : n + 0 ≡ n = omega arith in
    let z : n + suc i ≡ n + 1 + i = omega arith in
    let o : same_name (name_of book n) name ≡ false = (rw e at (before 0 (omega arith))) in
    rw (o, z) (first-at book name (n + 1) k i (omega arith) (λ j m. let y : n + suc j ≡ n + 1 + j = omega arith in (rw y at (before (suc j) (omega arith)))) (rw z at here))

module _ (book : List ℕ) (t k c i : ℕ) (names : List ℕ) (met : Met book t k c names i) where
  -- a field before has another name, where the hash is of the class and not marked
  other : hash_of (name_of book (t + 1 + i)) % k ≡ c → is_marked names (hash_of (name_of book (t + 1 + i))) ≡ false → (j : ℕ) → j < i → same_name (name_of book (t + 1 + j)) (name_of book (t + 1 + i)) ≡ false
  other own free j l = by (same_name (name_of book (t + 1 + j)) (name_of book (t + 1 + i))) refl
    where
      by : (g : Bool) → same_name (name_of book (t + 1 + j)) (name_of book (t + 1 + i)) ≡ g → g ≡ false
      by false h = refl
      by true h =
          let s = same_eq (name_of book (t + 1 + j)) (name_of book (t + 1 + i)) h in
          let m : is_marked names (hash_of (name_of book (t + 1 + j))) ≡ true = met.all j l (rw s own) in
          let q : is_marked names (hash_of (name_of book (t + 1 + i))) ≡ true = (rw s at m) in
          sym q ∙ free

  met-more : (names' : List ℕ) → ((g : ℕ) → is_marked names g ≡ true → is_marked names' g ≡ true) → (hash_of (name_of book (t + 1 + i)) % k ≡ c → is_marked names' (hash_of (name_of book (t + 1 + i))) ≡ true) → Met book t k c names' (i + 1)
  met-more names' kept here = record { all = below_more (λ j. hash_of (name_of book (t + 1 + j)) % k ≡ c → is_marked names' (hash_of (name_of book (t + 1 + j))) ≡ true) i (λ j l o. kept _ (met.all j l o)) here }

  module _ (firsts : List ℕ) (f : Firsts book t firsts) (name : List ℕ) (en : name ≡ name_of book (t + 1 + i)) (h : ℕ) (eh : h ≡ hash_of name) where
    pub note_other : (h % k ≡ c → ⊥) → Noted book t k c i names firsts
    note_other q = record { met = met-more names (λ u m. m) (λ o. absurd (q (rw (eh, en) o))); firsts_are = f }

    module _ (g : Bool) (eg : g ≡ is_marked names h) where
      pub note_marked : g ≡ true → Noted book t k c i names firsts
      note_marked q = record { met = met-more names (λ u m. m) (λ _. rw (← en, ← eh) (sym eg ∙ q)); firsts_are = f }

      pub note_new : g ≡ false → h % k ≡ c → i < fields_of book t → (names' firsts' : List ℕ) → Marked names h names' → BitSet firsts i firsts' → Noted book t k c i names' firsts'
      note_new q o l names' firsts' m b =
          let free : is_marked names (hash_of (name_of book (t + 1 + i))) ≡ false = rw (← en, ← eh) (sym eg ∙ q) in
          let class : hash_of (name_of book (t + 1 + i)) % k ≡ c = rw (← en, ← eh) o in
          let own : field_named book t (name_of book (t + 1 + i)) ≡ Some (t + 1 + i) = first-at book (name_of book (t + 1 + i)) (t + 1) (fields_of book t) i l (other class free) (same_refl (name_of book (t + 1 + i))) in
          record {
            met = met-more names' m.kept (λ _. rw (← en, ← eh) m.here);
            firsts_are = record { at = λ j s. by own b j s (eqb j i) refl };
          }
        where
          by : {firsts' : List ℕ} → field_named book t (name_of book (t + 1 + i)) ≡ Some (t + 1 + i) → BitSet firsts i firsts' → (j : ℕ) → bit_of firsts' j ≡ true → (e : Bool) → eqb j i ≡ e
              → field_named book t (name_of book (t + 1 + j)) ≡ Some (t + 1 + j)
          by own b j s true e = rw (eqb-true j i e) own
          by own b j s false e = f.at j (sym (b.others j (eqb-false j i e)) ∙ s)

pub met-none : (book : List ℕ) (t k c : ℕ) (names : List ℕ) → Met book t k c names 0
met-none book t k c names = record { all = λ j l. absurd (omega arith) }

-- what every turn keeps
pub noted-met : {book : List ℕ} {t k c i : ℕ} {names firsts : List ℕ} → Noted book t k c i names firsts → Met book t k c names (i + 1)
noted-met n = n.met

pub noted_firsts : {book : List ℕ} {t k c i : ℕ} {names firsts : List ℕ} → Noted book t k c i names firsts → Firsts book t firsts
noted_firsts n = n.firsts_are

-- where no bit is set nothing is said
none-set : (n i : ℕ) → bit_of (replicate n 0) i ≡ false
none-set n i = sym (bit_is (replicate n 0) i) ∙ by (ltb (i / 32) n) refl
  where
    by : (g : Bool) → ltb (i / 32) n ≡ g → eqb (get_or (replicate n 0) (i / 32) 0 / 2 ^ (i % 32) % 2) 1 ≡ false
    by true e = rw (get_or-replicate {A = ℕ} n (i / 32) 0 0 (ltb-true (i / 32) n e), zero-div (2 ^ (i % 32)))
    by false e =
        let l : length (replicate {A = ℕ} n 0) ≤ i / 32 = rw (length-replicate {A = ℕ} n 0) (ltb-false (i / 32) n e) in
        let z : get_or (replicate {A = ℕ} n 0) (i / 32) 0 ≡ 0 = get_or-eq_default (replicate {A = ℕ} n 0) 0 l in
        rw (z, zero-div (2 ^ (i % 32)))

pub firsts_none : (book : List ℕ) (t n : ℕ) (firsts : List ℕ) → firsts ≡ replicate n 0 → Firsts book t firsts
firsts_none book t n firsts e = rw e (record { at = λ i s. absurd (let z : true ≡ false = sym s ∙ none-set n i in let y : ◌≡◌ {A = ℕ} 0 1 = cc in omega arith) })

pub enough-bits : (book : List ℕ) (t n len : ℕ) → n ≡ fields_of book t → (n + 31) / 32 ≤ len → fields_of book t ≤ 32 * len
enough-bits book t n len e l = omega arith

-- ---- by a name

pub block_at : (x : Option ℕ) (f : ℕ) → x ≡ Some f → f ≡ found_block x
unfolding found_block
block_at x f e = rw e

pub block_none : (x : Option ℕ) → x ≡ None → 0 ≡ found_block x
unfolding found_block
block_none x e = rw e

pub block-named : (book : List ℕ) (t : ℕ) (name : List ℕ) (x : Option ℕ) → x ≡ field_named book t name → (r : ℕ) → r ≡ found_block x → r ≡ found_block (field_named book t name)
block-named book t name x ex r er = er ∙ rw ex

pub named-first : (book : List ℕ) (t f : ℕ) (firsts : List ℕ) → Firsts book t firsts → t < f → (b : Bool) → b ≡ bit_of firsts (f - t - 1) → b ≡ true → f ≡ found_block (field_named book t (name_of book f))
unfolding found_block
named-first book t f firsts x l b eb h =
    let z : t + 1 + (f - t - 1) ≡ f = omega arith in
    let y : field_named book t (name_of book f) ≡ Some f = (rw z at (x.at (f - t - 1) (sym eb ∙ h))) in
    rw y

pub named-searched : (book : List ℕ) (t f : ℕ) (name : List ℕ) → name ≡ name_of book f → (r : ℕ) → r ≡ found_block (field_named book t name) → r ≡ found_block (field_named book t (name_of book f))
named-searched book t f name en r er = er ∙ rw en
