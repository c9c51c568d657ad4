-- What an index leads to, turn by turn, and that it is a type block of the name. Assumes nothing.
use Rattle.std.specs.Prelude.{Option, Some, None}
use mathlib.Core.Path.{◌≡◌, refl, sym, ap, ◌∙◌}
use mathlib.Core.Bool.{Bool, true, false, cond, ◌&&◌}
use mathlib.Core.List.{List}
use Prim.Native.Nat.{ℕ, zero, suc, ◌+◌, ◌-◌, ◌≤◌, ◌<◌, min}
use native.Mathlib.Omega.{arith}
use lib.ListN.{length, get_or, get_or-eq_default}
use lib.Dec.{eqb, ltb}
use borrow.Author.Tests.{eq-eqb, ne_eqb, ltb-true, lt-ltb, le-ltb}
use Rattle.type_book.specs.Book.{blocks, is_named}
use Rattle.type_provider.specs.Find.{searched, NamedBlock}
use Rattle.type_block_form.proofs.Bytes.{and_left, and_right}
use Rattle.type_index.specs.Index.{slots_of, slot_for, next_of, led_to, first_found, probe_from, probe_of}
use Rattle.type_index.specs.Parts.{HintsAt, PlaceIs, NextIs, Probed}

-- ---- what one number stands for

module _ (book name : List ℕ) where
  pub led-none : (slot : ℕ) → slot ≡ 0 → None ≡ led_to book name slot
  unfolding led_to
  led-none slot e = rw e

  module _ (slot : ℕ) (ne : slot ≡ 0 → ⊥) (s : ℕ) (es : s ≡ searched book) where
    from_one : slot ≡ suc (slot - 1)
    from_one = omega (arith, ne)

    pub led-past : s ≤ slot - 1 → None ≡ led_to book name slot
    unfolding led_to
    led-past l = sym (ap (led_to book name) from_one ∙ rw (le-ltb (slot - 1) (searched book) (rw (← es) l)))

    module _ (l : slot - 1 < s) (t : Bool) (et : t ≡ is_named book name (slot - 1)) where
      led-within : led_to book name slot ≡ cond t (Some (slot - 1)) None
      unfolding led_to
      led-within = ap (led_to book name) from_one ∙ rw (lt-ltb (slot - 1) (searched book) (rw (← es) l), et)

      pub led-here : t ≡ true → Some (slot - 1) ≡ led_to book name slot
      led-here h = sym (led-within ∙ rw h)

      pub led-other : t ≡ false → None ≡ led_to book name slot
      led-other h = sym (led-within ∙ rw h)

  -- it is a type block of that name
  led-named : (slot n : ℕ) → led_to book name slot ≡ Some n → NamedBlock book name n
  unfolding led_to
  led-named zero n e = absurd (let z : ◌≡◌ {A = ℕ} 0 1 = cc in omega arith)
  led-named (suc m) n e = by (ltb m (searched book) && is_named book name m) refl e
    where
      by : (g : Bool) → ltb m (searched book) && is_named book name m ≡ g → cond g (Some m) None ≡ Some n → NamedBlock book name n
      by true h q =
          let w : m ≡ n = cc in
          rw (← w) (record { below = ltb-true m (searched book) (and_left (ltb m (searched book)) (is_named book name m) h); named = and_right (ltb m (searched book)) (is_named book name m) h })
      by false h q = absurd (let z : ◌≡◌ {A = ℕ} 0 1 = cc in omega arith)

  pub led_probed : (slot : ℕ) (r : Option ℕ) → r ≡ led_to book name slot → Probed book name r
  led_probed slot r e = record { at = λ n h. led-named slot n (sym e ∙ h) }

-- ---- the slots, one after the other

pub none : (n len : ℕ) → (0 < len → 0 < n) → n ≡ 0 → len ≡ 0
none n zero f z = refl
none n (suc len) f z = absurd (let l : 0 < n = f (omega arith) in omega arith)

module _ (book index name : List ℕ) where
  from_named : (n k at m : ℕ) → probe_from book index name n at k ≡ Some m → NamedBlock book name m
  unfolding probe_from first_found
  from_named n zero at m e = absurd (let z : ◌≡◌ {A = ℕ} 0 1 = cc in omega arith)
  from_named n (suc k) at m e = by (eqb (get_or index at 0) 0) (from_named n k (next_of n at) m) e
    where
      led : (f later : Option ℕ) → f ≡ led_to book name (get_or index at 0) → (later ≡ Some m → NamedBlock book name m) → first_found f later ≡ Some m → NamedBlock book name m
      led (Some x) later ef ih q = led-named book name (get_or index at 0) m (sym ef ∙ q)
      led None later ef ih q = ih q

      by : (g : Bool) → (probe_from book index name n (next_of n at) k ≡ Some m → NamedBlock book name m)
          → cond g None (first_found (led_to book name (get_or index at 0)) (probe_from book index name n (next_of n at) k)) ≡ Some m → NamedBlock book name m
      by true ih q = absurd (let z : ◌≡◌ {A = ℕ} 0 1 = cc in omega arith)
      by false ih q = led (led_to book name (get_or index at 0)) _ refl ih q

  pub probe_probed : (r : Option ℕ) → r ≡ probe_of book index name → Probed book name r
  unfolding probe_of
  probe_probed r e = record { at = λ m h. from_named _ 64 _ m (sym e ∙ h) }

  module _ (n : ℕ) (hints : HintsAt book (length index) n) where
    -- an index without slots has no numbers
    pub probe_empty : n ≡ 0 → None ≡ probe_of book index name
    unfolding probe_of probe_from
    probe_empty z =
        let l : length index ≡ 0 = none n (length index) hints.some z in
        let g : (i : ℕ) → get_or index i 0 ≡ 0 = λ i. get_or-eq_default index 0 (omega arith) in
        sym (rw (g (slot_for name (slots_of book (length index)))))

    pub probe_start : (at : ℕ) → PlaceIs name n at → probe_from book index name n at 64 ≡ probe_of book index name
    unfolding probe_of
    probe_start at p = rw (p.is, hints.is)

  module _ (n at i : ℕ) (inv : probe_from book index name n at (64 - i) ≡ probe_of book index name) where
    pub probe_end : 64 ≤ i → None ≡ probe_of book index name
    unfolding probe_from
    probe_end l = let z : 64 - i ≡ 0 = omega arith in ap (probe_from book index name n at) (sym z) ∙ inv

    module _ (l : i < 64) (slot : ℕ) (es : slot ≡ get_or index at 0) where
      turn : probe_of book index name ≡ cond (eqb slot 0) None (first_found (led_to book name slot) (probe_from book index name n (next_of n at) (64 - (i + 1))))
      unfolding probe_from
      turn = let z : 64 - i ≡ suc (64 - (i + 1)) = omega arith in sym inv ∙ ap (probe_from book index name n at) z ∙ rw es

      pub probe_free : slot ≡ 0 → None ≡ probe_of book index name
      probe_free e = sym (turn ∙ rw (eq-eqb slot 0 e))

      module _ (ne : slot ≡ 0 → ⊥) (f : Option ℕ) (ef : f ≡ led_to book name slot) where
        tried : probe_of book index name ≡ first_found f (probe_from book index name n (next_of n at) (64 - (i + 1)))
        tried = turn ∙ rw (ne_eqb slot 0 ne, ef)

        pub probe_here : (m : ℕ) → f ≡ Some m → f ≡ probe_of book index name
        unfolding first_found
        probe_here m e = e ∙ sym (tried ∙ rw e)

        pub probe_again : f ≡ None → (at' : ℕ) → NextIs at n at' → probe_from book index name n at' (64 - (i + 1)) ≡ probe_of book index name
        unfolding first_found
        probe_again e at' p = sym (tried ∙ rw (e, p.is))

-- ---- a hint

module _ (book index name : List ℕ) (f : Option ℕ) (ef : f ≡ probe_of book index name) where
  -- its number has room for one more
  pub hint_fits : (t : ℕ) → f ≡ Some t → t + 1 < 4294967296
  hint_fits t e = let l : t < min (blocks book) 65536 = ((probe_probed book index name f ef).at t e).below in omega arith
