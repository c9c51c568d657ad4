-- When an index's "not there" is the book's, and that a look-up by an index gives what the search of the book gives. Assumes nothing.
use Rattle.std.specs.Prelude.{Option, Some, None}
use mathlib.Core.Path.{◌≡◌, refl, sym, ◌∙◌}
use mathlib.Core.Bool.{Bool, true, false, cond, not, ◌||◌}
use mathlib.Core.List.{List}
use Prim.Native.Nat.{ℕ, zero, suc, ◌+◌, ◌≤◌, ◌<◌}
use native.Mathlib.Omega.{arith}
use native.Mathlib.Nat.{eq-or-lt_of_le}
use mathlib.Core.Logic.{⊎_elim}
use Rattle.type_book.specs.Book.{is_type, name_of, type_name_of}
use Rattle.type_provider.specs.Find.{searched, find, found_numbers, NamedBlock, is_found}
use Rattle.type_provider.proofs.Finds.{find-named, named-kind, named-name, unique-find}
use Rattle.type_provider.proofs.Numbers.{found-is, found-says}
use Rattle.type_block_form.proofs.Bytes.{and_left, and_right}
use Rattle.type_index.specs.declared.Trust.{Trust}
use Rattle.type_index.specs.declared.Trust.TheVariants as trust
use Rattle.type_index.specs.Index.{FoundBy, led_to, probe_of}
use Rattle.type_index.specs.Parts.{Probed}
use Rattle.type_index.specs.Trust.{leads, leads_from, holds_all, trust_then, not_led, Trusted}
use Rattle.type_index.proofs.Probes.{led_probed, probe_probed}
use Rattle.std.proofs.Common.{zero-add, length}
use Rattle.std.proofs.lemmas.List.FromFn.{length-range_with_len, get_or-range_with_len}
use Rattle.std.specs.Bool.{MatchBool}
use Rattle.std.specs.List.{range_with_len, AllWithin, HoldsAt}

-- ---- an index is held against the book

module _ (book index : List ℕ) where
  all : (k i : ℕ) → ((m : ℕ) → i ≤ m → m < i + k → leads book index m ≡ true) → leads_from book index i k ≡ true
  unfolding leads_from
  all zero i h = refl
  all (suc k) i h = rw (h i (omega arith) (omega arith)) (all k (i + 1) (λ m l g. h m (omega arith) (omega arith)))

  each : (k i : ℕ) → leads_from book index i k ≡ true → (m : ℕ) → i ≤ m → m < i + k → leads book index m ≡ true
  unfolding leads_from
  each zero i e m l b = absurd (omega arith)
  each (suc k) i e m l b =
      ⊎_elim
      (λ q. rw (← q) (and_left (leads book index i) _ e))
      (λ q. each k (i + 1) (and_right (leads book index i) _ e) m (omega arith) (omega arith))
      (eq-or-lt_of_le l)

  -- what the chain over the numbers of the blocks says: the index leads to each, or not to one
  pub holds-cases : (n : ℕ) → n ≡ searched book → (r : Bool)
      → MatchBool r (AllWithin (λ m. leads book index m ≡ true) (range_with_len 0 n) 0 (length (range_with_len 0 n))) ((k : ℕ) × (k < length (range_with_len 0 n)) × HoldsAt (λ m. leads book index m ≡ false) (range_with_len 0 n) k)
      → r ≡ holds_all book index
  unfolding holds_all
  holds-cases n en true h =
      sym (all (searched book) 0 (λ m l g. rw (get_or-range_with_len 0 n m 0 (omega arith), zero-add m) at (h m 0 (omega arith) (omega (arith, length-range_with_len 0 n)))))
  holds-cases n en false h = by (leads_from book index 0 (searched book)) refl
    where
      by : (t : Bool) → leads_from book index 0 (searched book) ≡ t → false ≡ t
      by false e = refl
      by true e =
          let l : h.0 < n = omega (arith, h.1, length-range_with_len 0 n) in
          let f : leads book index h.0 ≡ false = rw (get_or-range_with_len 0 n h.0 0 l, zero-add h.0) at (h.2 0) in
          sym f ∙ each (searched book) 0 e h.0 (omega arith) (omega arith)

  -- nothing is known, so nothing is wrong
  pub unknown-trusted : Trusted book index trust.Unknown
  unknown-trusted = record { held = λ e. absurd (let z : ◌≡◌ {A = ℕ} 0 1 = cc in omega arith) }

  -- what is known once the index was held against the book is right
  pub then-trusted : (t r : Trust) → r ≡ trust_then book index t → Trusted book index t → Trusted book index r
  unfolding trust_then
  then-trusted t r e k = record { held = λ h. by t k (sym e ∙ h) }
    where
      told : (g : Bool) → cond g trust.Held trust.Foreign ≡ trust.Held → g ≡ true
      told true q = refl
      told false q = absurd (let z : ◌≡◌ {A = ℕ} 0 1 = cc in omega arith)

      by : (t : Trust) → Trusted book index t → trust_then book index t ≡ trust.Held → holds_all book index ≡ true
      by trust.Held k q = k.held refl
      by trust.Foreign k q = absurd (let z : ◌≡◌ {A = ℕ} 0 1 = cc in omega arith)
      by trust.Unknown k q = told (holds_all book index) q

  -- ---- its "not there" is the book's

  -- whatever the hash: an index that leads to each type block by its own name leads to every name that the book has
  pub not_there : holds_all book index ≡ true → (name : List ℕ) → probe_of book index name ≡ None → find book name ≡ None
  unfolding holds_all leads
  not_there h name e = by (find book name) refl
    where
      led : (n : ℕ) → NamedBlock book name n → leads book index n ≡ true → ⊥
      led n b q =
          let t : is_type book n ≡ true = named-kind book name n b.named in
          let w : name_of book n ≡ name = named-name book name n b.named in
          let x : ◌≡◌ {A = Bool} (not true || is_found None) true = (rw (t, w, e) at q) in
          let z : ◌≡◌ {A = ℕ} 0 1 = cc in omega arith

      by : (f : Option ℕ) → find book name ≡ f → find book name ≡ None
      by None q = q
      by (Some n) q =
          let b = find-named book name n q in
          absurd (led n b (each (searched book) 0 h n (omega arith) (let l : n < searched book = b.below in omega arith)))

-- ---- the look-ups

module _ (book name : List ℕ) where
  pub not-held : (t : Trust) → t ≡ trust.Held → None ≡ not_led book t name
  unfolding not_led
  not-held t e = rw e

  module _ (t : Trust) (r : Option ℕ) (er : found_numbers r ≡ found_numbers (find book name)) where
    pub not-unknown : t ≡ trust.Unknown → r ≡ not_led book t name
    unfolding not_led
    not-unknown e = rw e (found-is _ _ er)

    pub not_foreign : t ≡ trust.Foreign → r ≡ not_led book t name
    unfolding not_led
    not_foreign e = rw e (found-is _ _ er)

  by_search : (r : Option ℕ) → r ≡ find book name → FoundBy book name r
  by_search r e =
      record {
        at = λ n h. find-named book name n (sym e ∙ found-is _ _ h);
        nothing = λ h. sym (found-says _ _ e) ∙ h;
        unique = λ u. found-says _ _ e;
      }

  by_probed : (r : Option ℕ) (n : ℕ) → Probed book name r → r ≡ Some n → FoundBy book name (Some n)
  by_probed r n p e =
      record {
        at = λ m h. p.at m (e ∙ found-is _ _ h);
        nothing = λ h. absurd (let q : Some n ≡ None = found-is _ _ h in let z : ◌≡◌ {A = ℕ} 0 1 = cc in omega arith);
        unique = λ u. found-says _ _ (sym (unique-find book u name n (p.at n e)));
      }

  module _ (index : List ℕ) (f : Option ℕ) (ef : f ≡ probe_of book index name) where
    pub by_probe : (n : ℕ) → f ≡ Some n → FoundBy book name (Some n)
    by_probe n e = by_probed f n (probe_probed book index name f ef) e

    -- the index does not lead to the name: the search, or the index that holds all, says that it is not there
    pub by_trust : (t : Trust) → Trusted book index t → f ≡ None → (r : Option ℕ) → r ≡ not_led book t name → FoundBy book name r
    unfolding not_led
    by_trust t k e r er = by_search r (er ∙ same t k)
      where
        same : (t : Trust) → Trusted book index t → not_led book t name ≡ find book name
        same trust.Held k = sym (not_there book index (k.held refl) name (sym ef ∙ e))
        same trust.Unknown k = refl
        same trust.Foreign k = refl

-- the same of the type name of a block, by its hint or by its name
module _ (book : List ℕ) (b : ℕ) (name : List ℕ) (en : name ≡ type_name_of book b) (r : Option ℕ) where
  pub of_hint : (slot : ℕ) → r ≡ led_to book name slot → (n : ℕ) → r ≡ Some n → FoundBy book (type_name_of book b) (Some n)
  of_hint slot er n e = rw (← en) (by_probed book name r n (led_probed book name slot r er) e)

  pub of_name : FoundBy book name r → FoundBy book (type_name_of book b) r
  of_name f = rw (← en) f
