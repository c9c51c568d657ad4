-- After a sweep from block 0 an ask lists only what can't be added. Assumes nothing.
use Rattle.std.specs.Prelude.{Option, Some, None}
use mathlib.Core.Path.{◌≡◌, refl, sym, ap, ◌∙◌}
use mathlib.Core.Bool.{true, false}
use mathlib.Core.List.Memᴰ
use mathlib.Core.List.{List, ◌∷◌}
use Prim.Native.Nat.{ℕ}
use Rattle.type_book.specs.Book.{is_type, name_of, type_name_of}
use Rattle.type_provider.specs.Find.{find}
use Rattle.type_provider.proofs.Finds.{find-named, named-name}
use lib.ListN.{length}
use Rattle.type_book_check.specs.declared.BookCheck.TheVariants.{Valid}
use Rattle.type_book_check.specs.Check.{check_book, ValidBook}
use Rattle.type_book_check.proofs.Valid.{valid-book}
use Rattle.type_book_check.proofs.Numbers.{valid-number}
use Rattle.type_cache.specs.Append.{is_known, has_room, append_refusal}
use Rattle.type_cache.specs.Same.{definition_of}
use Rattle.type_cache.proofs.Appends.{known-not, refused-room}
use Rattle.type_cache.proofs.Adds.{definition_name, definition_whole}
use Rattle.resolvers.proofs.Chains.{found_type}
use Rattle.resolve_walk.specs.Reads.{listed}
use Rattle.resolve_missing_types.proofs.Missings.{listed-lacking}
use Rattle.closure.specs.Calls.{Ours, book_of, walk_at}
use Rattle.plan_adds.specs.Adds.{Adding, lacks, room, then_on, append_of, fetch_by, fetch_of, add_listed, sweep, add_all}
use Rattle.plan_decides.proofs.Below.{listed-all, listed_below}
use Rattle.plan_decides.proofs.Taken.{Taken, alias-taken, parts-taken}
use Rattle.plan_decides.proofs.Settles.{Settled, sweep_settles}

-- the adding ended at once: the controller's book lacks the name, or there is no room
pub data Stuck (z : Ours) (a : Adding) : Type 0 where
  nowhere : (b : ℕ) → a ≡ lacks b z → Stuck z a
  full : a ≡ room z → Stuck z a

module _ (c : List ℕ) (w : ValidBook c) (z : Ours) (v : check_book z.buffer z.len ≡ Valid) (b : ℕ) where
  append_full : (n : ℕ) → is_type c n ≡ true → find (book_of z) (name_of c n) ≡ None
      → has_room (length z.buffer) z.len (length (definition_of c n)) ≡ false → append_of c n z ≡ room z
  unfolding append_of
  append_full n t e r =
      let d : List ℕ = definition_of c n in
      let q : 15 ≡ append_refusal z.buffer z.len (definition_of c n) =
      refused-room z.buffer z.len d (check_book z.buffer z.len) refl 0 (valid-number _ v) refl 0 (sym (definition_whole c w n t)) refl (name_of d 0) refl
      (is_known (book_of z) (name_of d 0)) refl (sym (known-not (book_of z) (name_of d 0) _ refl (rw (definition_name c w n t) e)))
      (has_room (length z.buffer) z.len (length d)) refl r in
      rw (← q)

  fetch_stuck : find (book_of z) (type_name_of (book_of z) b) ≡ None → Settled c z (type_name_of (book_of z) b) → Stuck z (fetch_of c b z)
  unfolding fetch_by
  fetch_stuck e o = by (find c (type_name_of (book_of z) b)) refl
    where
      by : (f : Option ℕ) → find c (type_name_of (book_of z) b) ≡ f → Stuck z (fetch_by c b z f)
      by (Some n) q =
          let x : name_of c n ≡ type_name_of (book_of z) b = named-name c (type_name_of (book_of z) b) n (find-named c (type_name_of (book_of z) b) n q).named in
          Stuck.full (append_full n (found_type c (type_name_of (book_of z) b) n q) (ap (find (book_of z)) x ∙ e) (o.full e n q))
      by None q = Stuck.nowhere b refl

  all_stuck : (width i : ℕ) (bs : List ℕ) → Stuck z (fetch_of c b z) → Stuck z (add_all c width i (b ∷ bs) z)
  unfolding add_all add_listed then_on
  all_stuck width i bs (Stuck.nowhere x e) = Stuck.nowhere x (rw e)
  all_stuck width i bs (Stuck.full e) = Stuck.full (rw e)

pub listed_stuck : (c : List ℕ) → ValidBook c → (width root : ℕ) (s z : Ours) → check_book s.buffer s.len ≡ Valid → check_book z.buffer z.len ≡ Valid
    → z ≡ sweep c width 0 s → is_type (book_of z) root ≡ true → (i b : ℕ) (bs : List ℕ) → listed (walk_at width root z) ≡ b ∷ bs → Stuck z (add_all c width i (b ∷ bs) z)
listed_stuck c w width root s z u v e h i b bs q =
    let y : ValidBook (book_of z) = valid-book z.buffer z.len v in
    let t : Taken (book_of z) width b =
    listed-all (book_of z) width y (λ (x : ℕ). Taken (book_of z) width x) (λ t k x m. parts-taken (book_of z) width y t k x m) (λ t k f. alias-taken (book_of z) width y t k f)
    root h b (rw q (Memᴰ.head refl)) in
    let o : Settled c z (type_name_of (book_of z) b) =
    sweep_settles c w width z b t (listed_below (book_of z) width y root h b (rw q (Memᴰ.head refl))) s u e in
    all_stuck c w z v b width i bs (fetch_stuck c w z v b (listed-lacking (book_of z) width root y h b (rw q (Memᴰ.head refl))).lacking o)
