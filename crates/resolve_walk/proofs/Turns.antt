-- What a turn of the walk does to the state, and what `step` and `start` owe at each exit. Assumes nothing.
use Rattle.std.specs.Prelude.{Option, Some, None}
use mathlib.Core.Path.{◌≡◌, refl, sym, ap, ◌∙◌}
use mathlib.Core.Bool.{Bool, true, false, ◌&&◌, ◌||◌, and-true, and-false}
use mathlib.Core.Logic.{⊎_elim}
use mathlib.Core.List.Memᴰ
use mathlib.Core.List.{List, [], ◌∷◌, ◌++◌, Memᴰ}
use Prim.Native.Nat.{ℕ, zero, suc, ◌+◌, ◌*◌, ◌-◌, ◌/◌, ◌%◌, ◌^◌, ◌≤◌, ◌<◌}
use native.Mathlib.Omega.{arith}
use native.Mathlib.Nat.{zero-div}
use lib.ListN.{length, get_or, replicate}
use lib.Dec.{eqb}
use borrow.Author.Tests.{eq-eqb, ne_eqb}
use Rattle.type_book.specs.Book.{is_type, name_of, type_name_of, same_name}
use Rattle.type_provider.specs.Find.{find}
use Rattle.type_book.proofs.Names.{same_eq, eq_same}
use Rattle.type_book_check.specs.Check.{ValidBook}
use Rattle.type_book_check.proofs.Valid.{valid-own}
use Rattle.resolvers.specs.declared.Resolved.{Resolved}
use Rattle.resolvers.specs.declared.Resolved.TheVariants.{Base, NotFound, TooLong}
use Rattle.resolvers.specs.Resolve.{chain_onward, resolve_alias}
use Rattle.resolve_walk_scratch.specs.declared.Taken.{Taken}
use Rattle.resolve_walk_scratch.specs.Scratch.{stack_of, marked_in, lacking_bit, is_part, names_it, has_ref, was_listed, Took, BlockMarked}
use Rattle.resolve_walk_scratch.proofs.Places.{bit_past}
use Rattle.resolve_walk_scratch.specs.Parts.{parts_of}
use Rattle.resolve_walk_events.specs.Events.{settled_event, Dead, Settled, Settles}
use Rattle.resolve_walk_events.specs.declared.Event.{Event}
use Rattle.resolve_walk_events.specs.declared.Event.TheVariants.{Old, New, Full}
use Rattle.resolve_walk_events.specs.declared.Event.TheVariants as event
use Rattle.resolve_walk.specs.Walk.{Walk, met, comes_to, has, push, walk, meet, walk_of}
use Rattle.resolve_walk.specs.State.{seen_by, turn_event, new_on, turn_on, step_event, step_on, LeftToWalk, After, work, Falls, DueAfter, Stepped, Started}
use Rattle.resolve_walk.proofs.Goes.{walk-old, walk-fresh, walk-stop}
use Rattle.resolve_walk.proofs.Places.{find-name, find-below, part-is}

at-nothing : {X : Type 0} {t : ℕ} → Some t ≡ None → X
at-nothing e = absurd (let z : ◌≡◌ {A = ℕ} 0 1 = cc in omega arith)

same_as : (y x : List ℕ) (t u : ℕ) → (y ≡ x → t ≡ u) → (t ≡ u → y ≡ x) → same_name y x ≡ eqb t u
same_as y x t u f g = by (same_name y x) refl
  where
    by : (r : Bool) → same_name y x ≡ r → r ≡ eqb t u
    by true h = sym (eq-eqb t u (f (same_eq y x h)))
    by false h = sym (ne_eqb t u (λ e. absurd (let q : same_name y x ≡ true = eq_same y x (g e) in let z : ◌≡◌ {A = ℕ} 0 1 = cc in omega arith)))

not_same : (y x : List ℕ) → (y ≡ x → ⊥) → same_name y x ≡ false
not_same y x n = by (same_name y x) refl
  where
    by : (r : Bool) → same_name y x ≡ r → same_name y x ≡ false
    by true h = absurd (n (same_eq y x h))
    by false h = h

-- ---- which names were visited

-- no block that is found has the bit of a name that is not
apart : (t : ℕ) (x : List ℕ) → t < 65536 → eqb t (lacking_bit x) ≡ false
apart t x l = ne_eqb t (lacking_bit x) (λ e. let b = bit_past x in omega arith)

apart' : (x : List ℕ) (t : ℕ) → t < 65536 → eqb (lacking_bit x) t ≡ false
apart' x t l = ne_eqb (lacking_bit x) t (λ e. let b = bit_past x in omega arith)

-- no bit is lost
kept : (sc sc' : List ℕ) (t : ℕ) → ((u : ℕ) → marked_in sc' u ≡ eqb t u || marked_in sc u) → (u : ℕ) → marked_in sc u ≡ true → marked_in sc' u ≡ true
kept sc sc' t m u h = m u ∙ by (eqb t u)
  where
    by : (g : Bool) → g || marked_in sc u ≡ true
    by true = refl
    by false = h

module _ (book ls sc sc' : List ℕ) where
  seen-marks : ((u : ℕ) → marked_in sc' u ≡ marked_in sc u) → (x : List ℕ) (f : Option ℕ) → seen_by book sc ls x f ≡ seen_by book sc' ls x f
  unfolding seen_by was_listed
  seen-marks m x (Some t) = sym (m t)
  seen-marks m x None = rw (m (lacking_bit x))

  module _ (v : List (List ℕ)) (y : List ℕ) (t : ℕ) (ey : find book y ≡ Some t) (m : (u : ℕ) → marked_in sc' u ≡ eqb t u || marked_in sc u) where
    seen-new : (x : List ℕ) (f : Option ℕ) → find book x ≡ f → has v x ≡ seen_by book sc ls x f → has (y ∷ v) x ≡ seen_by book sc' ls x f
    unfolding seen_by has was_listed
    seen-new x (Some u) ex h =
        let e : same_name y x ≡ eqb t u =
        same_as y x t u
        (λ q. let p : Some t ≡ Some u = sym ey ∙ ap (find book) q ∙ ex in cc)
        (λ q. sym (find-name book y t ey) ∙ ap (name_of book) q ∙ find-name book x u ex) in
        rw (h, m u, e)
    seen-new x None ex h =
        let e : same_name y x ≡ false = not_same y x (λ q. at-nothing (sym ey ∙ ap (find book) q ∙ ex)) in
        let d : eqb t (lacking_bit x) ≡ false = apart t x (find-below book y t ey) in
        rw (h, e, m (lacking_bit x), d)

has_ref_snoc : (book ls : List ℕ) (b : ℕ) (x : List ℕ) → has_ref book (ls ++ (b ∷ [])) x ≡ names_it book b x || has_ref book ls x
unfolding has_ref
has_ref_snoc book [] b x = refl
has_ref_snoc book (a ∷ ls) b x = rw (has_ref_snoc book ls b x) (swap (names_it book a x) (names_it book b x))
  where
    swap : (p q : Bool) → p || (q || has_ref book ls x) ≡ q || (p || has_ref book ls x)
    swap true true = refl
    swap true false = refl
    swap false true = refl
    swap false false = refl

-- a listed alias tells of no name
ref_alias : (book ls : List ℕ) (c : ℕ) → is_part book c ≡ false → (x : List ℕ) → has_ref book (ls ++ (c ∷ [])) x ≡ has_ref book ls x
unfolding names_it
ref_alias book ls c h x = has_ref_snoc book ls c x ∙ rw h (ap (λ (t : Bool). t || has_ref book ls x) (and-false (same_name (type_name_of book c) x)))

seen-alias : (book ls sc : List ℕ) (c : ℕ) → is_part book c ≡ false → (x : List ℕ) (f : Option ℕ) → seen_by book sc ls x f ≡ seen_by book sc (ls ++ (c ∷ [])) x f
unfolding seen_by was_listed
seen-alias book ls sc c h x (Some u) = refl
seen-alias book ls sc c h x None = rw (ref_alias book ls c h x)

-- a lacking name's bit is set, and its block listed
module _ (book ls sc sc' : List ℕ) (b : ℕ) (m : (u : ℕ) → marked_in sc' u ≡ eqb (lacking_bit (type_name_of book b)) u || marked_in sc u)
    (told : (x : List ℕ) → has_ref book ls x ≡ true → marked_in sc (lacking_bit x) ≡ true) where
  name-told : (x : List ℕ) (g : Bool) → same_name (type_name_of book b) x ≡ g → names_it book b x || has_ref book ls x ≡ true → marked_in sc' (lacking_bit x) ≡ true
  unfolding names_it
  name-told x true e h = let q : type_name_of book b ≡ x = same_eq _ _ e in m (lacking_bit x) ∙ rw (q, eq-eqb (lacking_bit x) (lacking_bit x) refl)
  name-told x false e h = kept sc sc' (lacking_bit (type_name_of book b)) m (lacking_bit x) (told x (rw e at h))

  told-lacking : (x : List ℕ) → has_ref book (ls ++ (b ∷ [])) x ≡ true → marked_in sc' (lacking_bit x) ≡ true
  told-lacking x h = name-told x (same_name (type_name_of book b) x) refl (sym (has_ref_snoc book ls b x) ∙ h)

  module _ (v : List (List ℕ)) (a : is_part book b ≡ true) (ey : find book (type_name_of book b) ≡ None) where
    other : (x : List ℕ) (r : Bool) → has_ref book ls x ≡ r → marked_in sc (lacking_bit x) && r ≡ (eqb (lacking_bit (type_name_of book b)) (lacking_bit x) || marked_in sc (lacking_bit x)) && r
    other x true e = rw (told x e) (by (eqb (lacking_bit (type_name_of book b)) (lacking_bit x)))
      where
        by : (g : Bool) → true ≡ (g || true) && true
        by true = refl
        by false = refl
    other x false e =
        and-false (marked_in sc (lacking_bit x)) ∙ sym (and-false (eqb (lacking_bit (type_name_of book b)) (lacking_bit x) || marked_in sc (lacking_bit x)))

    lacking-by : (x : List ℕ) (g : Bool) → same_name (type_name_of book b) x ≡ g → has v x ≡ was_listed book sc ls x
        → g || has v x ≡ marked_in sc' (lacking_bit x) && (g && is_part book b || has_ref book ls x)
    unfolding was_listed
    lacking-by x true e h = let q : type_name_of book b ≡ x = same_eq _ _ e in sym (rw (m (lacking_bit x), q, eq-eqb (lacking_bit x) (lacking_bit x) refl, a))
    lacking-by x false e h = rw (h, m (lacking_bit x)) (other x (has_ref book ls x) refl)

    seen-lacking : (x : List ℕ) (f : Option ℕ) → find book x ≡ f
        → has v x ≡ seen_by book sc ls x f → has (type_name_of book b ∷ v) x ≡ seen_by book sc' (ls ++ (b ∷ [])) x f
    unfolding seen_by has names_it was_listed
    seen-lacking x (Some u) ex h =
        let e : same_name (type_name_of book b) x ≡ false = not_same (type_name_of book b) x (λ q. at-nothing (sym ex ∙ ap (find book) (sym q) ∙ ey)) in
        rw (h, e, m u, apart' (type_name_of book b) u (find-below book x u ex))
    seen-lacking x None ex h = rw (has_ref_snoc book ls b x) (lacking-by x (same_name (type_name_of book b) x) refl h)

-- ---- a name that the book defines, and is new

module _ (book : List ℕ) (width : ℕ) (ls : List ℕ) (v : List (List ℕ)) (sc : List ℕ) (left d b : ℕ) (y : List ℕ) (t : ℕ)
    (seen : (x : List ℕ) → has v x ≡ seen_by book sc ls x (find book x)) (told : (x : List ℕ) → has_ref book ls x ≡ true → marked_in sc (lacking_bit x) ≡ true) (valid : ValidBook book)
    (parts : (c : ℕ) → Memᴰ c (stack_of sc d) → is_part book c ≡ true) (room : d + left ≤ 4096) (n : 0 < left) (ey : find book y ≡ Some t) {w : Walk}
    (ew : w ≡ met b y (comes_to book width b (Some t)) (walk book width (left - 1) (y ∷ v) (push book width (comes_to book width b (Some t)) (stack_of sc d)))) where
  met_as : (a : Resolved) → resolve_alias book width t ≡ a → w ≡ met b y a (walk book width (left - 1) (y ∷ v) (push book width a (stack_of sc d)))
  unfolding chain_onward
  met_as a h = ew ∙ ap (λ (a : Resolved). met b y a (walk book width (left - 1) (y ∷ v) (push book width a (stack_of sc d)))) h

  dead-left : {r : ℕ} {sc' : List ℕ} → Dead sc d t r sc' → (ls' : List ℕ) → ((x : List ℕ) (f : Option ℕ) → seen_by book sc' ls x f ≡ seen_by book sc' ls' x f)
      → ((x : List ℕ) → has_ref book ls' x ≡ has_ref book ls x) → LeftToWalk book width sc' ls' (left - 1) r (walk book width (left - 1) (y ∷ v) (stack_of sc d))
  dead-left {r} {sc'} x ls' q o =
      record {
        v = y ∷ v;
        seen = λ p z. seen-new book ls sc sc' v y t ey x.marks z (find book z) refl (seen z) ∙ q z (find book z);
        told = λ z h. kept sc sc' t x.marks (lacking_bit z) (told z (sym (o z) ∙ h));
        is = ap (walk book width (left - 1) (y ∷ v)) (sym x.top);
        room = let m = x.more in omega arith;
        valid = valid;
        parts = λ c m. parts c (rw x.top at m);
      }

  settled-after : (r : Event) (sc' : List ℕ) → Settled book width sc d t r sc' → After book width sc' ls left w r
  unfolding push
  settled-after (Old k) sc' s = absurd s
  settled-after (event.NotFound c k) sc' s =
      record {
        by = b;
        name = y;
        next = walk book width (left - 1) (y ∷ v) (stack_of sc d);
        is = met_as (NotFound c) s.to;
        left_over = dead-left s.dead (ls ++ (c ∷ [])) (seen-alias book ls sc' c s.alias) (ref_alias book ls c s.alias);
      }
  settled-after (New u k c) sc' x =
      record {
        kind = x.kind;
        by = b;
        name = y;
        next = walk book width (left - 1) (y ∷ v) (parts_of book width u ++ stack_of sc d);
        is = met_as (Base u) x.to;
        left_over = record {
          v = y ∷ v;
          seen = λ p z. seen-new book ls sc sc' v y t ey x.marks z (find book z) refl (seen z);
          told = λ z h. kept sc sc' t x.marks (lacking_bit z) (told z h);
          is = ap (walk book width (left - 1) (y ∷ v)) (sym x.top);
          room = let m = x.more in omega arith;
          valid = valid;
          parts = λ c m. ⊎_elim (part-is book width u valid x.typed c) (parts c) (Memᴰ.append_cases (parts_of book width u) (rw x.top at m));
        };
      }
  settled-after (event.TooLong k) sc' s =
      record {
        by = b;
        name = y;
        next = walk book width (left - 1) (y ∷ v) (stack_of sc d);
        is = met_as TooLong s.to;
        left_over = dead-left s.dead ls (λ x f. refl) (λ x. refl);
      }
  settled-after Full sc' s = absurd s

settled-falls : (book : List ℕ) (width : ℕ) (sc : List ℕ) (left d t m : ℕ) → 0 < left → left * 65536 + suc (length (stack_of sc d)) ≤ m → (r : Event) (sc' : List ℕ) → Settled book width sc d t r sc' → Falls sc' left m r
unfolding work
settled-falls book width sc left d t m n h (Old k) sc' s = absurd s
settled-falls book width sc left d t m n h (event.NotFound c k) sc' s = (n, omega (arith, ap length s.dead.top))
settled-falls book width sc left d t m n h (New u k c) sc' x = (n, omega (arith, x.few))
settled-falls book width sc left d t m n h (event.TooLong k) sc' s = (n, omega (arith, ap length s.dead.top))
settled-falls book width sc left d t m n h Full sc' s = absurd s

-- ---- a turn

module _ (book : List ℕ) (width : ℕ) (ls : List ℕ) (left : ℕ) {sc sc' : List ℕ} {depth : ℕ} {k : Taken} (pos : 0 < depth) (took : Took sc depth k sc') where
  seen-after : {w : Walk} (l : LeftToWalk book width sc ls left depth w) (x : List ℕ) → has l.v x ≡ seen_by book sc' ls x (find book x)
  seen-after l x = l.seen pos x ∙ seen-marks book ls sc sc' took.marks x (find book x)

  told-after : {w : Walk} (l : LeftToWalk book width sc ls left depth w) (x : List ℕ) → has_ref book ls x ≡ true → marked_in sc' (lacking_bit x) ≡ true
  told-after l x h = took.marks (lacking_bit x) ∙ l.told x h

  is_seen : {w : Walk} (l : LeftToWalk book width sc ls left depth w) (f : Option ℕ) → f ≡ find book (type_name_of book k.block)
      → has l.v (type_name_of book k.block) ≡ seen_by book sc' ls (type_name_of book k.block) f
  is_seen l f ef = rw ef (seen-after l (type_name_of book k.block))

  is-top : {w : Walk} (l : LeftToWalk book width sc ls left depth w) → w ≡ walk book width left l.v (k.block ∷ stack_of sc' k.depth)
  is-top l = l.is ∙ ap (walk book width left l.v) took.top

  parts-after : {w : Walk} (l : LeftToWalk book width sc ls left depth w) (c : ℕ) → Memᴰ c (stack_of sc' k.depth) → is_part book c ≡ true
  parts-after l c m = l.parts c (rw took.top (Memᴰ.tail m))

  length-top : length (stack_of sc depth) ≡ suc (length (stack_of sc' k.depth))
  length-top = ap length took.top

  module _ (f : Option ℕ) (ef : f ≡ find book (type_name_of book k.block)) where
    event-is : {r : Event} → r ≡ turn_event book width sc' ls left k f → r ≡ step_event book width sc ls left depth
    unfolding step_event
    event-is e = e ∙ rw (ef, took.taken, took.numbers)

    numbers_are : {sc'' : List ℕ} → sc'' ≡ turn_on book width sc' ls left k f → sc'' ≡ step_on book width sc ls left depth
    unfolding step_on
    numbers_are e = e ∙ rw (ef, took.taken, took.numbers)

    stepped_old : seen_by book sc' ls (type_name_of book k.block) f ≡ true → Stepped book width sc ls left depth (Old k.depth) sc'
    unfolding work turn_event turn_on
    stepped_old h =
        record {
          goes = λ w l. record {
            v = l.v;
            seen = λ p. seen-after l;
            told = told-after l;
            is = is-top l ∙ walk-old book width l.v (stack_of sc' k.depth) k.block left (is_seen l f ef ∙ h);
            room = let a = l.room in let b = took.less in omega arith;
            valid = l.valid;
            parts = parts-after l;
          };
          falls = omega (arith, length-top);
          event = event-is (rw h);
          numbers = numbers_are (rw h);
        }

    stepped_stop : seen_by book sc' ls (type_name_of book k.block) f ≡ false → left ≡ 0 → Stepped book width sc ls left depth Full sc'
    unfolding turn_event turn_on
    stepped_stop h z =
        record {
          goes = λ w l. record {
            by = k.block;
            name = type_name_of book k.block;
            is =
                is-top l ∙ ap (λ (n : ℕ). walk book width n l.v (k.block ∷ stack_of sc' k.depth)) z
                ∙ walk-stop book width l.v (stack_of sc' k.depth) k.block (is_seen l f ef ∙ h);
          };
          falls = z;
          event = event-is (rw (h, z));
          numbers = numbers_are (rw (h, z));
        }

    module _ (h : seen_by book sc' ls (type_name_of book k.block) f ≡ false) (n : left ≡ 0 → ⊥) {w : Walk} (l : LeftToWalk book width sc ls left depth w) (g : Option ℕ) (eg : f ≡ g) where
      is-met : w ≡ met k.block (type_name_of book k.block) (comes_to book width k.block g) (walk book width (left - 1) (type_name_of book k.block ∷ l.v) (push book width (comes_to book width k.block g) (stack_of sc' k.depth)))
      is-met =
          let q : left ≡ suc (left - 1) = omega arith in
          let e : find book (type_name_of book k.block) ≡ g = sym ef ∙ eg in
          is-top l ∙ ap (λ (n : ℕ). walk book width n l.v (k.block ∷ stack_of sc' k.depth)) q
          ∙ walk-fresh book width l.v (stack_of sc' k.depth) k.block (left - 1) (is_seen l f ef ∙ h)
          ∙ ap (λ (g : Option ℕ). met k.block (type_name_of book k.block) (comes_to book width k.block g) (walk book width (left - 1) (type_name_of book k.block ∷ l.v) (push book width (comes_to book width k.block g) (stack_of sc' k.depth)))) e

    -- the book defines it
    module _ (t : ℕ) (ft : f ≡ Some t) where
      pub step-marked : (g : Bool) → g ≡ marked_in sc' t → g ≡ true → Stepped book width sc ls left depth (Old k.depth) sc'
      unfolding seen_by
      step-marked g eg h = stepped_old (rw ft (sym eg ∙ h))

      module _ (g : Bool) (eg : g ≡ marked_in sc' t) (h : g ≡ false) where
        fresh : seen_by book sc' ls (type_name_of book k.block) f ≡ false
        unfolding seen_by
        fresh = rw ft (sym eg ∙ h)

        pub step-full : left ≡ 0 → Stepped book width sc ls left depth Full sc'
        step-full z = stepped_stop fresh z

        pub step-new : {sc'' : List ℕ} {r : Event} → (left ≡ 0 → ⊥) → Settles book width sc' k.depth t r sc'' → Stepped book width sc ls left depth r sc''
        unfolding work turn_event turn_on new_on chain_onward
        step-new {sc''} {r} n x =
            let ey : find book (type_name_of book k.block) ≡ Some t = sym ef ∙ ft in
            let p : 0 < left = omega (arith, n) in
            let z : eqb left 0 ≡ false = ne_eqb left 0 n in
            record {
              goes = λ w l.
                  let rm : k.depth + left ≤ 4096 = let a = l.room in let b = took.less in omega arith in
                  settled-after book width ls l.v sc' left k.depth k.block (type_name_of book k.block) t (seen-after l) (told-after l) l.valid (parts-after l) rm p ey
                  (is-met fresh n l (Some t) ft) r sc'' x.so;
              falls = settled-falls book width sc' left k.depth t (work sc left depth) p (omega (arith, length-top)) r sc'' x.so;
              event = event-is (rw (fresh, z, ft) x.event);
              numbers = numbers_are (rw (fresh, z, ft) x.numbers);
            }

    -- the book lacks it
    module _ (ft : f ≡ None) (name : List ℕ) (en : name ≡ type_name_of book k.block) where
      pub step-listed : (g : Bool) → g ≡ was_listed book sc' ls name → g ≡ true → Stepped book width sc ls left depth (Old k.depth) sc'
      unfolding seen_by
      step-listed g eg h = stepped_old (rw (ft, ← en) (sym eg ∙ h))

      module _ (g : Bool) (eg : g ≡ was_listed book sc' ls name) (h : g ≡ false) where
        fresh' : seen_by book sc' ls (type_name_of book k.block) f ≡ false
        unfolding seen_by
        fresh' = rw (ft, ← en) (sym eg ∙ h)

        pub step_full' : left ≡ 0 → Stepped book width sc ls left depth Full sc'
        step_full' z = stepped_stop fresh' z

        pub step-lacking : (left ≡ 0 → ⊥) → depth + left ≤ 4096 → (u : ℕ) → u ≡ lacking_bit name → {sc'' : List ℕ} → BlockMarked sc' u sc''
            → Stepped book width sc ls left depth (event.NotFound k.block k.depth) sc''
        unfolding push chain_onward work turn_event turn_on new_on settled_event
        step-lacking n lim u eu {sc''} x =
            let ey : find book (type_name_of book k.block) ≡ None = sym ef ∙ ft in
            let z : eqb left 0 ≡ false = ne_eqb left 0 n in
            let q : u ≡ lacking_bit (type_name_of book k.block) = rw (← en) eu in
            let m : (v : ℕ) → marked_in sc'' v ≡ eqb (lacking_bit (type_name_of book k.block)) v || marked_in sc' v = λ v. rw (← q) (x.marks v) in
            let below : k.depth ≤ 4096 = let b = took.less in omega arith in
            let stack : stack_of sc'' k.depth ≡ stack_of sc' k.depth = x.stack k.depth below in
            record {
              goes = λ w l.
                  let pb : is_part book k.block ≡ true = l.parts k.block (rw took.top (Memᴰ.head refl)) in
                  record {
                    by = k.block;
                    name = type_name_of book k.block;
                    next = walk book width (left - 1) (type_name_of book k.block ∷ l.v) (stack_of sc' k.depth);
                    is = is-met fresh' n l None ft;
                    left_over = record {
                      v = type_name_of book k.block ∷ l.v;
                      seen = λ p y. seen-lacking book ls sc' sc'' k.block m (told-after l) l.v pb ey y (find book y) refl (seen-after l y);
                      told = told-lacking book ls sc' sc'' k.block m (told-after l);
                      is = ap (walk book width (left - 1) (type_name_of book k.block ∷ l.v)) (sym stack);
                      room = let a = l.room in let b = took.less in omega (arith, n);
                      valid = l.valid;
                      parts = λ c p. parts-after l c (rw stack at p);
                    };
                  };
              falls = (omega (arith, n), rw stack (omega (arith, n, length-top)));
              event = event-is (rw (fresh', z, ft));
              numbers = numbers_are (rw (fresh', z, ft) (rw q at x.numbers));
            }

-- ---- the start

zero-at : (m i : ℕ) → ◌≡◌ {A = ℕ} (get_or (replicate m 0) i 0) 0
zero-at zero zero = refl
zero-at zero (suc i) = refl
zero-at (suc m) zero = refl
zero-at (suc m) (suc i) = zero-at m i

no-marks : (m u : ℕ) → marked_in (replicate m 0) u ≡ false
unfolding marked_in
no-marks m u = rw (zero-at m (4096 + u / 32), zero-div (2 ^ (u % 32)))

none_seen : (book sc : List ℕ) → sc ≡ replicate (length sc) 0 → (y : List ℕ) (g : Option ℕ) → has [] y ≡ seen_by book sc [] y g
unfolding has seen_by has_ref was_listed
none_seen book sc z y (Some u) = sym (ap (λ (l : List ℕ). marked_in l u) z ∙ no-marks (length sc) u)
none_seen book sc z y None = sym (and-false (marked_in sc (lacking_bit y)))

none_told : (book sc x : List ℕ) → has_ref book [] x ≡ true → marked_in sc (lacking_bit x) ≡ true
unfolding has_ref
none_told book sc x h = absurd (let z : ◌≡◌ {A = ℕ} 0 1 = cc in omega arith)

settled-due : (book : List ℕ) (width : ℕ) (sc : List ℕ) (d t left : ℕ) → 0 < left → (r : Event) (sc' : List ℕ) → Settled book width sc d t r sc' → DueAfter left r
settled-due book width sc d t left n (Old k) sc' s = absurd s
settled-due book width sc d t left n (event.NotFound c k) sc' s = n
settled-due book width sc d t left n (New u k c) sc' x = n
settled-due book width sc d t left n (event.TooLong k) sc' s = n
settled-due book width sc d t left n Full sc' s = absurd s

pub start-settled : (book : List ℕ) (width root : ℕ) → ValidBook book → is_type book root ≡ true → (sc : List ℕ) {sc' : List ℕ} {r : Event} → sc ≡ replicate (length sc) 0
    → Settles book width sc 0 root r sc' → Started book width root sc r sc'
unfolding stack_of walk_of meet
start-settled book width root v y sc {sc'} {r} z x =
    let own : find book (name_of book root) ≡ Some root = valid-own book v root y in
    let all : walk_of book width root ≡ met root (name_of book root) (comes_to book width root (Some root)) (walk book width 4095 (name_of book root ∷ []) (push book width (comes_to book width root (Some root)) [])) = rw own in
    record {
      goes =
          settled-after book width [] [] sc 4096 0 root (name_of book root) root (λ y. none_seen book sc z y (find book y)) (none_told book sc) v (λ c m. absurd (Memᴰ.not-nil m)) (omega arith) (omega arith)
          own all r sc' x.so;
      due = settled-due book width sc 0 root 4096 (omega arith) r sc' x.so;
      event = x.event;
      numbers = x.numbers;
    }
