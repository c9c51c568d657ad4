-- The missing list: what the walk's functions owe at each exit. Assumes nothing.
use mathlib.Core.Path.{◌≡◌, refl, sym, ap, ◌∙◌, subst}
use mathlib.Core.Bool.{Bool, true, false, ◌&&◌, and-true, and-false}
use mathlib.Core.List.{List, [], ◌∷◌, ◌++◌, append_assoc, append-nil}
use Prim.Native.Nat.{ℕ, suc, ◌+◌, ◌-◌, ◌≤◌, ◌<◌}
use native.Mathlib.Omega.{arith}
use native.Mathlib.Numerals.{add-one}
use lib.ListN.{length, take, drop, set, take-append-drop, length-set}
use lib.Seq.{take-suc-set, drop-set-lt, drop-drop, length-take-le}
use Rattle.resolvers.specs.declared.Resolved.{Resolved}
use Rattle.resolvers.specs.declared.Resolved.TheVariants.{Base, NotFound, TooLong}
use Rattle.type_category.specs.declared.type_category.AdsTypeCategory.{AdsTypeCategory}
use Rattle.resolve_walk_events.specs.declared.Event.{Event}
use Rattle.resolve_walk_events.specs.declared.Event.TheVariants.{Old, New, Full}
use Rattle.resolve_walk_events.specs.declared.Event.TheVariants as event
use Rattle.resolve_walk.specs.Walk.{Walk, met, walk_of}
use Rattle.resolve_walk.specs.Reads.{names, count, listed, whole}
use Rattle.resolve_walk.specs.State.{LeftToWalk, After, Falls, DueAfter, IsDue, work, Stepped, Started}
use Rattle.resolve_walk.proofs.States.{step-due, due_as, due-new, due-lacking, due-long, over-is}
use Rattle.std.specs.Prelude.{Option, Some, None}
use Rattle.resolve_missing_types.specs.declared.Progress.{Progress}
use Rattle.resolve_missing_types.specs.declared.Missing.TheVariants as missing
use Rattle.resolve_missing_types.specs.State.{OneMore, ReadSoFar, Pending, pend, MissingNow, Stopped, MissingThen, LessWork, Applied}
use Rattle.resolve_missing_types.specs.Calls.{WalkedTo, missing_answer, missing_list}

-- ---- a walk's readings, event by event

count-met : {w next : Walk} {b : ℕ} {x : List ℕ} {f : Resolved} → w ≡ met b x f next → count w ≡ suc (count next)
unfolding names
count-met e = ap count e

module _ {w next : Walk} {b t : ℕ} {x : List ℕ} (e : w ≡ met b x (Base t) next) where
  listed-new : listed w ≡ listed next
  unfolding listed
  listed-new = ap listed e

  whole-new : whole w ≡ whole next
  unfolding whole
  whole-new = ap whole e

module _ {w next : Walk} {b c : ℕ} {x : List ℕ} (e : w ≡ met b x (NotFound c) next) where
  listed-lacking : listed w ≡ c ∷ listed next
  unfolding listed
  listed-lacking = ap listed e

  whole-lacking : whole w ≡ whole next
  unfolding whole
  whole-lacking = ap whole e

module _ {w next : Walk} {b : ℕ} {x : List ℕ} (e : w ≡ met b x TooLong next) where
  listed-long : listed w ≡ listed next
  unfolding listed
  listed-long = ap listed e

  whole_long : whole w ≡ false
  unfolding whole
  whole_long = ap whole e

-- ---- an event is applied

pub due-room : (left : ℕ) {e : Event} → IsDue left e → (c d : ℕ) {n m : ℕ} → e ≡ event.NotFound c d → n + left ≤ 4096 → 4096 ≤ m → n < m
due-room left p c d h r z = let q = due-lacking left p c d h in omega arith

module _ (list : List ℕ) (left n : ℕ) (ok : Bool) {e : Event} (p : IsDue left e) where
  pub apply_old : (d : ℕ) → e ≡ Old d → Applied e list left n ok (Some (record { left = left; depth = d; n = n; ok = ok })) list
  apply_old d h =
      record {
        goes = λ book width all list₀ sc w q a. record { rest = w; left_over = subst (λ (y : Event). After book width sc (take n list) left w y) h a; reading = q };
        falls = λ sc m f. subst (λ (y : Event). Falls sc left m y) h f;
      }

  pub apply_new : (t d : ℕ) (c : AdsTypeCategory) → e ≡ New t d c → Applied e list left n ok (Some (record { left = left - 1; depth = d; n = n; ok = ok })) list
  apply_new t d c h =
      let l = due-new left p t d c h in
      record {
        goes = λ book width all list₀ sc w q a.
            let g = subst (λ (y : Event). After book width sc (take n list) left w y) h a in
            let m = q.room in
            let c = q.counts in
            record {
              rest = g.next;
              left_over = g.left_over;
              reading = record {
                counts = omega (arith, count-met g.is);
                lists = q.lists ∙ ap (λ (l : List ℕ). take n list ++ l) (listed-new g.is);
                ends = q.ends ∙ ap (λ (t : Bool). ok && t) (whole-new g.is);
                kept = q.kept;
                long = q.long;
                room = omega arith;
              };
            };
        falls = λ sc m f. (subst (λ (y : Event). Falls sc left m y) h f).1;
      }

  pub apply_long : (d : ℕ) → e ≡ event.TooLong d → Applied e list left n ok (Some (record { left = left - 1; depth = d; n = n; ok = false })) list
  apply_long d h =
      let l = due-long left p d h in
      record {
        goes = λ book width all list₀ sc w q a.
            let g = subst (λ (y : Event). After book width sc (take n list) left w y) h a in
            let m = q.room in
            let c = q.counts in
            record {
              rest = g.next;
              left_over = g.left_over;
              reading = record {
                counts = omega (arith, count-met g.is);
                lists = q.lists ∙ ap (λ (l : List ℕ). take n list ++ l) (listed-long g.is);
                ends = q.ends ∙ ap (λ (t : Bool). ok && t) (whole_long g.is) ∙ and-false ok;
                kept = q.kept;
                long = q.long;
                room = omega arith;
              };
            };
        falls = λ sc m f. (subst (λ (y : Event). Falls sc left m y) h f).1;
      }

  listed-block : (b d : ℕ) → e ≡ event.NotFound b d → 4096 ≤ length list → n + left ≤ 4096 → Applied e list left n ok (Some (record { left = left - 1; depth = d; n = n + 1; ok = ok })) (set list n b)
  listed-block b d h z r =
      let l = due-lacking left p b d h in
      let i : n < length list = omega arith in
      let k : take (n + 1) (set list n b) ≡ take n list ++ (b ∷ []) = ap (λ (k : ℕ). take k (set list n b)) (add-one n) ∙ take-suc-set list n b i in
      record {
        goes = λ book width all list₀ sc w q a.
            let g = subst (λ (y : Event). After book width sc (take n list) left w y) h a in
            let c = q.counts in
            record {
              rest = g.next;
              left_over = subst (λ (ls : List ℕ). LeftToWalk book width sc ls (left - 1) d g.next) (sym k) g.left_over;
              reading = record {
                counts = omega (arith, count-met g.is);
                lists =
                    q.lists ∙ ap (λ (l : List ℕ). take n list ++ l) (listed-lacking g.is)
                    ∙ sym (append_assoc (take n list) (b ∷ []) (listed g.next))
                    ∙ ap (λ (l : List ℕ). l ++ listed g.next) (sym k);
                ends = q.ends ∙ ap (λ (t : Bool). ok && t) (whole-lacking g.is);
                kept = drop-set-lt (n + 1) list n b (omega arith) ∙ sym (drop-drop 1 n list) ∙ ap (drop 1) q.kept ∙ drop-drop 1 n list₀;
                long = length-set list n b ∙ q.long;
                room = omega arith;
              };
            };
        falls = λ sc m f. (subst (λ (y : Event). Falls sc left m y) h f).1;
      }

  pub apply_lacking : (b d : ℕ) → e ≡ event.NotFound b d → 4096 ≤ length list → n + left ≤ 4096 → {k : ℕ} {list' : List ℕ} → OneMore list n b k list' → Applied e list left n ok (Some (record { left = left - 1; depth = d; n = k; ok = ok })) list'
  apply_lacking b d h z r o = rw (o.count, o.blocks) (listed-block b d h z r)

  pub apply_full : e ≡ Full → Applied e list left n ok None list
  unfolding names listed whole
  apply_full h =
      let z = due_as left p Full h in
      record {
        goes = λ book width all list₀ sc w q a.
            let g = subst (λ (y : Event). After book width sc (take n list) left w y) h a in
            let c = q.counts in
            let m = q.room in
            record {
              counts = omega (arith, ap count g.is);
              lists = q.lists ∙ ap (λ (w : Walk). take n list ++ listed w) g.is ∙ append-nil (take n list);
              ends = q.ends ∙ ap (λ (w : Walk). ok && whole w) g.is ∙ and-false ok;
              kept = q.kept;
              long = q.long;
              room = omega arith;
            };
        falls = λ sc m f. tt;
      }

-- ---- the answer

module _ (book : List ℕ) (width root : ℕ) (list₀ list : List ℕ) (n : ℕ) (l : listed (walk_of book width root) ≡ take n list) (k : drop n list ≡ drop n list₀) (h : n ≤ length list) where
  long-list : length (listed (walk_of book width root)) ≡ n
  long-list = ap length l ∙ length-take-le n list h

  answers : (c : ℕ) (b : Bool) → count (walk_of book width root) ≡ c → whole (walk_of book width root) ≡ b → WalkedTo book width root list₀ (missing.Listed n b c) list
  unfolding missing_answer missing_list
  answers c b ec eb =
      record {
        answer = rw (ec, eb, long-list);
        blocks = sym (take-append-drop n list) ∙ rw (long-list, l, k);
      }

module _ (book : List ℕ) (width root : ℕ) {list₀ list : List ℕ} {n : ℕ} where
  pub walk_ends : {sc : List ℕ} {left depth : ℕ} {ok : Bool} → MissingNow book width (walk_of book width root) list₀ sc list left depth n ok → depth ≤ 0 → 4096 ≤ length list₀ → WalkedTo book width root list₀ (missing.Listed n ok (4096 - left)) list
  unfolding names listed whole
  walk_ends {sc} {left} {depth} {ok} a h z =
      let o = over-is book width (take n list) a.left_over h in
      let q = a.reading in
      let m = q.room in
      let g = q.long in
      let l = q.lists ∙ ap (λ (w : Walk). take n list ++ listed w) o ∙ append-nil (take n list) in
      let i : n ≤ length list = omega arith in
      let c : count (walk_of book width root) ≡ 4096 - left = omega (arith, q.counts, ap count o) in
      answers book width root list₀ list n l q.kept i (4096 - left) ok c (q.ends ∙ ap (λ (w : Walk). ok && whole w) o ∙ and-true ok)

  walk-stops : Stopped (walk_of book width root) list₀ list n → 4096 ≤ length list₀ → WalkedTo book width root list₀ (missing.Listed n false 4097) list
  walk-stops a z =
      let m = a.room in
      let g = a.long in
      let i : n ≤ length list = omega arith in
      answers book width root list₀ list n a.lists a.kept i 4097 false a.counts a.ends

-- ---- the first turn, and the others

reading-all : (all : Walk) (list : List ℕ) → ReadSoFar all list list 4096 0 true all
reading-all all list = record { counts = omega arith; lists = refl; ends = refl; kept = refl; long = refl; room = omega arith }

pend-falls : (sc : List ℕ) (left : ℕ) (e : Event) → DueAfter left e → Falls sc left (pend sc left e) e
unfolding pend
pend-falls sc left (Old d) p = omega arith
pend-falls sc left (event.NotFound c d) p = (p, omega arith)
pend-falls sc left (New t d c) p = (p, omega arith)
pend-falls sc left (event.TooLong d) p = (p, omega arith)
pend-falls sc left Full p = p

falls-pend : (sc : List ℕ) (left m : ℕ) (e : Event) → Falls sc left m e → pend sc left e ≤ m
unfolding pend
falls-pend sc left m (Old d) f = omega arith
falls-pend sc left m (event.NotFound c d) f = let g = f.1 in omega arith
falls-pend sc left m (New t d c) f = let g = f.1 in omega arith
falls-pend sc left m (event.TooLong d) f = let g = f.1 in omega arith
falls-pend sc left m Full f = omega arith

pub pending-start : (book : List ℕ) (width root : ℕ) (list : List ℕ) {sc₀ sc : List ℕ} {e : Event} → Started book width root sc₀ e sc → Pending book width (walk_of book width root) list sc list 4096 0 true e
pending-start book width root list s = record { rest = walk_of book width root; reading = reading-all (walk_of book width root) list; after = s.goes; due = record { due = s.due } }

pub pending-due : (book : List ℕ) (width root : ℕ) {list₀ sc list : List ℕ} {left n : ℕ} {ok : Bool} {e : Event} → Pending book width (walk_of book width root) list₀ sc list left n ok e → IsDue left e
pending-due book width root q = q.due

module _ (book : List ℕ) (width root : ℕ) {list₀ sc list list' : List ℕ} {left n : ℕ} {ok : Bool} {e : Event} {r : Option Progress} (q : Pending book width (walk_of book width root) list₀ sc list left n ok e)
    (a : Applied e list left n ok r list') where
  then_as : (x : Option Progress) → r ≡ x → MissingThen book width (walk_of book width root) list₀ sc list' n x
  then_as x h = subst (λ (y : Option Progress). MissingThen book width (walk_of book width root) list₀ sc list' n y) h (a.goes book width (walk_of book width root) list₀ sc q.rest q.reading q.after)

  pub pending-stop : r ≡ None → 4096 ≤ length list₀ → WalkedTo book width root list₀ (missing.Listed n false 4097) list'
  pending-stop h z = walk-stops book width root (then_as None h) z

  module _ (x : Progress) (h : r ≡ Some x) where
    pub pending-now : MissingNow book width (walk_of book width root) list₀ sc list' x.left x.depth x.n x.ok
    pending-now = then_as (Some x) h

    pub pending-end : x.depth ≡ 0 → 4096 ≤ length list₀ → WalkedTo book width root list₀ (missing.Listed x.n x.ok (4096 - x.left)) list'
    pending-end z w = walk_ends book width root pending-now (omega arith) w

    pub pending-room : x.depth + x.left ≤ 4096
    pending-room = pending-now.left_over.room

    pub pending-left : x.left ≤ 4096
    pending-left = let m = pending-room in omega arith

    pub pending-list : 4096 ≤ length list₀ → x.n ≤ length list'
    pending-list z = let m = pending-now.reading.room in let g = pending-now.reading.long in omega arith

    module _ {sc' : List ℕ} {e' : Event} (s : Stepped book width sc (take x.n list') x.left x.depth e' sc') where
      pub pending-again : Pending book width (walk_of book width root) list₀ sc' list' x.left x.n x.ok e'
      pending-again =
          let p = pending-now in
          record { rest = p.rest; reading = p.reading; after = s.goes p.rest p.left_over; due = step-due book width (take x.n list') x.left s }

      pub pending-falls : pend sc' x.left e' < pend sc left e
      pending-falls =
          let f = falls-pend sc' x.left (work sc x.left x.depth) e' s.falls in
          let g : work sc x.left x.depth < pend sc left e = subst (λ (y : Option Progress). LessWork sc (pend sc left e) y) h (a.falls sc (pend sc left e) (pend-falls sc left e q.due.due)) in
          omega arith
