-- On the premises every add goes on: our book stays sound, and what was in it stays in its place. Assumes nothing.
use Rattle.std.specs.Prelude.{Option, Some, None}
use mathlib.Core.Path.{◌≡◌, refl, sym, ap, ◌∙◌}
use mathlib.Core.Bool.{Bool, true, false, cond}
use mathlib.Core.List.{List, [], ◌∷◌, ◌++◌, Memᴰ, append-nil, append_assoc}
use Prim.Native.Nat.{ℕ, zero, suc, ◌+◌, ◌-◌, ◌<◌}
use native.Mathlib.Omega.{arith}
use lib.Dec.{ltb}
use Rattle.type_book.specs.Book.{blocks, is_type, name_of, type_name_of}
use Rattle.type_book.proofs.Blocks.{block_append}
use Rattle.type_provider.specs.Find.{find}
use Rattle.type_book_check.specs.Check.{ValidBook}
use Rattle.type_book_check.proofs.Valid.{valid-size, valid-names}
use Rattle.type_cache.specs.Append.{append_refusal}
use Rattle.type_cache.specs.Same.{definition_of}
use Rattle.type_cache.proofs.Definitions.{type-names-same}
use Rattle.type_cache.proofs.Adds.{add-known}
use Rattle.resolvers.proofs.Chains.{found_type}
use Rattle.resolve_missing_types.specs.Needs.{Defined}
use Rattle.closure.specs.Calls.{Ours, book_of, add, next}
use Rattle.closure.proofs.Steps.{Sound, ours, add_same, add_none, add-longer, sound-add}
use Rattle.plan_adds.specs.declared.Due.{Due}
use Rattle.plan_adds.specs.declared.Due.TheVariants.{Names, Rest}
use Rattle.plan_adds.specs.Adds.{Adding, on, then_on, append_of, fetch_by, fetch_of, add_listed, passing, due_of, sweep_by, sweep_from, sweep, add_all}

-- the adding went on, and our book is a longer one, or the same
pub record Fine (c : List ℕ) (root : ℕ) (name book : List ℕ) (a : Adding) : Type 0 where
  pub final : Ours
  pub is : a ≡ on final
  pub sound : Sound c root name final
  pub more : List ℕ
  pub grows : book_of final ≡ book ++ more

on_same : (a b : Ours) → on a ≡ on b → a ≡ b
on_same a b e = cc

module _ (c : List ℕ) (w : ValidBook c) (root : ℕ) (name : List ℕ) where
  stay : (s : Ours) → Sound c root name s → Fine c root name (book_of s) (on s)
  stay s o = record { final = s; is = refl; sound = o; more = []; grows = sym (append-nil (book_of s)) }

  then-fine : (book : List ℕ) (a : Adding) (go : Ours → Adding) → (f : Fine c root name book a) → Fine c root name (book_of f.final) (go f.final)
      → Fine c root name book (then_on a go)
  unfolding then_on
  then-fine book a go f g =
      record {
        final = g.final;
        is = rw f.is g.is;
        sound = g.sound;
        more = f.more ++ g.more;
        grows = g.grows ∙ ap (λ (l : List ℕ). l ++ g.more) f.grows ∙ append_assoc book f.more g.more;
      }

  module _ (s : Ours) (o : Sound c root name s) where
    module _ (n : ℕ) (t : is_type c n ≡ true) where
      pub append_fine : Fine c root name (book_of s) (append_of c n s)
      unfolding append_of
      append_fine = by (find (book_of s) (name_of c n)) refl
        where
          by : (f : Option ℕ) → find (book_of s) (name_of c n) ≡ f → Fine c root name (book_of s) (append_of c n s)
          by (Some k) e =
              let q : append_refusal s.buffer s.len (definition_of c n) ≡ 4 = add-known c w n t s.buffer s.len o.valid k e in
              record {
                final = next c (add n) s;
                is = rw q;
                sound = sound-add c w root name s o n t;
                more = [];
                grows = ap book_of (add_same c w root name s o n t k e) ∙ sym (append-nil (book_of s));
              }
          by None e =
              record {
                final = next c (add n) s;
                is = rw (add_none c w root name s o n t e);
                sound = sound-add c w root name s o n t;
                more = definition_of c n;
                grows = add-longer c w root name s o n t e;
              }

    pass_fine : (i : ℕ) → Fine c root name (book_of s) (on (passing (fetch_of c i s)))
    unfolding fetch_by passing
    pass_fine i = by (find c (type_name_of (book_of s) i)) refl
      where
        by : (f : Option ℕ) → find c (type_name_of (book_of s) i) ≡ f → Fine c root name (book_of s) (on (passing (fetch_by c i s f)))
        by (Some n) e =
            let g : Fine c root name (book_of s) (append_of c n s) = append_fine n (found_type c (type_name_of (book_of s) i) n e) in
            record { final = g.final; is = rw g.is; sound = g.sound; more = g.more; grows = g.grows }
        by None e = stay s o

  sweep-fine : (width k i due : ℕ) (s : Ours) → Sound c root name s → Fine c root name (book_of s) (on (sweep_from c width k i due s))
  unfolding sweep_from sweep_by then_on
  sweep-fine width zero i due s o = stay s o
  sweep-fine width (suc k) i due s o = by (ltb i (blocks (book_of s))) (due_of (book_of s) width i due) (λ d z q. sweep-fine width k (i + 1) d z q)
    where
      by : (t : Bool) (d : Due) → ((d : ℕ) (z : Ours) → Sound c root name z → Fine c root name (book_of z) (on (sweep_from c width k (i + 1) d z)))
          → Fine c root name (book_of s) (on (cond t (sweep_by (sweep_from c width k (i + 1)) c i s d) s))
      by false d ih = stay s o
      by true (Names m) ih =
          let y : Ours = passing (fetch_of c i s) in
          let f : Fine c root name (book_of s) (on y) = pass_fine s o i in
          then-fine (book_of s) (on y) (λ z. on (sweep_from c width k (i + 1) m z)) f (ih m f.final f.sound)
      by true (Rest m) ih = ih m s o

  -- ---- the listed types

  -- the type name of a block stays what it is as the book grows
  name-stays : (book more : List ℕ) → ValidBook book → (b : ℕ) → b < blocks book → type_name_of (book ++ more) b ≡ type_name_of book b
  name-stays book more v b l =
      sym (type-names-same book (book ++ more) b b (sym (block_append book more b (omega (arith, (valid-size book v).whole)))) (valid-names book v b l))

  module _ (book : List ℕ) (v : ValidBook book) where
    listed-step : (b : ℕ) (bs : List ℕ) → b < blocks book → Defined c (type_name_of book b) → (s : Ours) → Sound c root name s → (more : List ℕ) → book_of s ≡ book ++ more
        → ((z : Ours) → Sound c root name z → (m : List ℕ) → book_of z ≡ book ++ m → Fine c root name (book_of z) (add_listed c bs z))
        → Fine c root name (book_of s) (add_listed c (b ∷ bs) s)
    unfolding add_listed fetch_by
    listed-step b bs h g s o more e ih =
        let q : type_name_of (book_of s) b ≡ type_name_of book b = ap (λ (x : List ℕ). type_name_of x b) e ∙ name-stays book more v b h in
        let z : find c (type_name_of (book_of s) b) ≡ Some g.at = ap (find c) q ∙ g.found in
        let f : Fine c root name (book_of s) (append_of c g.at s) = append_fine s o g.at (found_type c (type_name_of book b) g.at g.found) in
        rw z
        (then-fine (book_of s) (append_of c g.at s) (add_listed c bs) f
        (ih f.final f.sound (more ++ f.more) (f.grows ∙ ap (λ (x : List ℕ). x ++ f.more) e ∙ append_assoc book more f.more)))

    listed-none : (s : Ours) → Sound c root name s → Fine c root name (book_of s) (add_listed c [] s)
    unfolding add_listed
    listed-none s o = stay s o

    listed-fine : (bs : List ℕ) → ((b : ℕ) → Memᴰ b bs → b < blocks book) → ((b : ℕ) → Memᴰ b bs → Defined c (type_name_of book b))
        → (s : Ours) → Sound c root name s → (more : List ℕ) → book_of s ≡ book ++ more → Fine c root name (book_of s) (add_listed c bs s)
    listed-fine [] l d s o more e = listed-none s o
    listed-fine (b ∷ bs) l d s o more e =
        listed-step b bs (l b (Memᴰ.head refl)) (d b (Memᴰ.head refl)) s o more e
        (λ z p m q. listed-fine bs (λ x y. l x (Memᴰ.tail y)) (λ x y. d x (Memᴰ.tail y)) z p m q)

  -- the listed types and the sweep go on
  pub record Gone (width i : ℕ) (a : Adding) : Type 0 where
    pub before : Ours
    pub before-sound : Sound c root name before
    pub final : Ours
    pub is : a ≡ on final
    pub sound : Sound c root name final
    pub swept : final ≡ sweep c width i before

  pub all-fine : (width i : ℕ) (s : Ours) → Sound c root name s → (bs : List ℕ) → ((x : ℕ) → Memᴰ x bs → x < blocks (book_of s))
      → ((x : ℕ) → Memᴰ x bs → Defined c (type_name_of (book_of s) x)) → Gone width i (add_all c width i bs s)
  unfolding add_all then_on
  all-fine width i s o bs l d =
      let v : ValidBook (book_of s) = ours c w root name s o in
      let f : Fine c root name (book_of s) (add_listed c bs s) = listed-fine (book_of s) v bs l d s o [] (sym (append-nil (book_of s))) in
      let h : Fine c root name (book_of f.final) (on (sweep c width i f.final)) = sweep-fine width (65536 - i) i 0 f.final f.sound in
      record {
        before = f.final;
        before-sound = f.sound;
        final = h.final;
        is = rw f.is h.is;
        sound = h.sound;
        swept = on_same h.final (sweep c width i f.final) (sym h.is);
      }
