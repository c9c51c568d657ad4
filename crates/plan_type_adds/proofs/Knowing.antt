-- The marks of the types that a book knows: what each of them says, as they are made. Assumes nothing.
use Rattle.std.specs.Prelude.{Option, Some, None}
use mathlib.Core.Path.{◌≡◌, refl, sym, ap, ◌∙◌}
use mathlib.Core.Bool.{Bool, true, false, not, cond, ◌||◌}
use mathlib.Core.List.{List}
use Prim.Native.Nat.{ℕ, zero, suc, ◌+◌, ◌-◌, ◌≤◌, ◌<◌}
use native.Mathlib.Omega.{arith}
use borrow.Author.Tests.{eq-eqb, eqb-true, eqb-false, not-true}
use lib.ListN.{length, get_or, set, replicate, length-set, length-replicate, get_or-replicate, get_or-eq_default}
use lib.Seq.{get_or-set_same, get_or-set_other}
use lib.Dec.{eqb}
use Rattle.type_book.specs.Book.{blocks, is_type, name_of, is_named}
use Rattle.type_provider.proofs.Numbers.{found-is, found-says}
use Rattle.type_provider.specs.Find.{searched, find_from, find, is_found}
use Rattle.type_provider.proofs.Finds.{named-kind, named-name, named-own}
use Rattle.type_index.specs.Index.{FoundBy}
use Rattle.type_book_check.specs.Check.{ValidBook}
use Rattle.type_book_check.proofs.Valid.{valid-own, valid-unique, valid-size, valid-below}
use Rattle.type_cache.specs.Append.{is_known}
use Rattle.plan_type_adds.specs.Knows.{has_mark, Knows, MarkedBy}

-- ---- one mark

pub marked_in_lem : (known : List ℕ) (n : ℕ) → eqb (get_or known n 0) 1 ≡ has_mark known n
unfolding has_mark
marked_in_lem known n = refl

pub marked-past : (known : List ℕ) (n : ℕ) → length known ≡ 65536 → 65536 ≤ n → false ≡ has_mark known n
unfolding has_mark
marked-past known n e l = let l' : length known ≤ n = omega arith in rw (get_or-eq_default known 0 l')

pub marked-set : (known : List ℕ) (n : ℕ) → n < length known → has_mark (set known n 1) n ≡ true
unfolding has_mark
marked-set known n l = rw (get_or-set_same known n 1 0 l)

pub marked_other : (known : List ℕ) (n m : ℕ) → (m ≡ n → ⊥) → has_mark (set known n 1) m ≡ has_mark known m
unfolding has_mark
marked_other known n m h = rw (get_or-set_other known n m 1 0 h)

or_true : (t : Bool) → t || true ≡ true
or_true true = refl
or_true false = refl

or_false : (t : Bool) → t || false ≡ t
or_false true = refl
or_false false = refl

-- a mark more, where it is known which block it is for
marked_more : (known : List ℕ) (n m : ℕ) (t : Bool) → n < length known → (t ≡ true → m ≡ n) → (m ≡ n → t ≡ true)
    → has_mark (set known n 1) m ≡ has_mark known m || t
marked_more known n m true l f g = let e : m ≡ n = f refl in rw e (marked-set known n l ∙ sym (or_true (has_mark known n)))
marked_more known n m false l f g = marked_other known n m (λ e. let z = g e in let y : ◌≡◌ {A = ℕ} 0 1 = cc in omega arith) ∙ sym (or_false (has_mark known m))

-- ---- the mark of one block's name

module _ (c : List ℕ) (v : ValidBook c) (book : List ℕ) (i : ℕ) (known : List ℕ) where
  -- no type of c has the name of block i
  none : ((n : ℕ) → is_type c n ≡ true → is_named book (name_of c n) i ≡ true → ⊥) → MarkedBy c book i known known
  none h = record { long = refl; is = λ n t. by n (is_named book (name_of c n) i) refl (h n t) }
    where
      by : (n : ℕ) (g : Bool) → is_named book (name_of c n) i ≡ g → (is_named book (name_of c n) i ≡ true → ⊥) → has_mark known n ≡ has_mark known n || is_named book (name_of c n) i
      by n true e k = absurd (k e)
      by n false e k = rw e (sym (or_false (has_mark known n)))

  pub mark-other : (t : Bool) → t ≡ is_type book i → not t ≡ true → MarkedBy c book i known known
  mark-other t e h = none (λ n k w. let z : is_type book i ≡ true = named-kind book _ i w in let y : is_type book i ≡ false = sym e ∙ not-true t h in let x : ◌≡◌ {A = ℕ} 0 1 = cc in omega arith)

  module _ (ti : Bool) (eti : ti ≡ is_type book i) (hti : not ti ≡ false) (name : List ℕ) (e : name ≡ name_of book i) (r : Option ℕ) (f : FoundBy c name r) where
    is-find : r ≡ find c (name_of book i)
    is-find = found-is _ _ (f.unique (valid-unique c v)) ∙ ap (find c) e

    -- a type of c that has the name of block i is the one that was found
    own : (n : ℕ) → is_type c n ≡ true → is_named book (name_of c n) i ≡ true → r ≡ Some n
    own n t w = is-find ∙ ap (find c) (named-name book (name_of c n) i w) ∙ valid-own c v n t

    pub mark-lacks : r ≡ None → MarkedBy c book i known known
    mark-lacks h = none (λ n t w. let z : r ≡ Some n = own n t w in let x : ◌≡◌ {A = ℕ} 0 1 = cc in omega arith)

    module _ (n : ℕ) (h : r ≡ Some n) where
      found-named : is_named c (name_of book i) n ≡ true
      found-named = rw e at (f.at n (found-says _ _ h)).named

      pub mark-below : length known ≡ 65536 → n < length known
      mark-below l = omega (arith, valid-below c v n 0 (eqb-true _ _ (named-kind c _ n found-named)), (valid-size c v).few)

      pub mark-at : length known ≡ 65536 → MarkedBy c book i known (set known n 1)
      mark-at l =
          record {
            long = length-set known n 1;
            is = λ m t. marked_more known n m (is_named book (name_of c m) i) (mark-below l)
                (λ w. let z : r ≡ Some m = own m t w in cc)
                (λ q. rw (q, named-name c (name_of book i) n found-named) (named-own book i (sym eti ∙ not_false' ti hti)));
          }
        where
          not_false' : (t : Bool) → not t ≡ false → t ≡ true
          not_false' true k = refl
          not_false' false k = sym k

-- ---- the loop

-- the marks of the names of the blocks before i
pub record KnowsTo (c book known : List ℕ) (i n : ℕ) : Type 0 where
  pub long : length known ≡ 65536
  pub is : (m : ℕ) → is_type c m ≡ true → is_known book (name_of c m) ≡ has_mark known m || is_found (find_from book (name_of c m) i (n - i))

not-marked : (m : ℕ) → m < 65536 → has_mark (replicate 65536 0) m ≡ false
unfolding has_mark
not-marked m l = rw (get_or-replicate {A = ℕ} 65536 m 0 0 l)

pub knows_start : (c : List ℕ) → ValidBook c → (book known before : List ℕ) → known ≡ replicate (length before) 0 → length before ≡ 65536 → (n : ℕ) → n ≡ searched book → KnowsTo c book known 0 n
unfolding find
knows_start c v book known before e l n en =
    record {
      long = rw e (length-replicate (length before) 0 ∙ l);
      is = λ m t. let q : n - 0 ≡ searched book = omega arith in rw (e, l, not-marked m (omega (arith, valid-below c v m 0 (eqb-true _ _ t), (valid-size c v).few)), q);
    }

module _ (c book known : List ℕ) (i n : ℕ) (inv : KnowsTo c book known i n) where
  pub knows-long : length known ≡ 65536
  knows-long = inv.long

  pub knows_again : (l : i < n) (known' : List ℕ) → MarkedBy c book i known known' → KnowsTo c book known' (i + 1) n
  unfolding find_from
  knows_again l known' k =
      record {
        long = k.long ∙ inv.long;
        is = λ m t. inv.is m t ∙ turn m (is_named book (name_of c m) i) refl ∙ sym (rw (k.is m t) (assoc (has_mark known m) (is_named book (name_of c m) i) _));
      }
    where
      assoc : (a b d : Bool) → (a || b) || d ≡ a || (b || d)
      assoc true b d = refl
      assoc false b d = refl

      turn : (m : ℕ) (g : Bool) → is_named book (name_of c m) i ≡ g
          → has_mark known m || is_found (find_from book (name_of c m) i (n - i))
          ≡ has_mark known m || (is_named book (name_of c m) i || is_found (find_from book (name_of c m) (i + 1) (n - (i + 1))))
      turn m true e = let q : n - i ≡ suc (n - (i + 1)) = omega arith in rw (q, e)
      turn m false e = let q : n - i ≡ suc (n - (i + 1)) = omega arith in rw (q, e)

  pub knows-end : n ≤ i → Knows c book known
  unfolding find_from
  knows-end l =
      record {
        long = inv.long;
        is = λ m t. let q : n - i ≡ 0 = omega arith in sym (rw q at (inv.is m t) ∙ or_false (has_mark known m));
      }
