-- What holds of a valid book (document 01's term: one that passes 1 to 4), in the terms of the crate `type_book`: its length, the form of each
-- block, each type's fields and entries in their places, and names of which no two are the same. Assumes nothing.
use mathlib.Core.Path.{◌≡◌, refl, sym, ◌∙◌}
use mathlib.Core.Bool.{Bool, true, false, cond, ◌&&◌}
use mathlib.Core.List.{List, [], ◌∷◌}
use Prim.Native.Nat.{ℕ, zero, suc, ◌+◌, ◌*◌, ◌-◌, ◌≤◌, ◌<◌}
use native.Mathlib.Omega.{arith}
use borrow.Author.Tests.{eqb-true, le-leb, leb-true, ltb-true, ltb-false, not-true}
use lib.ListN.{length, get_or, take, drop, length-take, get_or-eq_default}
use lib.Seq.{length-take-le, take-length, take-take, get_or-take, get_or-drop}
use lib.Dec.{eqb, leb, ltb}
use Rattle.enc_number.specs.Answer.{refusal_of}
use Rattle.type_book.specs.Book.{blocks, block_of, byte_at, kind_of, is_type, dimensions_of, fields_of, entries_of, name_of, is_named}
use Rattle.type_provider.specs.Find.{find_from, find, TypeBlock, UniqueNames}
use Rattle.type_book.proofs.Blocks.{byte_of_block, part_of_block}
use Rattle.type_provider.proofs.Finds.{named-own, find-is, searched-all}
use Rattle.type_block_form.specs.Form.{every, is_zero, is_printable, part, unused_zero, name_form, names_form, flags_form, type_form, field_form, entry_form}
use Rattle.type_doubles.specs.Doubles.{all_from, is_other, is_first}
use Rattle.type_book_check.specs.Check.{size_right, place_of, places_onward, placed_from, check_blocks, check_book, ValidBook, root_of, check_root, book_numbers}
use Rattle.std.specs.Prelude.{Some, None}
use Rattle.type_book_check.specs.declared.BookCheck.TheVariants.{Valid}
use Rattle.type_book_check.specs.declared.RootCheck.TheVariants.{Root, Refused}
use Rattle.type_block_form.proofs.Bytes.{and_left, and_right}
use Rattle.type_block_form.proofs.Forms.{unused-room, flags-below}
use Rattle.type_doubles.proofs.All.{each_of}
use Rattle.type_book_check.proofs.Checks.{Sized, Passed, passes, passed-size, passes-again, size-again, size_in, book-length}
use Rattle.type_book_check.proofs.Numbers.{zero-valid}

-- ---- one block
-- a name of at most 200 bytes, each printable
pub record Named (book : List ℕ) (n c k : ℕ) : Type 0 where
  pub short : byte_at book n c ≤ 200
  pub printable : every is_printable (take (byte_at book n c) (drop (n * 512 + k) book)) ≡ true

-- bytes 52 to 453 of a block: its name, and its type name
pub record Names (book : List ℕ) (n : ℕ) : Type 0 where
  pub name : Named book n 52 54
  pub type-name : Named book n 53 254

pub record IsType (book : List ℕ) (n : ℕ) : Type 0 where
  pub kind : kind_of book n ≡ 1
  pub flags : byte_at book n 1 < 64
  pub dimensions : dimensions_of book n ≤ 8
  pub names : Names book n

pub record IsField (book : List ℕ) (n : ℕ) : Type 0 where
  pub kind : kind_of book n ≡ 2
  pub flags : byte_at book n 1 ≡ 0
  pub dimensions : dimensions_of book n ≡ 0
  pub names : Names book n

pub record IsEntry (book : List ℕ) (n : ℕ) : Type 0 where
  pub kind : kind_of book n ≡ 3
  pub value : byte_at book n 1 ≤ 8
  pub dimensions : dimensions_of book n ≡ 0
  pub no-type-name : byte_at book n 53 ≡ 0
  pub names : Names book n

-- a byte of a part that is all zeros is 0
each-zero : (xs : List ℕ) (i : ℕ) → every is_zero xs ≡ true → get_or xs i 0 ≡ 0
unfolding every
each-zero [] i h = refl
each-zero (x ∷ xs) zero h = eqb-true x 0 (and_left _ _ h)
each-zero (x ∷ xs) (suc i) h = each-zero xs i (and_right (is_zero x) _ h)

module _ (book : List ℕ) (n : ℕ) where
  abbrev b : List ℕ
  b = block_of book n

  byte : (k : ℕ) → k < 512 → get_or b k 0 ≡ byte_at book n k
  byte k l = byte_of_block book n k l

  zero-at : (f t i : ℕ) → every is_zero (part f t b) ≡ true → i < t - f → f + i < 512 → byte_at book n (f + i) ≡ 0
  zero-at f t i h l g =
      sym (byte (f + i) g) ∙ sym (get_or-take (t - f) (drop f b) i 0 l ∙ get_or-drop f b i 0) ∙ each-zero (part f t b) i h

  name_of_lem : (c k : ℕ) → c < 512 → k + 200 ≤ 512 → name_form (get_or b c 0) (take 200 (drop k b)) ≡ true → Named book n c k
  unfolding name_form
  name_of_lem c k l g h =
      let u : unused_zero (get_or b c 0) (take 200 (drop k b)) ≡ true = and_left _ _ h in
      let s : get_or b c 0 ≤ 200 = omega (arith, unused-room _ _ u, length-take 200 (drop k b)) in
      let e : get_or b c 0 ≡ byte_at book n c = byte c l in
      let p : take (get_or b c 0) (take 200 (drop k b)) ≡ take (byte_at book n c) (drop (n * 512 + k) book) =
      take-take (get_or b c 0) 200 (drop k b) s ∙ part_of_block book n k (get_or b c 0) (omega arith) ∙ rw e in
      record {
        short = omega arith;
        printable = rw (← p) (and_right (unused_zero (get_or b c 0) (take 200 (drop k b))) _ h);
      }

  names_of : names_form b ≡ true → Names book n
  unfolding names_form
  names_of h =
      let r = and_right (name_form (get_or b 52 0) (part 54 254 b)) _ h in
      record {
        name = name_of_lem 52 54 (omega arith) (omega arith) (and_left _ _ h);
        type-name = name_of_lem 53 254 (omega arith) (omega arith) (and_left _ _ r);
      }

  pub type-is : type_form b ≡ true → IsType book n
  unfolding type_form
  type-is h =
      let h₁ = and_right (eqb (get_or b 0 0) 1) _ h in
      let h₂ = and_right (flags_form (get_or b 1 0) _) _ h₁ in
      let h₃ = and_right (leb (get_or b 2 0) 8) _ h₂ in
      let h₄ = and_right (eqb (get_or b 3 0) 0) _ h₃ in
      record {
        kind = sym (byte 0 (omega arith)) ∙ eqb-true _ _ (and_left _ _ h);
        flags = omega (arith, byte 1 (omega arith), flags-below (get_or b 1 0) _ (and_left _ _ h₁));
        dimensions = omega (arith, byte 2 (omega arith), leb-true (get_or b 2 0) 8 (and_left _ _ h₂));
        names = names_of (and_right (unused_zero (get_or b 2 0 * 4) (part 20 52 b)) _ h₄);
      }

  pub field_is : field_form b ≡ true → IsField book n
  unfolding field_form
  field_is h =
      let h₁ = and_right (eqb (get_or b 0 0) 2) _ h in
      let z : every is_zero (part 1 4 b) ≡ true = and_left _ _ h₁ in
      let h₂ = and_right (every is_zero (part 1 4 b)) _ h₁ in
      record {
        kind = sym (byte 0 (omega arith)) ∙ eqb-true _ _ (and_left _ _ h);
        flags = zero-at 1 4 0 z (omega arith) (omega arith);
        dimensions = zero-at 1 4 1 z (omega arith) (omega arith);
        names = names_of (and_right (every is_zero (part 12 52 b)) _ h₂);
      }

  pub entry-is : entry_form b ≡ true → IsEntry book n
  unfolding entry_form
  entry-is h =
      let h₁ = and_right (eqb (get_or b 0 0) 3) _ h in
      let h₂ = and_right (leb (get_or b 1 0) 8) _ h₁ in
      let h₃ = and_right (every is_zero (part 2 20 b)) _ h₂ in
      let h₄ = and_right (unused_zero (get_or b 1 0) (part 20 52 b)) _ h₃ in
      record {
        kind = sym (byte 0 (omega arith)) ∙ eqb-true _ _ (and_left _ _ h);
        value = omega (arith, byte 1 (omega arith), leb-true (get_or b 1 0) 8 (and_left _ _ h₁));
        dimensions = zero-at 2 20 0 (and_left _ _ h₂) (omega arith) (omega arith);
        no-type-name = sym (byte 53 (omega arith)) ∙ eqb-true _ _ (and_left _ _ h₄);
        names = names_of (and_right (eqb (get_or b 53 0) 0) _ h₄);
      }

-- ---- the blocks in their places
-- f field blocks from block i on, then e entry blocks, within the k blocks from block i on
pub record Run (book : List ℕ) (i k f e : ℕ) : Type 0 where
  pub room : f + e ≤ k
  pub fields : (j : ℕ) → j < f → field_form (block_of book (i + j)) ≡ true
  pub entries : (j : ℕ) → j < e → entry_form (block_of book (i + f + j)) ≡ true

-- how a block passes its place
pub chosen : (t : Bool) (go : ℕ → ℕ → Bool) (f e : ℕ) → places_onward go (cond t (Some (f, e)) None) ≡ true → t ≡ true
unfolding places_onward
chosen true go f e h = refl
chosen false go f e h = h

pub went : (t : Bool) (go : ℕ → ℕ → Bool) (f e : ℕ) → places_onward go (cond t (Some (f, e)) None) ≡ true → go f e ≡ true
unfolding places_onward
went true go f e h = h
went false go f e h = cc

-- a run with one more block before it
field-more : (book : List ℕ) (i k f e : ℕ) → field_form (block_of book i) ≡ true → Run book (i + 1) k f e → Run book i (suc k) (suc f) e
field-more book i k f e h r =
    record {
      room = omega (arith, r.room);
      fields = fields;
      entries = λ j l. let q : i + suc f + j ≡ i + 1 + f + j = omega arith in rw q (r.entries j l);
    }
  where
    fields : (j : ℕ) → j < suc f → field_form (block_of book (i + j)) ≡ true
    fields zero l = let q : i + 0 ≡ i = omega arith in rw q h
    fields (suc j) l = let q : i + suc j ≡ i + 1 + j = omega arith in rw q (r.fields j (omega arith))

entry_more : (book : List ℕ) (i k e : ℕ) → entry_form (block_of book i) ≡ true → Run book (i + 1) k 0 e → Run book i (suc k) 0 (suc e)
entry_more book i k e h r =
    record {
      room = omega (arith, r.room);
      fields = λ j l. absurd (omega arith);
      entries = entries;
    }
  where
    entries : (j : ℕ) → j < suc e → entry_form (block_of book (i + 0 + j)) ≡ true
    entries zero l = let q : i + 0 + 0 ≡ i = omega arith in rw q h
    entries (suc j) l = let q : i + 0 + suc j ≡ i + 1 + 0 + j = omega arith in rw q (r.entries j (omega arith))

run : (book : List ℕ) (i k f e : ℕ) → placed_from book i k f e ≡ true → Run book i k f e
unfolding placed_from place_of
run book i zero f e h =
    let a : f ≡ 0 = eqb-true f 0 (and_left _ _ h) in
    let c : e ≡ 0 = eqb-true e 0 (and_right (eqb f 0) _ h) in
    record { room = omega arith; fields = λ j l. absurd (omega arith); entries = λ j l. absurd (omega arith) }
run book i (suc k) zero zero h =
    record { room = omega arith; fields = λ j l. absurd (omega arith); entries = λ j l. absurd (omega arith) }
run book i (suc k) zero (suc e) h = entry_more book i k e (chosen _ _ _ _ h) (run book (i + 1) k 0 e (went (entry_form (block_of book i)) _ _ _ h))
run book i (suc k) (suc f) e h = field-more book i k f e (chosen _ _ _ _ h) (run book (i + 1) k f e (went (field_form (block_of book i)) _ _ _ h))

-- block n, which has j blocks after it, has the form of its place
pub data Placed (book : List ℕ) (n j : ℕ) : Type 0 where
  type : type_form (block_of book n) ≡ true → placed_from book (n + 1) j (fields_of book n) (entries_of book n) ≡ true → Placed book n j
  field : field_form (block_of book n) ≡ true → Placed book n j
  entry : entry_form (block_of book n) ≡ true → Placed book n j

here : (book : List ℕ) (n j f e : ℕ) → placed_from book n (suc j) f e ≡ true → Placed book n j
unfolding placed_from place_of
here book n j zero zero h = type (chosen _ _ _ _ h) (went (type_form (block_of book n)) _ _ _ h)
here book n j zero (suc e) h = entry (chosen _ _ _ _ h)
here book n j (suc f) e h = field (chosen _ _ _ _ h)

next : (book : List ℕ) (i k f e : ℕ) → placed_from book i (suc k) f e ≡ true → (f' : ℕ) × (e' : ℕ) × (placed_from book (i + 1) k f' e' ≡ true)
unfolding placed_from place_of
next book i k zero zero h = (fields_of book i, entries_of book i, went (type_form (block_of book i)) _ _ _ h)
next book i k zero (suc e) h = (0, e, went (entry_form (block_of book i)) _ _ _ h)
next book i k (suc f) e h = (f, e, went (field_form (block_of book i)) _ _ _ h)

-- the d-th block from block i on, with j blocks after it
place-from : (book : List ℕ) (d i j f e : ℕ) → placed_from book i (d + suc j) f e ≡ true → Placed book (i + d) j
place-from book zero i j f e h =
    let q : i + 0 ≡ i = omega arith in
    let o : 0 + suc j ≡ suc j = omega arith in
    rw q (here book i j f e (rw o at h))
place-from book (suc d) i j f e h =
    let q : i + suc d ≡ i + 1 + d = omega arith in
    let o : suc d + suc j ≡ suc (d + suc j) = omega arith in
    let x = next book i (d + suc j) f e (rw o at h) in
    rw q (place-from book d (i + 1) j x.0 x.1 x.2)

-- ---- a valid book
-- a type block with its fields and entries, in their places
pub record Definition (book : List ℕ) (n : ℕ) : Type 0 where
  pub is : IsType book n
  pub room : n + fields_of book n + entries_of book n < blocks book
  pub fields : (j : ℕ) → j < fields_of book n → IsField book (n + 1 + j)
  pub entries : (j : ℕ) → j < entries_of book n → IsEntry book (n + 1 + fields_of book n + j)

-- at most 65,536 whole blocks
pub record Measured (book : List ℕ) : Type 0 where
  pub few : blocks book ≤ 65536
  pub whole : length book ≡ 512 * blocks book

-- past the end of a book of whole blocks there is no kind
past : (book : List ℕ) (n k : ℕ) → length book ≡ 512 * blocks book → kind_of book n ≡ suc k → n < blocks book
past book n k w h = by (ltb n (blocks book)) refl
  where
    by : (t : Bool) → ltb n (blocks book) ≡ t → n < blocks book
    by true e = ltb-true _ _ e
    by false e =
        let l : blocks book ≤ n = ltb-false n (blocks book) e in
        let z : kind_of book n ≡ 0 = get_or-eq_default book 0 (omega arith) in
        absurd (omega arith)

module _ (book : List ℕ) (v : ValidBook book) where
  pub valid-passes : Passed (length book) (length book) book
  valid-passes = rw (take-length book) at (passes book (length book) v)

  pub valid-size : Measured book
  valid-size =
      let z : Sized (length book) (length book) = valid-passes.size in
      record { few = z.few; whole = omega (arith, z.whole) }

  pub valid-below : (n k : ℕ) → kind_of book n ≡ suc k → n < blocks book
  valid-below n k h = past book n k valid-size.whole h

  pub valid-place : (n : ℕ) → n < blocks book → Placed book n (blocks book - (n + 1))
  valid-place n l =
      let q : blocks book ≡ n + suc (blocks book - (n + 1)) = omega arith in
      let o : 0 + n ≡ n = omega arith in
      rw o at (place-from book n 0 (blocks book - (n + 1)) 0 0 (rw q at valid-passes.place))

  pub valid-type : (n : ℕ) → is_type book n ≡ true → Definition book n
  valid-type n h = by (valid-place n (valid-below n 0 kind))
    where
      kind : kind_of book n ≡ 1
      kind = eqb-true (kind_of book n) 1 h

      by : Placed book n (blocks book - (n + 1)) → Definition book n
      by (type t p) =
          let r : Run book (n + 1) (blocks book - (n + 1)) (fields_of book n) (entries_of book n) = run book (n + 1) _ _ _ p in
          let l : n < blocks book = valid-below n 0 kind in
          record {
            is = type-is book n t;
            room = omega (arith, r.room);
            fields = λ j g. field_is book (n + 1 + j) (r.fields j g);
            entries = λ j g. entry-is book (n + 1 + fields_of book n + j) (r.entries j g);
          }
      by (field t) = absurd (omega (arith, (field_is book n t).kind, kind))
      by (entry t) = absurd (omega (arith, (entry-is book n t).kind, kind))

  pub valid-field : (n : ℕ) → kind_of book n ≡ 2 → IsField book n
  valid-field n h = by (valid-place n (valid-below n 1 h))
    where
      by : Placed book n (blocks book - (n + 1)) → IsField book n
      by (type t p) = absurd (omega (arith, (type-is book n t).kind))
      by (field t) = field_is book n t
      by (entry t) = absurd (omega (arith, (entry-is book n t).kind))

  pub valid-entry : (n : ℕ) → kind_of book n ≡ 3 → IsEntry book n
  valid-entry n h = by (valid-place n (valid-below n 2 h))
    where
      by : Placed book n (blocks book - (n + 1)) → IsEntry book n
      by (type t p) = absurd (omega (arith, (type-is book n t).kind))
      by (field t) = absurd (omega (arith, (field_is book n t).kind))
      by (entry t) = entry-is book n t

  pub valid-names : (n : ℕ) → n < blocks book → Names book n
  valid-names n l = by (valid-place n l)
    where
      by : Placed book n (blocks book - (n + 1)) → Names book n
      by (type t p) = (type-is book n t).names
      by (field t) = (field_is book n t).names
      by (entry t) = (entry-is book n t).names

  pub valid-first : (n : ℕ) → is_type book n ≡ true → (m : ℕ) → m < n → is_named book (name_of book n) m ≡ false
  unfolding is_first is_other
  valid-first n h m l =
      let f : is_first book n ≡ true = each_of (is_first book) (blocks book) valid-passes.name n (valid-below n 0 (eqb-true (kind_of book n) 1 h)) in
      let a : all_from (is_other book (name_of book n)) 0 n ≡ true = rw h at f in
      not-true _ (each_of (is_other book (name_of book n)) n a m l)

  pub valid-unique : UniqueNames book
  valid-unique n t =
      find-is book (name_of book n) n
      (record { below = t.below; named = named-own book n t.kind })
      (valid-first n t.kind)

  -- a type block is one that a look-up searches, and the look-up of its name finds it
  pub valid-block : (n : ℕ) → is_type book n ≡ true → TypeBlock book n
  valid-block n h =
      let l : n < blocks book = valid-below n 0 (eqb-true (kind_of book n) 1 h) in
      record { below = rw (searched-all book valid-size.few) l; kind = h }

  pub valid-own : (n : ℕ) → is_type book n ≡ true → find book (name_of book n) ≡ Some n
  valid-own n h = valid-unique n (valid-block n h)

-- ---- the book with nothing in it
-- it is valid in any buffer, one of no bytes too, and it has no type
pub empty-valid : (buffer : List ℕ) → check_book buffer 0 ≡ Valid
unfolding check_book size_right check_blocks all_from placed_from
empty-valid buffer = let l : 0 ≤ length buffer = omega arith in rw (le-leb 0 (length buffer) l)

pub empty-lacks : (name : List ℕ) → find [] name ≡ None
unfolding find find_from
empty-lacks name = refl

-- ---- what the two calls say
-- the book that a call found valid, as a list of its own
pub valid-book : (buffer : List ℕ) (len : ℕ) → check_book buffer len ≡ Valid → ValidBook (take len buffer)
valid-book buffer len h =
    let p : Passed (length buffer) len (take len buffer) = passes buffer len h in
    let e : length (take len buffer) ≡ len = book-length buffer len p.size in
    let z : size_right len len ≡ true = size-again (length buffer) len (passed-size buffer len h) in
    let q : take len (take len buffer) ≡ take len buffer = take-take len len buffer (omega arith) in
    rw e (passes-again (take len buffer) len (rw e z) (rw q p.sum) (rw q p.place) (rw q p.name))

-- and back: a valid book in a longer buffer
pub valid_in : (buffer : List ℕ) (len : ℕ) → len ≤ length buffer → ValidBook (take len buffer) → check_book buffer len ≡ Valid
valid_in buffer len l v =
    let p : Passed (length (take len buffer)) (length (take len buffer)) (take len buffer) = valid-passes (take len buffer) v in
    let e : length (take len buffer) ≡ len = length-take-le len buffer l in
    passes-again buffer len (size_in (length buffer) len l (rw e at p.size)) p.sum p.place p.name

-- an answer `Root r` of a call: the book lies in its buffer and is valid, and r is the number asked, of a type block
pub record Rooted (buffer : List ℕ) (len root r : ℕ) : Type 0 where
  pub fits : len ≤ length buffer
  pub valid : ValidBook (take len buffer)
  pub is : r ≡ root
  pub kind : is_type (take len buffer) r ≡ true
  pub below : r < blocks (take len buffer)

root-kind : (book : List ℕ) (root r : ℕ) → root_of book root ≡ Root r → (r ≡ root) × (is_type book root ≡ true) × (root < blocks book)
unfolding root_of
root-kind book root r h = by (ltb root (blocks book) && is_type book root) refl h
  where
    by : (t : Bool) → ltb root (blocks book) && is_type book root ≡ t → cond t (Root root) (Refused 5) ≡ Root r → (r ≡ root) × (is_type book root ≡ true) × (root < blocks book)
    by true e g = (cc, and_right (ltb root (blocks book)) _ e, ltb-true _ _ (and_left _ _ e))
    by false e g = let z : ◌≡◌ {A = ℕ} 0 1 = cc in absurd (omega arith)

pub root-valid : (buffer : List ℕ) (len root r : ℕ) → check_root buffer len root ≡ Root r → Rooted buffer len root r
unfolding check_root
root-valid buffer len root r h = by (eqb (refusal_of (book_numbers (check_book buffer len))) 0) refl h
  where
    by : (t : Bool) → eqb (refusal_of (book_numbers (check_book buffer len))) 0 ≡ t → cond t (root_of (take len buffer) root) (Refused (refusal_of (book_numbers (check_book buffer len)))) ≡ Root r → Rooted buffer len root r
    by true e g =
        let k = root-kind (take len buffer) root r g in
        record {
          fits = (passes buffer len (zero-valid _ (eqb-true _ _ e))).size.fits;
          valid = valid-book buffer len (zero-valid _ (eqb-true _ _ e));
          is = k.0;
          kind = rw k.0 k.1;
          below = rw k.0 k.2;
        }
    by false e g = let z : ◌≡◌ {A = ℕ} 0 1 = cc in absurd (omega arith)
