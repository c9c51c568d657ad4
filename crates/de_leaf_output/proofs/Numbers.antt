-- The record of a number, at each exit of the functions that make it. Assumes nothing.
use mathlib.Core.Path.{◌≡◌, refl, sym, ap, ◌∙◌}
use mathlib.Core.Bool.{Bool, true, false, cond, not}
use mathlib.Core.List.{List}
use Prim.Native.Nat.{ℕ, ◌%◌, ◌^◌, ◌<◌}
use native.Mathlib.Omega.{arith}
use lib.ListN.{length, get_or, take, get_or-eq_default}
use lib.Seq.{take_all}
use lib.Dec.{eqb}
use borrow.Author.Tests.{eqb-false}
use Rattle.enc_number.specs.Le.{le_value}
use Rattle.type_id.specs.declared.AdsTypeId.TheVariants.{Int16, Int32, Real32, Real64, Int8, UInt8, UInt16, UInt32, Int64, UInt64}
use Rattle.type_id.proofs.TypeIds.{named}
use Rattle.enc_integer.specs.Integer.{read_integer}
use Rattle.enc_integer.specs.declared.Integer.{Integer}
use Rattle.enc_integer.specs.declared.Integer.TheVariants as integer
use Rattle.enc_integer.specs.declared.IntegerRead.{IntegerRead}
use Rattle.enc_integer.specs.declared.IntegerRead.TheVariants as read
use Rattle.enc_integer.proofs.Integers.{read_unsupported}
use Rattle.enc_integer.proofs.Numbers.{read_unsupported_number}
use Rattle.enc_float.specs.Float.{single_of, double_of, real_bits}
use Rattle.enc_float.specs.declared.Real.{Real}
use Rattle.enc_float.proofs.Reals.{single-by, double-by, single-back, double-back, real_unsupported, read_single, read_double}
use Rattle.type_book.specs.Book.{name_of, type_id_of, same_name}
use Rattle.type_book.proofs.Names.{other_name}
use Rattle.type_names.specs.Text.{ascii_bytes}
use Rattle.type_category.specs.declared.type_category.AdsTypeCategory.{AdsTypeCategory}
use Rattle.time_types.specs.declared.TimeType.TheVariants as time
use Rattle.time_types.specs.Types.{time_type_of}
use Rattle.time_types.specs.Counts.{name_counts, count_width}
use Rattle.time_types.proofs.Names.{no-time}
use Rattle.time_types.proofs.Widths.{width-none, width-named}
use Rattle.tape.specs.Record.{new_record, declaring}
use Rattle.tape.specs.declared.record.Record.{Record}
use Rattle.de_leaves.specs.declared.leaf.LeafValue.{LeafValue}
use Rattle.de_leaves.specs.declared.leaf.LeafKind.{LeafKind}
use Rattle.de_leaves.specs.declared.leaf.LeafKind.TheVariants as kind
use Rattle.de_leaves.specs.Leaf.{kind_of_leaf, bool_leaf, real_leaf, integer_leaf, real_or, number_leaf, kind_leaf, leaf_by}
use Rattle.de_leaves.proofs.Leaves.{bool_is}
use Rattle.de_leaf_output.specs.declared.Typed.{Typed}
use Rattle.de_leaf_output.specs.declared.LeafForm.TheVariants as form
use Rattle.de_leaf_output.specs.Leaves.{form_of}
use Rattle.de_leaf_output.specs.Numbers.{is_number, real_in, Tells, Uncounted, NumberRecordIs}

-- ---- the record that says nothing

pub none-tells : {v : LeafValue} (r : Record) → r ≡ new_record 0 0 0 0 → Tells v r
none-tells r e = record { tells = λ h. absurd (h (rw e)) }

pub none_number : {book : List ℕ} {x : Typed} {mem : List ℕ} (r : Record) → r ≡ new_record 0 0 0 0 → NumberRecordIs book x mem r
none_number r e = record { number = λ h. absurd (h (rw e)); is = λ h. absurd (h (rw e)) }

-- ---- an integer, a bool, a real

pub signed-tells : {i : IntegerRead} {v : Integer} (w b : ℕ) (r : Record) → i ≡ read.Value v → v ≡ integer.Signed w b → r ≡ new_record 7 w 0 b → Tells (integer_leaf i) r
unfolding integer_leaf
signed-tells w b r e q h = record { tells = λ _. rw (e, q, h) }

pub unsigned-tells : {i : IntegerRead} {v : Integer} (w n : ℕ) (r : Record) → i ≡ read.Value v → v ≡ integer.Unsigned w n → r ≡ new_record 8 w 0 n → Tells (integer_leaf i) r
unfolding integer_leaf
unsigned-tells w n r e q h = record { tells = λ _. rw (e, q, h) }

pub integer_tells : {i j : IntegerRead} {r : Record} → i ≡ j → Tells (integer_leaf i) r → Tells (integer_leaf j) r
integer_tells e h = rw (← e) h

pub bool_tells : (mem : List ℕ) (n : ℕ) (r : Record) → length mem ≡ 1 → n ≡ cond (not (eqb (get_or mem 0 0) 0)) 1 0 → r ≡ new_record 6 0 0 n → Tells (bool_leaf mem) r
bool_tells mem n r l e h = record { tells = λ _. rw (← bool_is mem l, h, e) }

module _ (mem : List ℕ) (n : ℕ) (r : Record) where
  single_form : (m : ℕ) → form_of (real_leaf (single_of m)) ≡ form.Record (new_record 9 0 0 (real_bits (single_of m)))
  single_form m = single-by (λ (v : Real). form_of (real_leaf v) ≡ form.Record (new_record 9 0 0 (real_bits v))) (λ k. refl) (λ x. refl) m

  double_form : (m : ℕ) → form_of (real_leaf (double_of m)) ≡ form.Record (new_record 10 0 0 (real_bits (double_of m)))
  double_form m = double-by (λ (v : Real). form_of (real_leaf v) ≡ form.Record (new_record 10 0 0 (real_bits v))) (λ k. refl) (λ x. refl) m

  pub single-tells : (x : ℕ) → length mem ≡ 4 → x ≡ le_value (take 4 mem) → n ≡ x → n < 4294967296 → r ≡ new_record 9 0 0 n → Tells (real_in Real32 mem) r
  unfolding real_in real_or
  single-tells x l e q h z =
      let a : le_value mem ≡ n = sym (q ∙ e ∙ ap le_value (take_all 4 mem (omega arith))) in
      let b : le_value mem % 2 ^ 32 ≡ n = omega arith in
      record { tells = λ _. rw (← read_single mem l, b, z) (single_form n ∙ ap (λ (m : ℕ). form.Record (new_record 9 0 0 m)) (single-back n (omega arith))) }

  pub double-tells : (x : ℕ) → length mem ≡ 8 → x ≡ le_value (take 8 mem) → n ≡ x → n < 18446744073709551616 → r ≡ new_record 10 0 0 n → Tells (real_in Real64 mem) r
  unfolding real_in real_or
  double-tells x l e q h z =
      let a : le_value mem ≡ n = sym (q ∙ e ∙ ap le_value (take_all 8 mem (omega arith))) in
      record { tells = λ _. rw (← read_double mem l, a, z) (double_form n ∙ ap (λ (m : ℕ). form.Record (new_record 10 0 0 m)) (double-back n (omega arith))) }

-- ---- by the id

module _ (book : List ℕ) (t : ℕ) (mem : List ℕ) (r : Record) (n : ℕ) (en : n ≡ type_id_of book t) where
  pub by_bool : n ≡ 33 → Tells (bool_leaf mem) r → Tells (number_leaf book t mem) r
  unfolding number_leaf
  by_bool e h = let q : type_id_of book t ≡ 33 = sym en ∙ e in rw q h

  pub by_2 : n ≡ 2 → Tells (integer_leaf (read_integer Int16 mem)) r → Tells (number_leaf book t mem) r
  unfolding number_leaf real_or
  by_2 e h = let q : type_id_of book t ≡ 2 = sym en ∙ e in rw (q, ← named Int16 tt 2 refl, ← real_unsupported Int16 mem 0 refl refl) h

  pub by_3 : n ≡ 3 → Tells (integer_leaf (read_integer Int32 mem)) r → Tells (number_leaf book t mem) r
  unfolding number_leaf real_or
  by_3 e h = let q : type_id_of book t ≡ 3 = sym en ∙ e in rw (q, ← named Int32 tt 3 refl, ← real_unsupported Int32 mem 0 refl refl) h

  pub by_16 : n ≡ 16 → Tells (integer_leaf (read_integer Int8 mem)) r → Tells (number_leaf book t mem) r
  unfolding number_leaf real_or
  by_16 e h = let q : type_id_of book t ≡ 16 = sym en ∙ e in rw (q, ← named Int8 tt 16 refl, ← real_unsupported Int8 mem 0 refl refl) h

  pub by_17 : n ≡ 17 → Tells (integer_leaf (read_integer UInt8 mem)) r → Tells (number_leaf book t mem) r
  unfolding number_leaf real_or
  by_17 e h = let q : type_id_of book t ≡ 17 = sym en ∙ e in rw (q, ← named UInt8 tt 17 refl, ← real_unsupported UInt8 mem 0 refl refl) h

  pub by_18 : n ≡ 18 → Tells (integer_leaf (read_integer UInt16 mem)) r → Tells (number_leaf book t mem) r
  unfolding number_leaf real_or
  by_18 e h = let q : type_id_of book t ≡ 18 = sym en ∙ e in rw (q, ← named UInt16 tt 18 refl, ← real_unsupported UInt16 mem 0 refl refl) h

  pub by_19 : n ≡ 19 → Tells (integer_leaf (read_integer UInt32 mem)) r → Tells (number_leaf book t mem) r
  unfolding number_leaf real_or
  by_19 e h = let q : type_id_of book t ≡ 19 = sym en ∙ e in rw (q, ← named UInt32 tt 19 refl, ← real_unsupported UInt32 mem 0 refl refl) h

  pub by_20 : n ≡ 20 → Tells (integer_leaf (read_integer Int64 mem)) r → Tells (number_leaf book t mem) r
  unfolding number_leaf real_or
  by_20 e h = let q : type_id_of book t ≡ 20 = sym en ∙ e in rw (q, ← named Int64 tt 20 refl, ← real_unsupported Int64 mem 0 refl refl) h

  pub by_21 : n ≡ 21 → Tells (integer_leaf (read_integer UInt64 mem)) r → Tells (number_leaf book t mem) r
  unfolding number_leaf real_or
  by_21 e h = let q : type_id_of book t ≡ 21 = sym en ∙ e in rw (q, ← named UInt64 tt 21 refl, ← real_unsupported UInt64 mem 0 refl refl) h

  pub by_4 : n ≡ 4 → Tells (real_in Real32 mem) r → Tells (number_leaf book t mem) r
  unfolding number_leaf real_in integer_leaf
  by_4 e h = let q : type_id_of book t ≡ 4 = sym en ∙ e in rw (q, ← named Real32 tt 4 refl, ← read_unsupported Real32 mem 0 refl refl, read_unsupported_number) h

  pub by_5 : n ≡ 5 → Tells (real_in Real64 mem) r → Tells (number_leaf book t mem) r
  unfolding number_leaf real_in integer_leaf
  by_5 e h = let q : type_id_of book t ≡ 5 = sym en ∙ e in rw (q, ← named Real64 tt 5 refl, ← read_unsupported Real64 mem 0 refl refl, read_unsupported_number) h

-- ---- a name that counts no time

-- names that begin otherwise
differs : (name t : List ℕ) → (get_or name 0 0 ≡ get_or t 0 0 → get_or name 1 0 ≡ get_or t 1 0 → ⊥) → same_name name t ≡ false
differs name t h = sym (other_name name t (λ e. h (ap (λ (l : List ℕ). get_or l 0 0) e) (ap (λ (l : List ℕ). get_or l 1 0) e)))

-- by the first two bytes of a name
module _ (name : List ℕ) where
  record Begins : Type 0 where
    ti : get_or name 0 0 ≡ 84 → get_or name 1 0 ≡ 73 → ⊥
    to : get_or name 0 0 ≡ 84 → get_or name 1 0 ≡ 79 → ⊥
    da : get_or name 0 0 ≡ 68 → get_or name 1 0 ≡ 65 → ⊥
    dt : get_or name 0 0 ≡ 68 → get_or name 1 0 ≡ 84 → ⊥
    ld : get_or name 0 0 ≡ 76 → get_or name 1 0 ≡ 68 → ⊥
    lt : get_or name 0 0 ≡ 76 → get_or name 1 0 ≡ 84 → ⊥

  none_of : Begins → time.NoTime ≡ time_type_of name
  none_of b = no-time name (record {
    time = differs name (ascii_bytes "TIME") b.ti;
    ltime = differs name (ascii_bytes "LTIME") b.lt;
    tod = differs name (ascii_bytes "TOD") b.to;
    time_of_day = differs name (ascii_bytes "TIME_OF_DAY") b.ti;
    date = differs name (ascii_bytes "DATE") b.da;
    dt = differs name (ascii_bytes "DT") b.dt;
    date_and_time = differs name (ascii_bytes "DATE_AND_TIME") b.da;
    ldate = differs name (ascii_bytes "LDATE") b.ld;
    ldt = differs name (ascii_bytes "LDT") b.ld;
    ltod = differs name (ascii_bytes "LTOD") b.lt;
  })

  pub count-short : length name < 2 → Uncounted name false
  count-short h =
      let z : get_or name 1 0 ≡ 0 = get_or-eq_default name 0 (omega arith) in
      record { none = λ _. none_of (record { ti = λ a b. omega arith; to = λ a b. omega arith; da = λ a b. omega arith; dt = λ a b. omega arith; ld = λ a b. omega arith; lt = λ a b. omega arith }) }

  pub count-other : (get_or name 0 0 ≡ 84 → ⊥) → (get_or name 0 0 ≡ 68 → ⊥) → (get_or name 0 0 ≡ 76 → ⊥) → Uncounted name false
  count-other t d l = record { none = λ _. none_of (record { ti = λ a b. t a; to = λ a b. t a; da = λ a b. d a; dt = λ a b. d a; ld = λ a b. l a; lt = λ a b. l a }) }

  pub count_t : get_or name 0 0 ≡ 84 → (get_or name 1 0 ≡ 73 → ⊥) → Uncounted name (eqb (get_or name 1 0) 79)
  count_t h n = record {
    none = λ e.
        let m : get_or name 1 0 ≡ 79 → ⊥ = eqb-false (get_or name 1 0) 79 e in
        none_of (record { ti = λ a b. n b; to = λ a b. m b; da = λ a b. omega arith; dt = λ a b. omega arith; ld = λ a b. omega arith; lt = λ a b. omega arith });
  }

  pub count-d : get_or name 0 0 ≡ 68 → (get_or name 1 0 ≡ 65 → ⊥) → Uncounted name (eqb (get_or name 1 0) 84)
  count-d h n = record {
    none = λ e.
        let m : get_or name 1 0 ≡ 84 → ⊥ = eqb-false (get_or name 1 0) 84 e in
        none_of (record { ti = λ a b. omega arith; to = λ a b. omega arith; da = λ a b. n b; dt = λ a b. m b; ld = λ a b. omega arith; lt = λ a b. omega arith });
  }

  pub count_l : get_or name 0 0 ≡ 76 → (get_or name 1 0 ≡ 68 → ⊥) → Uncounted name (eqb (get_or name 1 0) 84)
  count_l h n = record {
    none = λ e.
        let m : get_or name 1 0 ≡ 84 → ⊥ = eqb-false (get_or name 1 0) 84 e in
        none_of (record { ti = λ a b. omega arith; to = λ a b. omega arith; da = λ a b. omega arith; dt = λ a b. omega arith; ld = λ a b. n b; lt = λ a b. m b });
  }

-- ---- the whole

-- a kind that is read by its id
kind-number : (k : LeafKind) → is_number k ≡ true → k ≡ kind.Number
kind-number kind.Number e = refl
kind-number kind.Text e = absurd (let z : ◌≡◌ {A = ℕ} 0 1 = cc in omega arith)
kind-number kind.Enum e = absurd (let z : ◌≡◌ {A = ℕ} 0 1 = cc in omega arith)
kind-number kind.Pointer e = absurd (let z : ◌≡◌ {A = ℕ} 0 1 = cc in omega arith)
kind-number kind.Unit e = absurd (let z : ◌≡◌ {A = ℕ} 0 1 = cc in omega arith)
kind-number kind.None e = absurd (let z : ◌≡◌ {A = ℕ} 0 1 = cc in omega arith)

-- a name that counts no time makes no count, whatever the category
no-count : (book : List ℕ) (t : ℕ) (c : AdsTypeCategory) → time.NoTime ≡ time_type_of (name_of book t) → count_width book t c ≡ 0
no-count book t c e = sym (by (name_counts c) refl)
  where
    by : (b : Bool) → b ≡ name_counts c → 0 ≡ count_width book t c
    by true q = width-named book t c true q refl (name_of book t) refl time.NoTime e 0 refl
    by false q = width-none book t c false q refl

pub number_is : (book : List ℕ) (x : Typed) (mem : List ℕ) (b : Bool) → b ≡ is_number (kind_of_leaf x.category) → b ≡ true → (name : List ℕ) → name ≡ name_of book x.resolved
    → (m : Bool) → Uncounted name m → m ≡ false → (y r : Record) → Tells (number_leaf book x.resolved mem) y → r ≡ declaring x.named y → NumberRecordIs book x mem r
unfolding leaf_by kind_leaf
number_is book x mem b eb hb name en m u em y r t er =
    let k : kind_of_leaf x.category ≡ kind.Number = kind-number (kind_of_leaf x.category) (sym eb ∙ hb) in
    let n : count_width book x.resolved x.category ≡ 0 = no-count book x.resolved x.category (u.none em ∙ ap time_type_of en) in
    let z : y.kind ≡ r.kind = rw er in
    record {
      number = λ _. k;
      is = λ h width. rw (n, k, t.tells (λ e. h (sym z ∙ e)), er);
    }
