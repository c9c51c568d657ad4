-- The records of fields: whether they fit, the loop that stores them, and what the call owes at each exit. Assumes nothing.
use mathlib.Core.Path.{◌≡◌, refl, sym, ap, ◌∙◌}
use mathlib.Core.Bool.{Bool, true, false, cond}
use mathlib.Core.List.{List, [], ◌∷◌, ◌++◌}
use Prim.Native.Nat.{ℕ, zero, suc, ◌+◌, ◌*◌, ◌-◌, ◌/◌, ◌≤◌, ◌<◌}
use native.Mathlib.Omega.{arith}
use borrow.Author.Tests.{le-leb, lt-leb, leb-true}
use lib.ListN.{length, take, set}
use lib.Dec.{leb}
use lib.Seq.{sets, length-sets, sets-eq}
use Rattle.type_book.specs.Book.{fields_of}
use Rattle.type_book_check.specs.declared.RootCheck.{RootCheck}
use Rattle.type_book_check.specs.declared.RootCheck.TheVariants as checked
use Rattle.type_book_check.specs.Check.{check_root}
use Rattle.type_book_check.proofs.Roots.{at-refused, at_block}
use Rattle.type_book_check.specs.Given.{Given, number, lacking_root, check_given}
use Rattle.type_book_check.specs.declared.GivenRoot.{GivenRoot}
use Rattle.type_book_check.specs.declared.GivenRoot.TheVariants as given
use Rattle.type_book_check.proofs.Givens.{given-at-refused, given-at-lacking, given-at-block, at-number}
use Rattle.resolve_field_types.specs.declared.ResolvedField.{ResolvedField}
use Rattle.resolve_field_types.specs.declared.FieldAnswer.{FieldAnswer}
use Rattle.resolve_field_types.specs.declared.FieldAnswer.TheVariants as answer
use Rattle.resolve_field_types.specs.declared.FieldsCheck.{FieldsCheck}
use Rattle.resolve_field_types.specs.declared.FieldsCheck.TheVariants as check
use Rattle.resolve_field_types.specs.declared.FieldsAnswer.{FieldsAnswer}
use Rattle.resolve_field_types.specs.declared.FieldsAnswer.TheVariants as fields
use Rattle.resolve_field_types.specs.Fields.{check_numbers, resolve_field, fields_from, fields_check, FieldResolved}
use Rattle.resolve_field_types.specs.Calls.{records_that_fit, fields_end, fields_answer, field_record, records_from, field_records, stored_in, Filled, root_fields, root_records, given_fields, given_records}
use Rattle.resolve_field_types.proofs.Numbers.{field_is, fields-says}
use Rattle.resolve_field_types.proofs.Fields.{fields-more, fields-lacks, fields-endless}

-- ---- how many records fit

module _ (book : List ℕ) (width t room n : ℕ) (en : n ≡ fields_of book t) (fit : ℕ) (ef : fit ≡ records_that_fit n room) where
  module _ (k : FieldsCheck) (ek : k ≡ fields_from book width (t + 1) fit) where
    answer-is : fields_end n room k ≡ fields_answer book width t room
    unfolding fields_answer
    answer-is = rw (← en, ← ef, ← ek)

    pub answer-lacks : (c : ℕ) → k ≡ check.NotFound c → fields.NotFound c ≡ fields_answer book width t room
    unfolding fields_end
    answer-lacks c h = rw h at answer-is

    pub answer-endless : k ≡ check.TooLong → fields.Refused 8 ≡ fields_answer book width t room
    unfolding fields_end check_numbers
    answer-endless h = rw h at answer-is

    pub answer-short : k ≡ check.Fine → fit < n → fields.Refused 15 ≡ fields_answer book width t room
    unfolding fields_end
    answer-short h l = let g : room < n = omega arith in rw (h, lt-leb n room g) at answer-is

    pub answer-done : k ≡ check.Fine → n ≤ fit → fields.Done n ≡ fields_answer book width t room
    unfolding fields_end
    answer-done h l = let g : n ≤ room = omega arith in rw (h, le-leb n room g) at answer-is

-- what a success says: the records fit, and no field is refused
pub record Fit (book : List ℕ) (width t room m : ℕ) : Type 0 where
  pub room-is : fields_of book t ≤ room
  pub fine : fields_check book width t ≡ check.Fine
  pub count : m ≡ fields_of book t

module _ (book : List ℕ) (width t room m : ℕ) where
  done-by : (b : Bool) → leb (fields_of book t) room ≡ b → fields_from book width (t + 1) (records_that_fit (fields_of book t) room) ≡ check.Fine
      → cond b (fields.Done (fields_of book t)) (fields.Refused 15) ≡ fields.Done m → Fit book width t room m
  unfolding fields_check
  done-by true q h e =
      let l : fields_of book t ≤ room = leb-true _ _ q in
      let o : records_that_fit (fields_of book t) room ≡ fields_of book t = omega arith in
      record { room-is = omega arith; fine = rw o at h; count = cc }
  done-by false q h e = absurd (let z : ◌≡◌ {A = ℕ} 0 1 = cc in omega arith)

  done_of : (k : FieldsCheck) → fields_from book width (t + 1) (records_that_fit (fields_of book t) room) ≡ k
      → fields_end (fields_of book t) room k ≡ fields.Done m → Fit book width t room m
  unfolding fields_end
  done_of check.Fine h e = done-by (leb (fields_of book t) room) refl h e
  done_of (check.NotFound c) h e = absurd (let z : ◌≡◌ {A = ℕ} 0 1 = cc in omega arith)
  done_of check.TooLong h e = absurd (let z : ◌≡◌ {A = ℕ} 0 1 = cc in omega arith)

  pub done-fit : fields_answer book width t room ≡ fields.Done m → Fit book width t room m
  unfolding fields_answer
  done-fit e = done_of (fields_from book width (t + 1) (records_that_fit (fields_of book t) room)) refl e

-- ---- one record

pub store-four : (l : List ℕ) (at : ℕ) (x : ResolvedField)
    → set (set (set (set l at x.offset) (at + 1) x.size) (at + 2) x.resolved) (at + 3) x.field ≡ sets l at (field_record (answer.Field x))
store-four l at x =
    let a : at + 1 ≡ suc at = omega arith in
    let b : at + 2 ≡ suc (suc at) = omega arith in
    let c : at + 3 ≡ suc (suc (suc at)) = omega arith in
    rw (a, b, c)

-- ---- the loop of `store_fields`

-- a run of stores, in two parts
sets_append : (vs ws l : List ℕ) (i : ℕ) → sets l i (vs ++ ws) ≡ sets (sets l i vs) (i + length vs) ws
sets_append [] ws l i = let z : i + 0 ≡ i = omega arith in rw z
sets_append (v ∷ vs) ws l i =
    let z : suc i + length vs ≡ i + suc (length vs) = omega arith in
    sets_append vs ws (set l i v) (suc i) ∙ ap (λ (k : ℕ). sets (sets (set l i v) (suc i) vs) k ws) z

-- before the i-th of n fields: no field left is refused, and what is left, stored from here, gives the whole
pub record Storing (book : List ℕ) (width t n : ℕ) (records : List ℕ) (i : ℕ) (now : List ℕ) : Type 0 where
  pub fine : fields_from book width (t + 1 + i) (n - i) ≡ check.Fine
  pub finish : sets now (i * 4) (records_from book width (t + 1 + i) (n - i)) ≡ sets records 0 (field_records book width t)
  pub kept : length now ≡ length records

module _ (book : List ℕ) (width t n : ℕ) (en : n ≡ fields_of book t) (records : List ℕ) where
  pub store-start : fields_check book width t ≡ check.Fine → Storing book width t n records 0 records
  unfolding fields_check field_records
  store-start h =
      let a : t + 1 + 0 ≡ t + 1 = omega arith in
      let b : n - 0 ≡ fields_of book t = omega arith in
      record { fine = rw (a, b) h; finish = rw (a, b); kept = refl }

  module _ (i : ℕ) (now : List ℕ) (s : Storing book width t n records i now) where
    pub store-end : n ≤ i → now ≡ sets records 0 (field_records book width t)
    unfolding records_from
    store-end h = let k : n - i ≡ 0 = omega arith in rw k at s.finish

    module _ (l : i < n) where
      pub store-room : fields_of book t * 4 ≤ length records → i * 4 + 4 ≤ length now
      store-room h = omega (arith, s.kept)

      module _ (a : FieldAnswer) (q : FieldResolved book width (t + 1 + i) a) where
        left : n - i ≡ suc (n - (i + 1))
        left = omega arith

        -- no field left is refused
        pub store-lacks : (c : ℕ) → a ≡ answer.NotFound c → now ≡ sets records 0 (field_records book width t)
        store-lacks c h =
            let w : fields_from book width (t + 1 + i) (suc (n - (i + 1))) ≡ check.Fine = rw left at s.fine in
            let y = fields-lacks book width (t + 1 + i) (n - (i + 1)) c (sym (field_is _ _ q.is) ∙ h) in
            absurd (let z : ◌≡◌ {A = ℕ} 0 1 = cc in omega arith)

        pub store-endless : a ≡ answer.TooLong → now ≡ sets records 0 (field_records book width t)
        store-endless h =
            let w : fields_from book width (t + 1 + i) (suc (n - (i + 1))) ≡ check.Fine = rw left at s.fine in
            let y = fields-endless book width (t + 1 + i) (n - (i + 1)) (sym (field_is _ _ q.is) ∙ h) in
            absurd (let z : ◌≡◌ {A = ℕ} 0 1 = cc in omega arith)

        pub store-refused : ((x : ResolvedField) → a ≡ answer.Field x → ⊥) → now ≡ sets records 0 (field_records book width t)
        store-refused other = by a refl
          where
            by : (b : FieldAnswer) → a ≡ b → now ≡ sets records 0 (field_records book width t)
            by (answer.Field x) h = absurd (other x h)
            by (answer.NotFound c) h = store-lacks c h
            by answer.TooLong h = store-endless h

        pub store-again : (x : ResolvedField) → a ≡ answer.Field x → (later : List ℕ) → later ≡ sets now (i * 4) (field_record (answer.Field x))
            → Storing book width t n records (i + 1) later
        unfolding records_from
        store-again x h later e =
            let f : resolve_field book width (t + 1 + i) ≡ answer.Field x = sym (field_is _ _ q.is) ∙ h in
            let p : t + 1 + (i + 1) ≡ t + 1 + i + 1 = omega arith in
            let o : (i + 1) * 4 ≡ i * 4 + 4 = omega arith in
            let w : fields_from book width (t + 1 + i) (suc (n - (i + 1))) ≡ check.Fine = rw left at s.fine in
            let y : sets now (i * 4) (records_from book width (t + 1 + i) (suc (n - (i + 1)))) ≡ sets records 0 (field_records book width t) = rw left at s.finish in
            let r : List ℕ = records_from book width (t + 1 + i + 1) (n - (i + 1)) in
            let u : sets now (i * 4) (field_record (answer.Field x) ++ r) ≡ sets records 0 (field_records book width t) = rw f at y in
            record {
              fine = rw p (sym (fields-more book width (t + 1 + i) (n - (i + 1)) x f) ∙ w);
              finish = rw (p, o, e) (sym (sets_append (field_record (answer.Field x)) r now (i * 4)) ∙ u);
              kept = ap length e ∙ length-sets now (i * 4) (field_record (answer.Field x)) ∙ s.kept;
            }

-- ---- the whole

-- a record has at most four numbers
records-length : (book : List ℕ) (width f k : ℕ) → length (records_from book width f k) ≤ k * 4
unfolding records_from
records-length book width f zero = omega arith
records-length book width f (suc k) = by (resolve_field book width f) (records-length book width (f + 1) k)
  where
    by : (a : FieldAnswer) → length (records_from book width (f + 1) k) ≤ k * 4 → length (field_record a ++ records_from book width (f + 1) k) ≤ suc k * 4
    by (answer.Field x) h = omega arith
    by (answer.NotFound c) h = omega arith
    by answer.TooLong h = omega arith

module _ (book : List ℕ) (width t : ℕ) (before : List ℕ) (r : FieldsAnswer) (e : r ≡ fields_answer book width t (length before / 4)) where
  -- a refusal leaves the records as they were
  pub filled-refused : ((m : ℕ) → r ≡ fields.Done m → ⊥) → Filled (fields_answer book width t (length before / 4)) (field_records book width t) before r before
  unfolding stored_in
  filled-refused other = record { is = fields-says _ _ e; records = rw (← e) (by r refl) }
    where
      by : (k : FieldsAnswer) → r ≡ k → before ≡ stored_in r (field_records book width t) before
      by (fields.Done m) h = absurd (other m h)
      by (fields.NotFound c) h = rw h
      by (fields.Refused n) h = rw h

  module _ (m : ℕ) (h : r ≡ fields.Done m) where
    pub filled-fine : fields_check book width t ≡ check.Fine
    filled-fine = (done-fit book width t (length before / 4) m (sym e ∙ h)).fine

    pub filled-room : fields_of book t * 4 ≤ length before
    filled-room = let q : fields_of book t ≤ length before / 4 = (done-fit book width t (length before / 4) m (sym e ∙ h)).room-is in omega arith

    pub filled-done : (after : List ℕ) → after ≡ sets before 0 (field_records book width t)
        → Filled (fields_answer book width t (length before / 4)) (field_records book width t) before r after
    unfolding stored_in field_records
    filled-done after q =
        let a : length (records_from book width (t + 1) (fields_of book t)) ≤ fields_of book t * 4 = records-length book width (t + 1) (fields_of book t) in
        let b : fields_of book t * 4 ≤ length before = filled-room in
        let l : 0 + length (records_from book width (t + 1) (fields_of book t)) ≤ length before = omega arith in
        let z : 0 + length (records_from book width (t + 1) (fields_of book t)) ≡ length (records_from book width (t + 1) (fields_of book t)) = omega arith in
        record { is = fields-says _ _ e; records = rw (← e, h) (q ∙ sets-eq (records_from book width (t + 1) (fields_of book t)) before 0 l ∙ rw z) }

-- ---- the root

module _ (buffer : List ℕ) (len root : ℕ) (k : RootCheck) (e : k ≡ check_root buffer len root) (width : ℕ) (before : List ℕ) where
  pub fields-refused : (n : ℕ) → k ≡ checked.Refused n
      → Filled (root_fields buffer len width root (length before / 4)) (root_records buffer len width root) before (fields.Refused n) before
  unfolding root_fields stored_in
  fields-refused n h =
      let z : fields.Refused n ≡ root_fields buffer len width root (length before / 4) = at-refused fields.Refused _ k e n h in
      record { is = fields-says _ _ z; records = rw (← z) }

  pub fields-root : (t : ℕ) → k ≡ checked.Root t → (r : FieldsAnswer) (after : List ℕ)
      → Filled (fields_answer (take len buffer) width t (length before / 4)) (field_records (take len buffer) width t) before r after
      → Filled (root_fields buffer len width root (length before / 4)) (root_records buffer len width root) before r after
  unfolding root_fields root_records
  fields-root t h r after q =
      let z : fields_answer (take len buffer) width t (length before / 4) ≡ root_fields buffer len width root (length before / 4) = at_block fields.Refused _ k e t h in
      let y : field_records (take len buffer) width t ≡ root_records buffer len width root = at_block (λ n. []) _ k e t h in
      record { is = rw (← z) q.is; records = rw (← z, ← y) q.records }

module _ (buffer : List ℕ) (len root : ℕ) (k : RootCheck) (e : k ≡ check_root buffer len root) (width room : ℕ) where
  pub check-refused : (n : ℕ) → k ≡ checked.Refused n → fields.Refused n ≡ root_fields buffer len width root room
  unfolding root_fields
  check-refused n h = at-refused fields.Refused _ k e n h

  pub check-at : (t : ℕ) → k ≡ checked.Root t → (r : FieldsAnswer) → r ≡ fields_answer (take len buffer) width t room → r ≡ root_fields buffer len width root room
  unfolding root_fields
  check-at t h r q = q ∙ at_block fields.Refused _ k e t h

-- ---- the root however it is given

module _ (buffer : List ℕ) (len : ℕ) (root : Given) (k : GivenRoot) (e : k ≡ check_given buffer len root) (width : ℕ) (before : List ℕ) where
  pub given-fields-refused : (n : ℕ) → k ≡ given.Refused n
      → Filled (given_fields buffer len width root (length before / 4)) (given_records buffer len width root) before (fields.Refused n) before
  unfolding given_fields stored_in
  given-fields-refused n h =
      let z : fields.Refused n ≡ given_fields buffer len width root (length before / 4) = given-at-refused fields.Refused _ _ k e n h in
      record { is = fields-says _ _ z; records = rw (← z) }

  pub given-fields-lacking : k ≡ given.Lacking
      → Filled (given_fields buffer len width root (length before / 4)) (given_records buffer len width root) before (fields.NotFound lacking_root) before
  unfolding given_fields stored_in
  given-fields-lacking h =
      let z : fields.NotFound lacking_root ≡ given_fields buffer len width root (length before / 4) = given-at-lacking fields.Refused _ _ k e h in
      record { is = fields-says _ _ z; records = rw (← z) }

  pub given-fields-block : (t : ℕ) → k ≡ given.Block t → (r : FieldsAnswer) (after : List ℕ)
      → Filled (fields_answer (take len buffer) width t (length before / 4)) (field_records (take len buffer) width t) before r after
      → Filled (given_fields buffer len width root (length before / 4)) (given_records buffer len width root) before r after
  unfolding given_fields given_records
  given-fields-block t h r after q =
      let z : fields_answer (take len buffer) width t (length before / 4) ≡ given_fields buffer len width root (length before / 4) = given-at-block fields.Refused (fields.NotFound lacking_root) _ k e t h in
      let y : field_records (take len buffer) width t ≡ given_records buffer len width root = given-at-block (λ n. []) [] _ k e t h in
      record { is = rw (← z) q.is; records = rw (← z, ← y) q.records }

-- the call by a number is the instance
pub fields-by-number : (buffer : List ℕ) (len width n room : ℕ) → given_fields buffer len width (number n) room ≡ root_fields buffer len width n room
unfolding given_fields root_fields
fields-by-number buffer len width n room =
    at-number fields.Refused (fields.NotFound lacking_root) (λ t. fields_answer (take len buffer) width t room) buffer len n

pub records-by-number : (buffer : List ℕ) (len width n : ℕ) → given_records buffer len width (number n) ≡ root_records buffer len width n
unfolding given_records root_records
records-by-number buffer len width n = at-number (λ n. []) [] (field_records (take len buffer) width) buffer len n
