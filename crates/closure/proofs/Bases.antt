-- What an add leaves of our book, whatever the root is and whether our book has it. Assumes nothing.
use Rattle.std.specs.Prelude.{Option, Some, None}
use mathlib.Core.Path.{◌≡◌, refl, sym, ◌∙◌, subst}
use mathlib.Core.Bool.{true}
use mathlib.Core.List.{List, [], ◌++◌}
use Prim.Native.Nat.{ℕ, ◌+◌, ◌≤◌}
use native.Mathlib.Omega.{arith}
use lib.ListN.{length, length-append, length-take, length-drop}
use Rattle.type_book.specs.Book.{blocks, is_type, name_of}
use Rattle.type_provider.specs.Find.{find}
use Rattle.type_book_check.specs.declared.BookCheck.TheVariants.{Valid}
use Rattle.type_book_check.specs.Check.{check_book, ValidBook}
use Rattle.type_book_check.proofs.Valid.{valid-book, valid-size}
use Rattle.type_cache.specs.Append.{appended_numbers, append_call, append_buffer, append_refusal, has_room, AppendIs}
use Rattle.type_cache.specs.Same.{blocks_of, definition_of}
use Rattle.type_cache.specs.declared.Appended.{Appended}
use Rattle.type_cache.proofs.Numbers.{appended-is}
use Rattle.type_cache.proofs.Appends.{refused-cut, room-is, call_done, call_refused, buffer-done, buffer-kept}
use Rattle.type_cache.proofs.Adds.{definition_size, add-known, add-lacking, Added, added, Grown, grown}
use Rattle.enc_number.specs.Answer.{refusal_of}
use Rattle.type_book_check.proofs.Numbers.{valid-number}
use Rattle.resolve_missing_types.specs.Needs.{Lacking}
use Rattle.closure.specs.Calls.{Ours, book_of, add, bytes, length_after, next}
use Rattle.closure.specs.Demand.{AddIs, BytesIs}
use Rattle.closure_books.specs.Books.{Covers}
use Rattle.closure_books.proofs.Room.{room-blocks}
use Rattle.closure_books.proofs.Kept.{covers-added}

-- what holds of our book from the first call on, whatever the root
pub record Base (c : List ℕ) (s : Ours) : Type 0 where
  pub valid : check_book s.buffer s.len ≡ Valid
  pub room : length c ≤ length s.buffer
  pub covers : Covers (book_of s) c

-- a refused addition leaves all as it was
pub unchanged : (s : Ours) (more : List ℕ) (c : List ℕ) → (append_refusal s.buffer s.len more ≡ 0 → ⊥) → next c (bytes more) s ≡ s
unchanged s more c h = rw (buffer-kept s.buffer s.len more h, call_refused s.buffer s.len more h)

-- the answer's number is 0 exactly if nothing is refused
pub none-refused : (s : Ours) (more : List ℕ) → append_refusal s.buffer s.len more ≡ 0 → refusal_of (appended_numbers (append_call s.buffer s.len more)) ≡ 0
unfolding appended_numbers
none-refused s more h = rw (call_done s.buffer s.len more h)

pub some-refused : (s : Ours) (more : List ℕ) → (append_refusal s.buffer s.len more ≡ 0 → ⊥) → refusal_of (appended_numbers (append_call s.buffer s.len more)) ≡ 0 → ⊥
unfolding appended_numbers
some-refused s more h e = h (rw (call_refused s.buffer s.len more h) at e)

module _ (c : List ℕ) (w : ValidBook c) (s : Ours) (o : Base c s) where
  pub ours : ValidBook (book_of s)
  ours = valid-book s.buffer s.len o.valid

  pub cut : s.len ≡ length (book_of s)
  cut = refused-cut s.buffer s.len [] (check_book s.buffer s.len) refl 0 (valid-number (check_book s.buffer s.len) o.valid) refl

  module _ (n : ℕ) (t : is_type c n ≡ true) where
    -- a name that our book has: refused, and nothing changes
    pub add_same : (k : ℕ) → find (book_of s) (name_of c n) ≡ Some k → next c (add n) s ≡ s
    add_same k e = unchanged s (definition_of c n) c (λ h. let q : append_refusal s.buffer s.len (definition_of c n) ≡ 4 = add-known c w n t s.buffer s.len o.valid k e in omega arith)

    module _ (e : find (book_of s) (name_of c n) ≡ None) where
      -- our book with one more definition of the controller's is no longer than the controller's
      pub more-blocks : blocks (book_of s) + blocks_of c n ≤ blocks c
      more-blocks = room-blocks (book_of s) c ours w o.covers n (blocks_of c n) (λ l. record { type = t; size = omega arith; new = e })

      fits : has_room (length s.buffer) s.len (length (definition_of c n)) ≡ true
      fits =
          room-is (length s.buffer) s.len (length (definition_of c n))
          (omega (arith, cut, more-blocks, definition_size c w n t, (valid-size (book_of s) ours).whole, (valid-size c w).whole, o.room))
          (omega (arith, cut, more-blocks, definition_size c w n t, (valid-size (book_of s) ours).whole, (valid-size c w).few))

      pub add_none : append_refusal s.buffer s.len (definition_of c n) ≡ 0
      add_none = add-lacking c w n t s.buffer s.len o.valid e fits

      after : Grown s.buffer s.len (definition_of c n)
      after = grown s.buffer s.len (definition_of c n) add_none

      pub new-length : (next c (add n) s).len ≡ s.len + length (definition_of c n)
      new-length = rw (call_done s.buffer s.len (definition_of c n) add_none)

      pub add-longer : book_of (next c (add n) s) ≡ book_of s ++ definition_of c n
      add-longer = rw (call_done s.buffer s.len (definition_of c n) add_none) after.book

      pub add-added : Added (book_of s) c n (book_of s ++ definition_of c n)
      add-added = added (book_of s) c n ours w t e (omega (arith, more-blocks, (valid-size c w).few))

      buffer-long : length (append_buffer s.buffer s.len (definition_of c n)) ≡ length s.buffer
      buffer-long =
          rw (buffer-done s.buffer s.len (definition_of c n) add_none)
          (simp (length-append, length-take, length-drop)
          (omega (arith, cut, more-blocks, definition_size c w n t, (valid-size (book_of s) ours).whole, (valid-size c w).whole, o.room)))

      longer : Base c (next c (add n) s)
      longer =
          record {
            valid = rw (call_done s.buffer s.len (definition_of c n) add_none) after.check;
            room = rw buffer-long o.room;
            covers = rw add-longer (covers-added (book_of s) c n (book_of s ++ definition_of c n) o.covers t add-added);
          }

    -- an add leaves it so
    pub base-add : Base c (next c (add n) s)
    base-add = by (find (book_of s) (name_of c n)) refl
      where
        by : (f : Option ℕ) → find (book_of s) (name_of c n) ≡ f → Base c (next c (add n) s)
        by (Some k) e = rw (add_same k e) o
        by None e = longer e

    -- a name that was not found is not found after it, unless it is the one that was added
    pub add-other : (x : List ℕ) → find (book_of s) x ≡ None → (x ≡ name_of c n → ⊥) → find (book_of (next c (add n) s)) x ≡ None
    add-other x h d = by (find (book_of s) (name_of c n)) refl
      where
        by : (f : Option ℕ) → find (book_of s) (name_of c n) ≡ f → find (book_of (next c (add n) s)) x ≡ None
        by (Some j) e = subst (λ (z : Ours). find (book_of z) x ≡ None) (sym (add_same j e)) h
        by None e = rw (add-longer e) ((add-added e).other x h d)

    -- what was found is found after it; so what lacks then lacked before
    pub add-keeps : (x : List ℕ) (k : ℕ) → find (book_of s) x ≡ Some k → find (book_of (next c (add n) s)) x ≡ Some k
    add-keeps x k h = by (find (book_of s) (name_of c n)) refl
      where
        by : (f : Option ℕ) → find (book_of s) (name_of c n) ≡ f → find (book_of (next c (add n) s)) x ≡ Some k
        by (Some j) e = subst (λ (z : Ours). find (book_of z) x ≡ Some k) (sym (add_same j e)) h
        by None e = rw (add-longer e) ((add-added e).old x k h)

    -- and the name that was added is found then
    pub add-finds : (k : ℕ) × (find (book_of (next c (add n) s)) (name_of c n) ≡ Some k)
    add-finds = by (find (book_of s) (name_of c n)) refl
      where
        by : (f : Option ℕ) → find (book_of s) (name_of c n) ≡ f → (k : ℕ) × (find (book_of (next c (add n) s)) (name_of c n) ≡ Some k)
        by (Some j) e = (j, add-keeps (name_of c n) j e)
        by None e = (blocks (book_of s), rw (add-longer e) (add-added e).found)

  -- ---- by the contract of appending

  module _ (n : ℕ) (t : is_type c n ≡ true) (r : Appended) (buffer : List ℕ) (m : AppendIs s.buffer s.len (definition_of c n) r buffer) where
    add_left : next c (add n) s ≡ record { buffer = buffer; len = length_after s.len r }
    add_left = rw (appended-is r _ m.answer, m.bytes)

    known_of : (Lacking (book_of s) (name_of c n) → ⊥) → (k : ℕ) × (find (book_of s) (name_of c n) ≡ Some k)
    known_of h = by (find (book_of s) (name_of c n)) refl
      where
        by : (f : Option ℕ) → find (book_of s) (name_of c n) ≡ f → (k : ℕ) × (find (book_of s) (name_of c n) ≡ Some k)
        by (Some k) e = (k, e)
        by None e = absurd (h e)

    refused-then : (refusal_of (appended_numbers r) ≡ 0 → ⊥) → Lacking (book_of s) (name_of c n) → ⊥
    refused-then h l = h (rw m.answer (none-refused s (definition_of c n) (add_none n t l)))

    then-refused : (Lacking (book_of s) (name_of c n) → ⊥) → refusal_of (appended_numbers r) ≡ 0 → ⊥
    then-refused h e =
        let q = known_of h in
        let z : append_refusal s.buffer s.len (definition_of c n) ≡ 4 = add-known c w n t s.buffer s.len o.valid q.0 q.1 in
        some-refused s (definition_of c n) (λ g. omega arith) (rw m.answer at e)

    pub add_is : AddIs c s n r buffer
    add_is =
        record {
          refused = (refused-then, then-refused);
          longer = add-longer n t;
          same = λ h. let q = known_of h in add_same n t q.0 q.1;
          left = add_left;
        }

  pub bytes-is : (more : List ℕ) → (refusal_of (appended_numbers (append_call s.buffer s.len more)) ≡ 0 → ⊥) → (r : Appended) (buffer : List ℕ) → AppendIs s.buffer s.len more r buffer
      → BytesIs c s more r buffer
  bytes-is more h r buffer m = record { same = unchanged s more c (λ e. h (none-refused s more e)); left = rw (appended-is r _ m.answer, m.bytes) }
