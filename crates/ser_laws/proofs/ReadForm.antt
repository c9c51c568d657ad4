-- What an accepted read leaves on its tape is well formed. Assumes nothing.
use mathlib.Core.Path.{◌≡◌, refl, sym, ap, ◌∙◌}
use mathlib.Core.Bool.{Bool, true, false, cond}
use mathlib.Core.List.{List, [], ◌∷◌, ◌++◌}
use Prim.Native.Nat.{ℕ, ◌+◌, ◌*◌, ◌-◌, ◌/◌, ◌^◌, ◌≤◌, ◌<◌}
use native.Mathlib.Omega.{arith}
use borrow.Author.Tests.{leb-true}
use lib.ListN.{length, take, drop, length-append, length-take, length-drop}
use lib.Seq.{take-append-add, take-append_seam}
use lib.Dec.{eqb}
use Rattle.enc_number.specs.Le.{Bytes}
use Rattle.enc_utf_8.specs.Buffer.{fits_in}
use Rattle.enc_utf_8.proofs.Splices.{splice-start}
use Rattle.type_book.specs.Book.{is_type}
use Rattle.type_book_check.specs.Check.{ValidBook, check_root}
use Rattle.type_book_check.proofs.Valid.{root-valid}
use Rattle.type_book_check.proofs.Roots.{at_each}
use Rattle.resolvers.specs.Resolve.{resolve_alias, resolved_numbers}
use Rattle.resolvers.specs.declared.Resolved.{Resolved}
use Rattle.resolvers.specs.declared.Resolved.TheVariants as resolved
use Rattle.tape.specs.declared.record.Record.{Record}
use Rattle.tape.specs.Record.{record_bytes}
use Rattle.tape.proofs.Records.{length-record}
use Rattle.tape_form.specs.Form.{formed}
use Rattle.tape_form.specs.Tree.{records}
use Rattle.tape_form.specs.Tree as trees
use Rattle.tape_form.proofs.Laws.{complete}
use Rattle.de_output.specs.declared.Step.TheVariants.{Stop}
use Rattle.de_output.specs.declared.ReadAnswer.{ReadAnswer}
use Rattle.de_output.specs.declared.ReadAnswer.TheVariants as reading
use Rattle.de_output.specs.Trace.{TapeEvent, Trace, done, stop, text_bytes, tape_bytes, events_of, end_of, fits, step_of, refuse}
use Rattle.de_output.specs.Answer.{read_answer_of, buffer_after, ReadIs}
use Rattle.de_output.proofs.Numbers.{read_is}
use Rattle.tape_array_elements.specs.Element.{whole}
use Rattle.de.specs.Walk.{ctx, typed_of}
use Rattle.de.specs.Read.{root_by, root_trace, read_trace}
use Rattle.ser_laws.specs.Laws.{ReadIsFormed}
use Rattle.ser_laws.proofs.Plain.{different}
use Rattle.std.proofs.lemmas.Bool.{and_parts}
use Rattle.ser_laws.proofs.ReadTree.{Stands, Value, Emits, bytes_take, base-typed, walk-emits}

-- ---- a trace

-- the events of a trace that is not refused, as a value where their texts stand in some text buffer
record Reads (book : List ℕ) (t : Trace) : Type 0 where
  forms : (buffer : List ℕ) → length buffer < 2 ^ 64 → Emits book buffer (Value book buffer 64) t

reads-refused : (book : List ℕ) (n b : ℕ) → Reads book (refuse n b)
reads-refused book n b = record { forms = λ buffer l. record { emits = tt } }

by-root : (book : List ℕ) (width n : ℕ) (mem : List ℕ) → ValidBook book → Bytes book → Bytes mem → is_type book n ≡ true → (r : Resolved)
    → ((u : ℕ) → r ≡ resolved.Base u → is_type book u ≡ true) → Reads book (root_by (ctx book width) n mem r)
unfolding root_by resolved_numbers
by-root book width n mem v p b y (resolved.Base t) h = record { forms = λ buffer l. walk-emits book buffer l v p width 64 (whole (typed_of (ctx book width) n t)) mem (record { resolved = h t refl; named = y }) b }
by-root book width n mem v p b y (resolved.NotFound k) h = reads-refused book 7 k
by-root book width n mem v p b y resolved.TooLong h = reads-refused book 8 0

by-check : (buffer : List ℕ) (len width n : ℕ) (mem : List ℕ) → Bytes buffer → Bytes mem → Reads (take len buffer) (read_trace buffer len width n mem)
unfolding read_trace root_trace
by-check buffer len width n mem p b =
    at_each (Reads (take len buffer)) _ _ (check_root buffer len n)
    (λ k e. reads-refused (take len buffer) k 0)
    (λ m e.
    let v = root-valid buffer len n m e in
    by-root (take len buffer) width m mem v.valid (bytes_take len buffer p) b v.kind (resolve_alias (take len buffer) width m)
    (base-typed (take len buffer) width m v.kind))

-- ---- the buffers

bytes-length : (rs : List Record) → length (trees.records_bytes rs) ≡ 24 * length rs
unfolding trees.records_bytes
bytes-length [] = refl
bytes-length (r ∷ rs) = length-append (record_bytes r) (trees.records_bytes rs) ∙ omega (arith, length-record r, bytes-length rs)

-- what an accepted answer tells of a trace
record Told (t : Trace) (tape txt tape' txt' : List ℕ) (k m : ℕ) : Type 0 where
  events : List TapeEvent
  is : t ≡ done events
  count : k ≡ length (tape_bytes 0 events) / 24
  size : m ≡ length (text_bytes events)
  room : length (text_bytes events) ≤ length txt
  tape-is : tape' ≡ tape_bytes 0 events ++ drop (length (tape_bytes 0 events)) tape
  text-is : txt' ≡ text_bytes events ++ drop (length (text_bytes events)) txt

fits-size : (xs : List ℕ) (room : ℕ) → fits_in xs 0 room ≡ true → length xs ≤ room
unfolding fits_in
fits-size [] room h = omega arith
fits-size (x ∷ xs) room h = let l = leb-true (0 + length (x ∷ xs)) room h in omega (arith, l)

fits-text : (es : List TapeEvent) (tape_room text_room : ℕ) → fits es 0 0 tape_room text_room ≡ true → length (text_bytes es) ≤ text_room
unfolding fits
fits-text es tape_room text_room h = fits-size (text_bytes es) text_room (and_parts (fits_in (tape_bytes 0 es) 0 tape_room) _ h).1

-- whole records
module _ (book buffer : List ℕ) (es : List TapeEvent) (v : Value book buffer 64 0 es) where
  whole-records : 24 * (length (tape_bytes 0 es) / 24) ≡ length (tape_bytes 0 es)
  whole-records = let b = ap length v.bytes in let e = bytes-length (records v.tree) in omega (arith, b, e)

  value-formed : (tape : List ℕ) → tape ≡ tape_bytes 0 es → formed book tape buffer ≡ true
  value-formed tape q = complete book tape buffer (record { tree = v.tree; levels = v.levels; fine = v.fine; bytes = q ∙ v.bytes })

-- the first part of a text buffer that has the bytes that were written
module _ (xs txt : List ℕ) (room : ℕ) (l : length xs ≤ room) where
  part-is : take room (xs ++ drop (length xs) txt) ≡ xs ++ take (room - length xs) (drop (length xs) txt)
  part-is = let o : length xs + (room - length xs) ≡ room = omega arith in rw o at (take-append-add xs (drop (length xs) txt) (room - length xs))

  part_length : length xs + length (take (room - length xs) (drop (length xs) txt)) ≡ length (take room (xs ++ drop (length xs) txt))
  part_length = sym (ap length part-is ∙ length-append xs _)

  part_stands : Stands (take room (xs ++ drop (length xs) txt)) 0 xs
  part_stands = record { rest = take (room - length xs) (drop (length xs) txt); is = part-is; inside = omega (arith, part_length) }

  part_small : length xs ≤ length txt → length txt < 2 ^ 64 → length (take room (xs ++ drop (length xs) txt)) < 2 ^ 64
  part_small f h =
      let y : length (take (room - length xs) (drop (length xs) txt)) ≤ length txt - length xs = simp (length-take, length-drop) (omega arith) in
      omega (arith, part_length, y, f, h)

module _ (tape txt tape' txt' : List ℕ) (k m : ℕ) where
  told-by : (t : Trace) (b : Bool) → fits (events_of t) 0 0 (length tape) (length txt) ≡ b → reading.Done k m ≡ read_answer_of (cond b (end_of t 0 0) (Stop 15 0))
      → tape' ≡ buffer_after (cond b (end_of t 0 0) (Stop 15 0)) (tape_bytes 0 (events_of t)) tape
      → txt' ≡ buffer_after (cond b (end_of t 0 0) (Stop 15 0)) (text_bytes (events_of t)) txt → Told t tape txt tape' txt' k m
  unfolding end_of events_of
  told-by (done es) true f a p q =
      record {
        events = es;
        is = refl;
        count = let z : k ≡ (0 + length (tape_bytes 0 es)) / 24 = cc in omega (arith, z);
        size = let z : m ≡ 0 + length (text_bytes es) = cc in omega (arith, z);
        room = fits-text es (length tape) (length txt) f;
        tape-is = p ∙ splice-start tape (tape_bytes 0 es);
        text-is = q ∙ splice-start txt (text_bytes es);
      }
  told-by (stop es n b) true f a p q = not_done (eqb n 7) n b a
    where
      not_done : (x : Bool) (n b : ℕ) → reading.Done k m ≡ cond x (reading.NotFound b) (reading.Refused n) → Told (stop es n b) tape txt tape' txt' k m
      not_done true n b e = different cc
      not_done false n b e = different cc
  told-by t false f a p q = different cc

  told : (t : Trace) (r : ReadAnswer) → ReadIs t tape txt r tape' txt' → r ≡ reading.Done k m → Told t tape txt tape' txt' k m
  unfolding step_of
  told t r h e = told-by t (fits (events_of t) 0 0 (length tape) (length txt)) refl (sym e ∙ read_is _ _ h.answer) h.tape-is h.text-is

  -- the events of an accepted read, as they stand in the two buffers
  pub record Standing (t : Trace) (room : ℕ) : Type 0 where
    pub events : List TapeEvent
    pub is : t ≡ done events
    pub records : take (24 * k) tape' ≡ tape_bytes 0 events
    pub texts : Stands (take room txt') 0 (text_bytes events)
    pub small : length (take room txt') < 2 ^ 64

  standing : (book : List ℕ) (t : Trace) → Reads book t → Told t tape txt tape' txt' k m → length txt < 2 ^ 64 → (room : ℕ) → m ≤ room → Standing t room
  standing book t h d small room l =
      let es = d.events in
      let xs : List ℕ = text_bytes es in
      let fit : length xs ≤ room = let z = d.size in omega (arith, z, l) in
      let buffer : List ℕ = take room (xs ++ drop (length xs) txt) in
      let g : Emits book buffer (Value book buffer 64) (done es) = rw d.is at (h.forms buffer (part_small xs txt room fit d.room small)) in
      let v : Value book buffer 64 0 es = g.emits 0 (part_stands xs txt room fit) in
      let c : 24 * k ≡ length (tape_bytes 0 es) = ap (λ (n : ℕ). 24 * n) d.count ∙ whole-records book buffer es v in
      record {
        events = es;
        is = d.is;
        records = rw (c, d.tape-is) (take-append_seam (tape_bytes 0 es) (drop (length (tape_bytes 0 es)) tape));
        texts = rw d.text-is (part_stands xs txt room fit);
        small = rw d.text-is (part_small xs txt room fit d.room small);
      }

  -- a tape that was read is well formed
  stands_formed : (book : List ℕ) (t : Trace) → Reads book t → (room : ℕ) → Standing t room → formed book (take (24 * k) tape') (take room txt') ≡ true
  stands_formed book t h room s =
      let g : Emits book (take room txt') (Value book (take room txt') 64) (done s.events) = rw s.is at (h.forms (take room txt') s.small) in
      value-formed book (take room txt') s.events (g.emits 0 s.texts) (take (24 * k) tape') s.records

pub read_stands : (buffer : List ℕ) (len width n : ℕ) (mem tape txt : List ℕ) (r : ReadAnswer) (tape' txt' : List ℕ) (k m room : ℕ)
    → Bytes buffer → Bytes mem → length txt < 2 ^ 64
    → ReadIs (read_trace buffer len width n mem) tape txt r tape' txt' → r ≡ reading.Done k m → m ≤ room
    → Standing tape txt tape' txt' k m (read_trace buffer len width n mem) room
read_stands buffer len width n mem tape txt r tape' txt' k m room p b small h e l =
    standing tape txt tape' txt' k m (take len buffer) _ (by-check buffer len width n mem p b)
    (told tape txt tape' txt' k m _ r h e) small room l

pub read_is-formed : ReadIsFormed
read_is-formed buffer len width n mem tape txt r tape' txt' k m room p b small h e l =
    stands_formed tape txt tape' txt' k m (take len buffer) _ (by-check buffer len width n mem p b) room
    (read_stands buffer len width n mem tape txt r tape' txt' k m room p b small h e l)
