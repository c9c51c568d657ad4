-- The round trip. Assumes nothing.
use mathlib.Core.Path.{◌≡◌, refl, sym, ◌∙◌}
use mathlib.Core.Bool.{true}
use mathlib.Core.List.{List, [], append-nil}
use Prim.Native.Nat.{ℕ, ◌*◌, ◌^◌, ◌<◌}
use borrow.Author.Tests.{eq-eqb}
use lib.ListN.{length, take}
use Rattle.enc_number.specs.Le.{Bytes}
use Rattle.type_book.specs.Book.{is_type}
use Rattle.type_book_check.specs.Check.{ValidBook, check_root}
use Rattle.type_book_check.proofs.Valid.{root-valid}
use Rattle.type_book_check.proofs.Roots.{at-refused, at_block, at_each}
use Rattle.resolvers.specs.Resolve.{resolve_alias, resolved_numbers}
use Rattle.resolvers.specs.declared.Resolved.{Resolved}
use Rattle.resolvers.specs.declared.Resolved.TheVariants as resolved
use Rattle.tape.specs.declared.cursor.Cursor.{Cursor}
use Rattle.tape_form.specs.Form.{formed}
use Rattle.de_output.specs.Trace.{TapeEvent, done, refuse, text_bytes, tape_bytes}
use Rattle.tape_array_elements.specs.Element.{whole}
use Rattle.de.specs.Walk as de
use Rattle.de.specs.Read as reading
use Rattle.ser.specs.declared.WriteAnswer.{WriteAnswer}
use Rattle.ser.proofs.Numbers.{write_is}
use Rattle.ser.specs.Write as ser
use Rattle.ser.specs.Write.{Outcome, went}
use Rattle.ser.specs.Call.{type_write, root_write_by, root_write, book_write, write_call, WriteIs}
use Rattle.ser_laws.specs.Trip as trip
use Rattle.ser_laws.specs.Laws.{GivenBack, RoundTrip}
use Rattle.ser_laws.proofs.Plain.{different}
use Rattle.ser_laws.proofs.ReadTree.{Stands, Emits, bytes_take, base-typed}
use Rattle.ser_laws.proofs.ReadForm.{read_stands, read_is-formed}
use Rattle.ser_laws.proofs.TripWalk.{Back, walk-back}

-- an accepted outcome with these bytes
record Same (o : Outcome) (mem : List ℕ) : Type 0 where
  at : Cursor
  is : o ≡ went at mem

module _ (book buffer tape : List ℕ) (small : length buffer < 2 ^ 64) (width : ℕ) (mem : List ℕ) (b : Bytes mem) (es : List TapeEvent)
    (records : tape ≡ tape_bytes 0 es) (texts : Stands buffer 0 (text_bytes es)) where
  by-type : ValidBook book → Bytes book → (n t : ℕ) → is_type book n ≡ true → is_type book t ≡ true → trip.walk_kept (de.ctx book width) 64 (whole t) mem ≡ true
      → de.read_walk (de.ctx book width) 64 (whole (de.typed_of (de.ctx book width) n t)) mem ≡ done es → Same (type_write (ser.write_ctx book width tape buffer) t mem) mem
  unfolding type_write
  by-type v p n t x y h e =
      let g : Emits book buffer (Back book buffer tape (ser.write_walk (ser.write_ctx book width tape buffer) 64 (whole t)) mem) (done es) =
      rw e at (walk-back book buffer tape small v p width 64 (whole (de.typed_of (de.ctx book width) n t)) mem (record { resolved = y; named = x }) b h) in
      record { at = _; is = (g.emits 0 texts).back 0 [] (records ∙ sym (append-nil (tape_bytes 0 es))) }

  by-root : ValidBook book → Bytes book → (n : ℕ) → is_type book n ≡ true → (r : Resolved) → ((u : ℕ) → r ≡ resolved.Base u → is_type book u ≡ true) → trip.root_kept (de.ctx book width) mem r ≡ true
      → reading.root_by (de.ctx book width) n mem r ≡ done es → Same (root_write_by (ser.write_ctx book width tape buffer) mem r) mem
  unfolding reading.root_by root_write_by trip.root_kept resolved_numbers
  by-root v p n x (resolved.Base t) y h e = by-type v p n t x (y t refl) h e
  by-root v p n x (resolved.NotFound k) y h e = different cc
  by-root v p n x resolved.TooLong y h e = different cc

  book-same : ValidBook book → Bytes book → (n : ℕ) → is_type book n ≡ true → trip.is_kept (de.ctx book width) n mem ≡ true → reading.root_trace (de.ctx book width) n mem ≡ done es
      → formed book tape buffer ≡ true → Same (book_write (ser.write_ctx book width tape buffer) n (length mem) mem) mem
  unfolding book_write root_write reading.root_trace trip.is_kept
  book-same v p n y h e f =
      let s = by-root v p n y (resolve_alias book width n) (base-typed book width n y) h e in
      record { at = s.at; is = rw (eq-eqb (length mem) (length mem) refl, f) s.is }

call_same : (buffer : List ℕ) (len width n : ℕ) (mem tape text : List ℕ) → Bytes buffer → Bytes mem → length text < 2 ^ 64 → (es : List TapeEvent) → tape ≡ tape_bytes 0 es → Stands text 0 (text_bytes es)
    → trip.is_kept (de.ctx (take len buffer) width) n mem ≡ true → formed (take len buffer) tape text ≡ true
    → reading.read_trace buffer len width n mem ≡ done es → Same (write_call buffer len width n mem (length mem) tape text) mem
unfolding write_call reading.read_trace
call_same buffer len width n mem tape text p b small es records texts h f q =
    at_each (λ o. Same o mem) _ _ (check_root buffer len n)
    (λ k e. let y : refuse k 0 ≡ done es = at-refused (λ i. refuse i 0) _ _ refl k e ∙ q in different cc)
    (λ m e.
    let v = root-valid buffer len n m e in
    let z : m ≡ n = v.is in
    let y : reading.root_trace (de.ctx (take len buffer) width) m mem ≡ done es = at_block _ (λ t. reading.root_trace (de.ctx (take len buffer) width) t mem) _ refl m e ∙ q in
    book-same (take len buffer) text tape small width mem b es records texts v.valid (bytes_take len buffer p) m v.kind (rw z h) y f)

-- an accepted call's answer and output
given : (o : Outcome) (mem output : List ℕ) (w : WriteAnswer) (new : List ℕ) → Same o mem → length output ≡ length mem → WriteIs o mem output w new → GivenBack w mem new
given o mem output w new s l x =
    record {
      done = write_is _ _ x.answer ∙ rw s.is;
      same = x.output_is ∙ rw (s.is, eq-eqb (length output) (length mem) l);
    }

pub round_trip : RoundTrip
round_trip buffer len width n mem tape txt r tape' txt' k m room output w new p b small h e l kept same x =
    let s = read_stands buffer len width n mem tape txt r tape' txt' k m room p b small h e l in
    let f = read_is-formed buffer len width n mem tape txt r tape' txt' k m room p b small h e l in
    given _ mem output w new
    (rw same
    (call_same buffer len width n mem (take (24 * k) tape') (take room txt') p b s.small s.events s.records s.texts kept f s.is))
    same x
