-- The laws of the writer, as claims about the definitions of ser, tape_form and de. Assumes nothing.
use Rattle.std.specs.Prelude.{◌≡◌, true, false, ◌↔◌, List, ℕ, ◌*◌, ◌^◌, ◌≤◌, ◌<◌, length, take}
use Rattle.enc_number.specs.Le.{Bytes}
use Rattle.enc_number.specs.Refusals as refusal
use Rattle.tape_form.specs.Form.{formed}
use Rattle.de_output.specs.declared.ReadAnswer.{ReadAnswer}
use Rattle.de_output.specs.declared.ReadAnswer.TheVariants as reading
use Rattle.de_output.specs.Answer.{ReadIs}
use Rattle.de.specs.Walk as de
use Rattle.de.specs.Read.{read_trace}
use Rattle.ser.specs.declared.WriteAnswer.{WriteAnswer}
use Rattle.ser.specs.declared.WriteAnswer.TheVariants.{Done, Refused}
use Rattle.ser.specs.Write.{WriteCtx, write_ctx, Outcome, went, refused}
use Rattle.ser.specs.Call.{type_write, book_write, write_answer_of, write_call, WriteIs}
use Rattle.ser_laws.specs.Touched.{OnlyIn, leaves_of}
use Rattle.ser_laws.specs.Trip.{is_kept}
use Rattle.ser_laws.specs.Alike.{Records, SameButEnd, SameButDeclared}

-- "for an accepted write, a leaf being where such a record goes, every output byte outside the leaves that the tape names equals the image's";
-- the output is as long as the image, and the leaves lie inside it
abbrev pub BytesOutside : Type 0
BytesOutside =
    (buffer : List ℕ) (len width n : ℕ) (image output tape text : List ℕ) (r : WriteAnswer) (new : List ℕ)
    → WriteIs (write_call buffer len width n image (length output) tape text) image output r new → r ≡ Done
    → OnlyIn (leaves_of (write_ctx (take len buffer) width tape text) n (length image)) image new

-- a write that is accepted ends at place n of the tape, and one that is refused is not refused with 16
abbrev pub ends_by : ℕ → Outcome → Type 0
ends_by n (went at bytes) = at.at ≡ n
ends_by n (refused k b bytes) = k ≡ refusal.wrong_tape → ⊥

-- the same, as a record
pub record EndsAt (n : ℕ) (o : Outcome) : Type 0 where
  pub ends : ends_by n o

-- a well-formed tape never meets 16 in the walk of any type over any image, and an accepted walk ends at the tape's end
abbrev pub FormedEnds : Type 0
FormedEnds = (c : WriteCtx) (t : ℕ) (image : List ℕ) → formed c.book c.tape c.text ≡ true → EndsAt (length c.tape) (type_write c t image)

-- with an output as long as the image, a checked book's write is refused with 16 exactly where the tape is not well formed
abbrev pub SixteenIsForm : Type 0
SixteenIsForm =
    (c : WriteCtx) (n : ℕ) (image : List ℕ) → (write_answer_of (book_write c n (length image) image) ≡ Refused refusal.wrong_tape) ↔ (formed c.book c.tape c.text ≡ false)

-- what an accepted read of any bytes leaves, k records on the tape and m bytes in the text buffer, is a well-formed tape of the book, with any
-- first part of the text buffer that has these m bytes
abbrev pub ReadIsFormed : Type 0
ReadIsFormed =
    (buffer : List ℕ) (len width n : ℕ) (mem tape txt : List ℕ) (r : ReadAnswer) (tape' txt' : List ℕ) (k m room : ℕ)
    → Bytes buffer → Bytes mem → length txt < 2 ^ 64
    → ReadIs (read_trace buffer len width n mem) tape txt r tape' txt' → r ≡ reading.Done k m → m ≤ room
    → formed (take len buffer) (take (24 * k) tape') (take room txt') ≡ true

-- an accepted write that left the bytes as they were
pub record GivenBack (w : WriteAnswer) (mem new : List ℕ) : Type 0 where
  pub done : w ≡ Done
  pub same : new ≡ mem

-- the round trip: the tape that an accepted read of some bytes left, written over these bytes, gives them back, where they are kept
abbrev pub RoundTrip : Type 0
RoundTrip =
    (buffer : List ℕ) (len width n : ℕ) (mem tape txt : List ℕ) (r : ReadAnswer) (tape' txt' : List ℕ) (k m room : ℕ) (output : List ℕ) (w : WriteAnswer)
    (new : List ℕ)
    → Bytes buffer → Bytes mem → length txt < 2 ^ 64
    → ReadIs (read_trace buffer len width n mem) tape txt r tape' txt' → r ≡ reading.Done k m → m ≤ room
    → is_kept (de.ctx (take len buffer) width) n mem ≡ true → length output ≡ length mem
    → WriteIs (write_call buffer len width n mem (length output) (take (24 * k) tape') (take room txt')) mem output w new → GivenBack w mem new

-- "the writer takes both and writes alike": two tapes that differ only in byte 1 of texts come to the same, answer and output, also where they are
-- refused
abbrev pub EndsIgnored : Type 0
EndsIgnored =
    (buffer : List ℕ) (len width n : ℕ) (image : List ℕ) (room : ℕ) (tape tape' text : List ℕ)
    → Records SameButEnd tape tape' → write_call buffer len width n image room tape text ≡ write_call buffer len width n image room tape' text

-- "two accepted tapes that differ only in these bytes write the same image": bytes 4 to 7 of records
abbrev pub DeclaredIgnored : Type 0
DeclaredIgnored =
    (buffer : List ℕ) (len width n : ℕ) (image output tape tape' text : List ℕ) (r r' : WriteAnswer) (new new' : List ℕ)
    → Records SameButDeclared tape tape'
    → WriteIs (write_call buffer len width n image (length output) tape text) image output r new → r ≡ Done
    → WriteIs (write_call buffer len width n image (length output) tape' text) image output r' new' → r' ≡ Done
    → new ≡ new'

-- and what is refused of two such tapes that have their form is refused alike
abbrev pub DeclaredAlike : Type 0
DeclaredAlike =
    (buffer : List ℕ) (len width n : ℕ) (image : List ℕ) (room : ℕ) (tape tape' text : List ℕ)
    → Records SameButDeclared tape tape' → formed (take len buffer) tape text ≡ true → formed (take len buffer) tape' text ≡ true
    → write_call buffer len width n image room tape text ≡ write_call buffer len width n image room tape' text
