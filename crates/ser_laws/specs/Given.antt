-- The laws of a call with a root, for a root however it is given, by its number or by its name (change request 5); those for a number are in Laws. Assumes
-- nothing.
use Rattle.std.specs.Prelude.{◌≡◌, Bool, true, List, [], ℕ, ◌*◌, ◌^◌, ◌≤◌, ◌<◌, length, take}
use Rattle.enc_number.specs.Le.{Bytes}
use Rattle.type_book_check.specs.Given.{Given, check_given, at_given}
use Rattle.tape_form.specs.Form.{formed}
use Rattle.de_output.specs.declared.ReadAnswer.{ReadAnswer}
use Rattle.de_output.specs.declared.ReadAnswer.TheVariants as reading
use Rattle.de_output.specs.Answer.{ReadIs}
use Rattle.de.specs.Walk.{ctx}
use Rattle.de.specs.Read.{given_trace}
use Rattle.ser.specs.declared.WriteAnswer.{WriteAnswer}
use Rattle.ser.specs.declared.WriteAnswer.TheVariants.{Done}
use Rattle.ser.specs.Write.{write_ctx}
use Rattle.ser.specs.Call.{given_write, WriteIs}
use Rattle.ser_laws.specs.Touched.{Range, OnlyIn, leaves_of}
use Rattle.ser_laws.specs.Trip.{is_kept}
use Rattle.ser_laws.specs.Alike.{Records, SameButEnd, SameButDeclared}
use Rattle.ser_laws.specs.Laws.{GivenBack}

-- the leaves that a tape names, for a root however it is given: those of the block that it stands for; where it stands for none, no write is accepted, and
-- none are named
unfoldable pub given_leaves : List ℕ → ℕ → ℕ → Given → ℕ → List ℕ → List ℕ → List Range
given_leaves buffer len width root size tape text =
    at_given (λ k. []) [] (λ n. leaves_of (write_ctx (take len buffer) width tape text) n size) (check_given buffer len root)

-- whether the bytes of a root come back, however it is given: of the block that it stands for; where it stands for none, no read is accepted, and nothing
-- is asked
unfoldable pub given_kept : List ℕ → ℕ → ℕ → Given → List ℕ → Bool
given_kept buffer len width root mem = at_given (λ k. true) true (λ n. is_kept (ctx (take len buffer) width) n mem) (check_given buffer len root)

-- "for an accepted write, a leaf being where such a record goes, every output byte outside the leaves that the tape names equals the image's";
-- the output is as long as the image, and the leaves lie inside it
abbrev pub GivenBytesOutside : Type 0
GivenBytesOutside =
    (buffer : List ℕ) (len width : ℕ) (root : Given) (image output tape text : List ℕ) (r : WriteAnswer) (new : List ℕ)
    → WriteIs (given_write buffer len width root image (length output) tape text) image output r new → r ≡ Done
    → OnlyIn (given_leaves buffer len width root (length image) tape text) image new

-- what an accepted read of any bytes leaves, k records on the tape and m bytes in the text buffer, is a well-formed tape of the book, with any
-- first part of the text buffer that has these m bytes
abbrev pub GivenReadIsFormed : Type 0
GivenReadIsFormed =
    (buffer : List ℕ) (len width : ℕ) (root : Given) (mem tape txt : List ℕ) (r : ReadAnswer) (tape' txt' : List ℕ) (k m room : ℕ)
    → Bytes buffer → Bytes mem → length txt < 2 ^ 64
    → ReadIs (given_trace buffer len width root mem) tape txt r tape' txt' → r ≡ reading.Done k m → m ≤ room
    → formed (take len buffer) (take (24 * k) tape') (take room txt') ≡ true

-- the round trip: the tape that an accepted read of some bytes left, written over these bytes, gives them back, where they are kept
abbrev pub GivenRoundTrip : Type 0
GivenRoundTrip =
    (buffer : List ℕ) (len width : ℕ) (root : Given) (mem tape txt : List ℕ) (r : ReadAnswer) (tape' txt' : List ℕ) (k m room : ℕ) (output : List ℕ)
    (w : WriteAnswer) (new : List ℕ)
    → Bytes buffer → Bytes mem → length txt < 2 ^ 64
    → ReadIs (given_trace buffer len width root mem) tape txt r tape' txt' → r ≡ reading.Done k m → m ≤ room
    → given_kept buffer len width root mem ≡ true → length output ≡ length mem
    → WriteIs (given_write buffer len width root mem (length output) (take (24 * k) tape') (take room txt')) mem output w new → GivenBack w mem new

-- "the writer takes both and writes alike": two tapes that differ only in byte 1 of texts come to the same, answer and output, also where they are
-- refused
abbrev pub GivenEndsIgnored : Type 0
GivenEndsIgnored =
    (buffer : List ℕ) (len width : ℕ) (root : Given) (image : List ℕ) (room : ℕ) (tape tape' text : List ℕ)
    → Records SameButEnd tape tape' → given_write buffer len width root image room tape text ≡ given_write buffer len width root image room tape' text

-- "two accepted tapes that differ only in these bytes write the same image": bytes 4 to 7 of records
abbrev pub GivenDeclaredIgnored : Type 0
GivenDeclaredIgnored =
    (buffer : List ℕ) (len width : ℕ) (root : Given) (image output tape tape' text : List ℕ) (r r' : WriteAnswer) (new new' : List ℕ)
    → Records SameButDeclared tape tape'
    → WriteIs (given_write buffer len width root image (length output) tape text) image output r new → r ≡ Done
    → WriteIs (given_write buffer len width root image (length output) tape' text) image output r' new' → r' ≡ Done
    → new ≡ new'

-- and what is refused of two such tapes that have their form is refused alike
abbrev pub GivenDeclaredAlike : Type 0
GivenDeclaredAlike =
    (buffer : List ℕ) (len width : ℕ) (root : Given) (image : List ℕ) (room : ℕ) (tape tape' text : List ℕ)
    → Records SameButDeclared tape tape' → formed (take len buffer) tape text ≡ true → formed (take len buffer) tape' text ≡ true
    → given_write buffer len width root image room tape text ≡ given_write buffer len width root image room tape' text
