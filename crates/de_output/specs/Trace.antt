-- A trace: what a read emits, up to its end or its first refusal. It knows of no buffer.
-- `Ran` says what a trace does to a tape and a text buffer, from some places on, in success and in refusal. Assumes nothing.
use Rattle.std.specs.Prelude.{◌≡◌, Bool, cond, ◌&&◌, List, [], ◌∷◌, ◌++◌, ℕ, ◌+◌, length}
use Rattle.enc_number.specs.Refusals as refusal
use Rattle.enc_utf_8.specs.Buffer.{splice, fits_in}
use Rattle.tape.specs.Record.{record_bytes}
use Rattle.tape.specs.declared.record.Record.{Record}
use Rattle.de_output.specs.declared.Step.{Step}
use Rattle.de_output.specs.declared.Step.TheVariants.{Next, Stop}

-- the record of a text: byte 1 and bytes 4 to 7 are its own, A is its start and B its length
abbrev pub text_record : ℕ → ℕ → ℕ → ℕ → Record
text_record width declared from len = record { kind = 11; width = width; spare = 0; declared = declared; a = from; b = len }

-- a record of the tape; or a text, with byte 1 and bytes 4 to 7 of the record that it has
pub data TapeEvent : Type 0 where
  rec : Record → TapeEvent
  text : ℕ → ℕ → List ℕ → TapeEvent

-- the bytes of the texts, one after the other
unfoldable pub text_bytes : List TapeEvent → List ℕ
text_bytes [] = []
text_bytes (rec r ∷ es) = text_bytes es
text_bytes (text w d xs ∷ es) = xs ++ text_bytes es

-- the bytes of the records, where the first text starts at `from`
unfoldable pub tape_bytes : ℕ → List TapeEvent → List ℕ
tape_bytes from [] = []
tape_bytes from (rec r ∷ es) = record_bytes r ++ tape_bytes from es
tape_bytes from (text w d xs ∷ es) = record_bytes (text_record w d from (length xs)) ++ tape_bytes (from + length xs) es

-- what is emitted up to the end; or up to a refusal, with document 01's number and the block that 7 carries (else 0)
pub data Trace : Type 0 where
  done : List TapeEvent → Trace
  stop : List TapeEvent → ℕ → ℕ → Trace

-- what a trace emits
unfoldable pub events_of : Trace → List TapeEvent
events_of (done es) = es
events_of (stop es n b) = es

-- where a trace ends that starts at `at` on the tape and at `from` in the text; or its refusal, a number and a block
unfoldable pub end_of : Trace → ℕ → ℕ → Step
end_of (done es) at from = Next (at + length (tape_bytes from es)) (from + length (text_bytes es))
end_of (stop es n b) at from = Stop n b

-- a trace of one event, without a refusal
abbrev pub one : TapeEvent → Trace
one e = done (e ∷ [])

-- a refusal before any event: its number, and the block that 7 carries (else 0)
abbrev pub refuse : ℕ → ℕ → Trace
refuse n b = stop [] n b

-- the first, and if it is not refused the second
infixr 5 ◌then◌
unfoldable pub ◌then◌ : Trace → Trace → Trace
done xs then done ys = done (xs ++ ys)
done xs then stop ys n b = stop (xs ++ ys) n b
stop xs n b then u = stop xs n b

-- the records and the texts fit
unfoldable pub fits : List TapeEvent → ℕ → ℕ → ℕ → ℕ → Bool
fits es at from tape_room text_room = fits_in (tape_bytes from es) at tape_room && fits_in (text_bytes es) from text_room

-- the answer of a trace at two buffers: 15 if what it emits does not fit, else where it ends
unfoldable pub step_of : Trace → ℕ → ℕ → ℕ → ℕ → Step
step_of t tape_room text_room at from = cond (fits (events_of t) at from tape_room text_room) (end_of t at from) (Stop refusal.no_room 0)

-- the events that are put on the tape and into the text: from the first on, up to one that does not fit
unfoldable pub fitting : List TapeEvent → ℕ → ℕ → ℕ → ℕ → List TapeEvent
fitting [] at from tape_room text_room = []
fitting (e ∷ es) at from tape_room text_room =
    cond (fits (e ∷ []) at from tape_room text_room)
    (e ∷ fitting es (at + length (tape_bytes from (e ∷ []))) (from + length (text_bytes (e ∷ []))) tape_room text_room)
    []

-- what a function that runs a trace promises: the answer, and both buffers, also where it is refused: the events up to one that does not fit
-- are there
pub record Ran (t : Trace) (tape txt : List ℕ) (at from : ℕ) (r : Step) (tape' txt' : List ℕ) : Type 0 where
  pub answer : r ≡ step_of t (length tape) (length txt) at from
  pub wrote : tape' ≡ splice tape at (tape_bytes from (fitting (events_of t) at from (length tape) (length txt)))
  pub told : txt' ≡ splice txt from (text_bytes (fitting (events_of t) at from (length tape) (length txt)))

-- a trace that runs after a step: a refusal is handed on, and leaves both buffers as they were
pub record From (t : Trace) (tape txt : List ℕ) (s r : Step) (tape' txt' : List ℕ) : Type 0 where
  pub on : (at from : ℕ) → s ≡ Next at from → Ran t tape txt at from r tape' txt'
  pub off : (n b : ℕ) → s ≡ Stop n b → r ≡ Stop n b
  pub off-tape : (n b : ℕ) → s ≡ Stop n b → tape' ≡ tape
  pub off-text : (n b : ℕ) → s ≡ Stop n b → txt' ≡ txt

-- a refusal after a step: an earlier one is handed on
abbrev pub stop_after : Step → ℕ → ℕ → Step
stop_after (Next at from) n b = Stop n b
stop_after (Stop k c) n b = Stop k c

-- the step after a refusal, and what it is in each case
pub record Halts (s : Step) (n b : ℕ) (r : Step) : Type 0 where
  pub is : r ≡ stop_after s n b
  pub on : (at from : ℕ) → s ≡ Next at from → r ≡ Stop n b
  pub off : (k c : ℕ) → s ≡ Stop k c → r ≡ Stop k c
