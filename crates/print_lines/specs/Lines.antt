-- The lines that a walk prints, as bytes (document 01, "Program `adswalk`"). Assumes nothing.
use Rattle.std.specs.Prelude.{List, [], ◌∷◌, ◌++◌, ℕ, zero, suc, ◌+◌, Option, Some, None}
use Rattle.type_book.specs.Book.{name_of}
use Rattle.tape.specs.declared.record.Record.{Record}
use Rattle.tape.specs.Record.{step_at}
use Rattle.print_record_line.specs.Line.{counted_line, line_of}
use Rattle.tape.specs.declared.cursor.Cursor.{Cursor}

-- a record before others, or the end
unfoldable pub before : Option (Record × Cursor) → List Record → List Record
before (Some (r, next)) rest = r ∷ rest
before None rest = []

-- the first n records of the tape from a place on, or as many as it has
unfoldable pub records_at : List ℕ → ℕ → ℕ → List Record
records_at tape zero at = []
records_at tape (suc n) at = before (step_at tape at) (records_at tape n (at + 24))

-- their lines, one after the other
unfoldable pub lines_of : List ℕ → List ℕ → List Record → List ℕ
lines_of book text [] = []
lines_of book text (r ∷ rs) = line_of book text r ++ lines_of book text rs

-- the head: `walk`, the name of block n, the memory's length
unfoldable pub head_line : List ℕ → ℕ → ℕ → List ℕ
head_line book n memory = (0x77 ∷ 0x61 ∷ 0x6c ∷ 0x6b ∷ 0x20 ∷ []) ++ name_of book n ++ counted_line (0x20 ∷ []) memory

-- all the lines of a read that is not refused
unfoldable pub walk_lines : List ℕ → ℕ → ℕ → List ℕ → ℕ → List ℕ → List ℕ
walk_lines book n memory tape records text = head_line book n memory ++ lines_of book text (records_at tape records 0)

-- the line of a refusal: `refused` and its number
unfoldable pub refused_line : ℕ → List ℕ
refused_line n = counted_line (0x72 ∷ 0x65 ∷ 0x66 ∷ 0x75 ∷ 0x73 ∷ 0x65 ∷ 0x64 ∷ 0x20 ∷ []) n
