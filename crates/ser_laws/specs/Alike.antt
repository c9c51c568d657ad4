-- Tapes that a write takes alike (document 02, change requests 2 and 8). Assumes nothing.
use Rattle.std.specs.Prelude.{◌≡◌, List, ℕ, ◌+◌, ◌%◌, ◌≤◌, length, drop}
use Rattle.tape.specs.declared.record.Record.{Record}
use Rattle.tape.specs.Record.{record_of}

-- two tapes are equally long, and each two records at one place are so related
pub record Records (related : Record → Record → Type 0) (tape tape' : List ℕ) : Type 0 where
  pub same_length : length tape ≡ length tape'
  pub each : (at : ℕ) → at % 24 ≡ 0 → at + 24 ≤ length tape → related (record_of (drop at tape)) (record_of (drop at tape'))

-- two records differ at most in byte 1, in that of texts alone, and there it is 0 or 1 in both
pub record SameButEnd (r s : Record) : Type 0 where
  pub kind : r.kind ≡ s.kind
  pub width : (r.kind ≡ 11 → ⊥) → r.width ≡ s.width
  pub ended : r.kind ≡ 11 → (r.width ≤ 1) × (s.width ≤ 1)
  pub spare : r.spare ≡ s.spare
  pub declared : r.declared ≡ s.declared
  pub a : r.a ≡ s.a
  pub b : r.b ≡ s.b

-- two records differ at most in bytes 4 to 7
pub record SameButDeclared (r s : Record) : Type 0 where
  pub kind : r.kind ≡ s.kind
  pub width : r.width ≡ s.width
  pub spare : r.spare ≡ s.spare
  pub a : r.a ≡ s.a
  pub b : r.b ≡ s.b
