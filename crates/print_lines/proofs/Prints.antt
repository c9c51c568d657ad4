-- The lines of a walk, at each exit of the functions that put them. Assumes nothing.
use Rattle.std.specs.Prelude.{Option, Some, None}
use mathlib.Core.Path.{◌≡◌, sym, ap, ◌∙◌}
use mathlib.Core.Bool.{Bool, true, false, cond}
use mathlib.Core.List.{List, [], ◌∷◌, ◌++◌}
use Prim.Native.Nat.{ℕ, suc, ◌+◌, ◌-◌, ◌≤◌, ◌<◌}
use native.Mathlib.Omega.{arith}
use lib.ListN.{length, drop}
use lib.Dec.{leb}
use Rattle.type_book.specs.Book.{name_of}
use Rattle.tape.specs.declared.record.Record.{Record}
use Rattle.tape.specs.declared.cursor.Cursor.{Cursor}
use Rattle.tape.specs.Record.{record_of, step_at}
use Rattle.print_figures.specs.Puts.{Puts, ClearedEnd, Printed}
use Rattle.print_figures.proofs.Joins.{chain, chain_3, Rest, rest_all, rest-next, rest_end, printed}
use Rattle.print_record_line.specs.Line.{counted_line, line_of}
use Rattle.print_lines.specs.Lines.{before, records_at, lines_of, head_line, walk_lines, refused_line}

-- ---- the head

pub head_put : {out out₁ out₂ out₃ : List ℕ} {p q r s : Option ℕ} (book : List ℕ) (n memory : ℕ) (name : List ℕ) → name ≡ name_of book n → Puts (0x77 ∷ 0x61 ∷ 0x6c ∷ 0x6b ∷ 0x20 ∷ []) out p q out₁ → Puts name out₁ q r out₂ → Puts (counted_line (0x20 ∷ []) memory) out₂ r s out₃ → Puts (head_line book n memory) out p s out₃
unfolding head_line
head_put book n memory name e a b c = rw (← e) (chain_3 a b c)

-- ---- the lines of the tape

-- a step to a record goes 24 bytes on
step-next : (tape : List ℕ) (at : ℕ) (r : Record) (next : Cursor) → Some (r, next) ≡ step_at tape at → next.at ≡ at + 24
unfolding step_at
step-next tape at r next e = by (leb (at + 24) (length tape)) e
  where
    by : (b : Bool) → ◌≡◌ {A = Option (Record × Cursor)} (Some (r, next)) (cond b (Some (record_of (drop at tape), record { at = at + 24 })) None) → next.at ≡ at + 24
    by true q =
        let both : ◌≡◌ {A = Record × Cursor} (r, next) (record_of (drop at tape), record { at = at + 24 }) = cc in
        ap (λ (p : Record × Cursor). p.1.at) both
    by false q = absurd (let z : ◌≡◌ {A = ℕ} 0 1 = cc in omega arith)

module _ (book text tape : List ℕ) (at n : ℕ) where
  lines_suc : (r : Record) (next : Cursor) → Some (r, next) ≡ step_at tape at
      → lines_of book text (records_at tape (suc n) at) ≡ line_of book text r ++ lines_of book text (records_at tape n next.at)
  unfolding lines_of records_at before
  lines_suc r next e = rw (← e, step-next tape at r next e)

  lines_none : None ≡ step_at tape at → lines_of book text (records_at tape (suc n) at) ≡ []
  unfolding lines_of records_at before
  lines_none e = rw (← e)

module _ (book text tape : List ℕ) (all out₀ : List ℕ) (p₀ : Option ℕ) (at records done : ℕ) (out : List ℕ) (p : Option ℕ) (s : Option (Record × Cursor)) (e : s ≡ step_at tape at)
    (inv : Rest all out₀ p₀ (lines_of book text (records_at tape (records - done) at)) out p) (h : done < records) where
  as_suc : records - done ≡ suc (records - (done + 1))
  as_suc = omega arith

  pub lines_again : {out' : List ℕ} {q : Option ℕ} (r : Record) (next : Cursor) → s ≡ Some (r, next) → Puts (line_of book text r) out p q out'
      → Rest all out₀ p₀ (lines_of book text (records_at tape (records - (done + 1)) next.at)) out' q
  lines_again r next t a = rest-next inv (ap (λ (k : ℕ). lines_of book text (records_at tape k at)) as_suc ∙ lines_suc book text tape at (records - (done + 1)) r next (sym t ∙ e)) a

  pub lines_over : s ≡ None → Puts all out₀ p₀ p out
  lines_over t = rest_end inv (ap (λ (k : ℕ). lines_of book text (records_at tape k at)) as_suc ∙ lines_none book text tape at (records - (done + 1)) (sym t ∙ e))

-- at the first record all lines are left
pub lines_start : (book text tape out : List ℕ) (p : Option ℕ) (records at : ℕ) → at ≡ 0 → Rest (lines_of book text (records_at tape records 0)) out p (lines_of book text (records_at tape (records - 0) at)) out p
lines_start book text tape out p records at e = let z : records - 0 ≡ records = omega arith in rest_all (rw (e, z))

pub lines_done : (book text tape all out₀ : List ℕ) (p₀ : Option ℕ) (at records done : ℕ) (out : List ℕ) (p : Option ℕ) → Rest all out₀ p₀ (lines_of book text (records_at tape (records - done) at)) out p → records ≤ done → Puts all out₀ p₀ p out
unfolding lines_of records_at
lines_done book text tape all out₀ p₀ at records done out p inv h = let e : records - done ≡ 0 = omega arith in rest_end inv (rw e)

-- ---- the calls

pub walk-printed : (book : List ℕ) (n memory : ℕ) (tape : List ℕ) (records : ℕ) (text : List ℕ) {out out₁ out₂ out₃ : List ℕ} {p q r : Option ℕ}
    → Puts (head_line book n memory) out (Some 0) p out₁ → Puts (lines_of book text (records_at tape records 0)) out₁ p q out₂ → length out₁ ≡ length out → length out₂ ≡ length out₁ → ClearedEnd q out₂ r out₃
    → Printed (walk_lines book n memory tape records text) out r out₃
unfolding walk_lines
walk-printed book n memory tape records text a b k l c = printed _ (chain a b) (l ∙ k) c

pub refused-printed : (n : ℕ) {out out₁ out₂ : List ℕ} {q r : Option ℕ} → Puts (counted_line (0x72 ∷ 0x65 ∷ 0x66 ∷ 0x75 ∷ 0x73 ∷ 0x65 ∷ 0x64 ∷ 0x20 ∷ []) n) out (Some 0) q out₁ → length out₁ ≡ length out → ClearedEnd q out₁ r out₂
    → Printed (refused_line n) out r out₂
unfolding refused_line
refused-printed n a l b = printed _ a l b
