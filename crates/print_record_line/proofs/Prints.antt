-- The line of a record, at each exit of the functions that put it. Assumes nothing.
use Rattle.std.specs.Prelude.{Option}
use mathlib.Core.Path.{◌≡◌, refl}
use mathlib.Core.List.{List, [], ◌∷◌}
use Prim.Native.Nat.{ℕ, ◌*◌}
use native.Mathlib.Omega.{arith}
use lib.ListN.{length}
use borrow.Author.Tests.{eq-eqb, ne_eqb}
use Rattle.enc_windows_1252.specs.Text.{decimal}
use Rattle.tape.specs.declared.record.Record.{Record}
use Rattle.tape.specs.Text.{record_text}
use Rattle.print_figures.specs.Puts.{Puts}
use Rattle.print_figures.specs.Figures.{signed, hex, hex_text}
use Rattle.print_figures.proofs.Joins.{chain, chain_3, puts_none}
use Rattle.print_record_line.specs.Line.{counted_line, named_line, sized_start, int_line, nat_line, real_line, text_word, text_line, number_line, end_line, line_of}

-- ---- the forms

module _ {out out₁ out₂ out₃ : List ℕ} {p q r s : Option ℕ} where
  pub counted_put : (word : List ℕ) (n : ℕ) → Puts word out p q out₁ → Puts (decimal n) out₁ q r out₂ → Puts (0x0a ∷ []) out₂ r s out₃ → Puts (counted_line word n) out p s out₃
  unfolding counted_line
  counted_put word n a b c = chain_3 a b c

  pub named_put : (word name : List ℕ) → Puts word out p q out₁ → Puts name out₁ q r out₂ → Puts (0x0a ∷ []) out₂ r s out₃ → Puts (named_line word name) out p s out₃
  unfolding named_line
  named_put word name a b c = chain_3 a b c

  pub sized_put : (word : List ℕ) (width : ℕ) → Puts word out p q out₁ → Puts (decimal (width * 8)) out₁ q r out₂ → Puts (0x20 ∷ []) out₂ r s out₃ → Puts (sized_start word width) out p s out₃
  unfolding sized_start
  sized_put word width a b c = chain_3 a b c

  pub int_put : (width n : ℕ) → Puts (sized_start (0x69 ∷ 0x6e ∷ 0x74 ∷ 0x20 ∷ []) width) out p q out₁ → Puts (signed n) out₁ q r out₂ → Puts (0x0a ∷ []) out₂ r s out₃ → Puts (int_line width n) out p s out₃
  unfolding int_line
  int_put width n a b c = chain_3 a b c

  pub nat_put : (width n : ℕ) → Puts (sized_start (0x6e ∷ 0x61 ∷ 0x74 ∷ 0x20 ∷ []) width) out p q out₁ → Puts (decimal n) out₁ q r out₂ → Puts (0x0a ∷ []) out₂ r s out₃ → Puts (nat_line width n) out p s out₃
  unfolding nat_line
  nat_put width n a b c = chain_3 a b c

  pub real_put : (word : List ℕ) (k n : ℕ) → Puts word out p q out₁ → Puts (hex k n) out₁ q r out₂ → Puts (0x0a ∷ []) out₂ r s out₃ → Puts (real_line word k n) out p s out₃
  unfolding real_line
  real_put word k n a b c = chain_3 a b c

  pub text_put : (w : ℕ) (text : List ℕ) {out₄ : List ℕ} {t : Option ℕ} → (length text ≡ 0 → ⊥) → Puts (text_word w) out p q out₁ → Puts (0x20 ∷ []) out₁ q r out₂ → Puts (hex_text text) out₂ r s out₃ → Puts (0x0a ∷ []) out₃ s t out₄ → Puts (text_line w text) out p t out₄
  unfolding text_line
  text_put w [] h a b c d = absurd (h refl)
  text_put w (x ∷ xs) h a b c d = chain_3 (chain a b) c d

pub text-alone : (w : ℕ) (text : List ℕ) {out out₁ out₂ : List ℕ} {p q r : Option ℕ} → length text ≡ 0 → Puts (text_word w) out p q out₁ → Puts (0x0a ∷ []) out₁ q r out₂ → Puts (text_line w text) out p r out₂
unfolding text_line
text-alone w [] e a b = chain a b
text-alone w (x ∷ xs) e a b = absurd (omega arith)

-- ---- the word before a text

module _ (w : ℕ) {out out' : List ℕ} {p q : Option ℕ} where
  pub word_clipped : w ≡ 0 → Puts (0x63 ∷ 0x6c ∷ 0x69 ∷ 0x70 ∷ 0x70 ∷ 0x65 ∷ 0x64 ∷ []) out p q out' → Puts (text_word w) out p q out'
  unfolding text_word
  word_clipped e a = rw (eq-eqb w 0 e) a

  pub word-text : (w ≡ 0 → ⊥) → Puts (0x74 ∷ 0x65 ∷ 0x78 ∷ 0x74 ∷ []) out p q out' → Puts (text_word w) out p q out'
  unfolding text_word
  word-text n a = rw (ne_eqb w 0 n) a

-- ---- the line of a record, kind by kind

module _ (r : Record) {out out' : List ℕ} {p q : Option ℕ} where
  pub bool_line : r.kind ≡ 6 → Puts (counted_line (0x62 ∷ 0x6f ∷ 0x6f ∷ 0x6c ∷ 0x20 ∷ []) r.b) out p q out' → Puts (number_line r) out p q out'
  unfolding number_line
  bool_line e a = rw e a

  pub signed_line : r.kind ≡ 7 → Puts (int_line r.width r.b) out p q out' → Puts (number_line r) out p q out'
  unfolding number_line
  signed_line e a = rw e a

  pub unsigned_line : r.kind ≡ 8 → Puts (nat_line r.width r.b) out p q out' → Puts (number_line r) out p q out'
  unfolding number_line
  unsigned_line e a = rw e a

  pub single_line : r.kind ≡ 9 → Puts (real_line (0x72 ∷ 0x65 ∷ 0x61 ∷ 0x6c ∷ 0x20 ∷ 0x34 ∷ 0x20 ∷ []) 8 r.b) out p q out' → Puts (number_line r) out p q out'
  unfolding number_line
  single_line e a = rw e a

  pub double_line : r.kind ≡ 10 → Puts (real_line (0x72 ∷ 0x65 ∷ 0x61 ∷ 0x6c ∷ 0x20 ∷ 0x38 ∷ 0x20 ∷ []) 16 r.b) out p q out' → Puts (number_line r) out p q out'
  unfolding number_line
  double_line e a = rw e a

pub no_line : (r : Record) {out : List ℕ} {p : Option ℕ} → (r.kind ≡ 6 → ⊥) → (r.kind ≡ 7 → ⊥) → (r.kind ≡ 8 → ⊥) → (r.kind ≡ 9 → ⊥) → (r.kind ≡ 10 → ⊥) → Puts (number_line r) out p p out
unfolding number_line
no_line r a b c d e = rw (ne_eqb r.kind 6 a, ne_eqb r.kind 7 b, ne_eqb r.kind 8 c, ne_eqb r.kind 9 d, ne_eqb r.kind 10 e) puts_none

module _ (book text : List ℕ) (r : Record) {out out' : List ℕ} {p q : Option ℕ} where
  pub array_line : r.kind ≡ 1 → Puts (counted_line (0x61 ∷ 0x72 ∷ 0x72 ∷ 0x61 ∷ 0x79 ∷ 0x20 ∷ []) r.a) out p q out' → Puts (line_of book text r) out p q out'
  unfolding line_of
  array_line e a = rw e a

  pub array-end_line : r.kind ≡ 2 → Puts end_line out p q out' → Puts (line_of book text r) out p q out'
  unfolding line_of
  array-end_line e a = rw e a

  pub map_line : r.kind ≡ 3 → Puts (counted_line (0x6d ∷ 0x61 ∷ 0x70 ∷ 0x20 ∷ []) r.a) out p q out' → Puts (line_of book text r) out p q out'
  unfolding line_of
  map_line e a = rw e a

  pub key_line : r.kind ≡ 4 → (name : List ℕ) → name ≡ record_text book text r → Puts (named_line (0x6b ∷ 0x65 ∷ 0x79 ∷ 0x20 ∷ []) name) out p q out' → Puts (line_of book text r) out p q out'
  unfolding line_of
  key_line e name n a = rw (← n, e) a

  pub map-end_line : r.kind ≡ 5 → Puts end_line out p q out' → Puts (line_of book text r) out p q out'
  unfolding line_of
  map-end_line e a = rw e a

  pub record-text_line : r.kind ≡ 11 → (part : List ℕ) → part ≡ record_text book text r → Puts (text_line r.width part) out p q out' → Puts (line_of book text r) out p q out'
  unfolding line_of
  record-text_line e part n a = rw (← n, e) a

  pub enum_line : r.kind ≡ 12 → (name : List ℕ) → name ≡ record_text book text r → Puts (named_line (0x65 ∷ 0x6e ∷ 0x75 ∷ 0x6d ∷ 0x20 ∷ []) name) out p q out' → Puts (line_of book text r) out p q out'
  unfolding line_of
  enum_line e name n a = rw (← n, e) a

  pub unit_line : r.kind ≡ 13 → Puts (0x75 ∷ 0x6e ∷ 0x69 ∷ 0x74 ∷ 0x0a ∷ []) out p q out' → Puts (line_of book text r) out p q out'
  unfolding line_of
  unit_line e a = rw e a

  pub other_line : (r.kind ≡ 1 → ⊥) → (r.kind ≡ 2 → ⊥) → (r.kind ≡ 3 → ⊥) → (r.kind ≡ 4 → ⊥) → (r.kind ≡ 5 → ⊥) → (r.kind ≡ 11 → ⊥) → (r.kind ≡ 12 → ⊥) → (r.kind ≡ 13 → ⊥)
      → Puts (number_line r) out p q out' → Puts (line_of book text r) out p q out'
  unfolding line_of
  other_line a b c d e f g h x =
      rw (ne_eqb r.kind 1 a, ne_eqb r.kind 2 b, ne_eqb r.kind 3 c, ne_eqb r.kind 4 d, ne_eqb r.kind 5 e, ne_eqb r.kind 11 f, ne_eqb r.kind 12 g, ne_eqb r.kind 13 h) x
