-- Laws of the decoding of a text: the only place that opens `decode_text` and `length_by`. Assumes nothing.
use mathlib.Core.Path.{◌≡◌, refl, sym, ap, ◌∙◌}
use mathlib.Core.Bool.{Bool, true, false, cond}
use mathlib.Core.List.{List, [], ◌∷◌, ◌++◌, append_assoc, flat_map}
use Prim.Native.Nat.{ℕ, suc, ◌+◌, ◌*◌, ◌/◌, ◌%◌, ◌≤◌, ◌<◌}
use native.Mathlib.Omega.{arith}
use native.Mathlib.Numerals.{add-one}
use lib.ListN.{length, get_or, drop, length-append, drop_of_length-le}
use lib.Seq.{drop-cons}
use lib.Dec.{leb, ltb}
use Rattle.std.specs.List.{sum_by}
use Rattle.std.proofs.lemmas.List.Recursion.{is_sum_by}
use Rattle.std.proofs.lemmas.List.Sums.{sum_by-cons}
use mir.Syntax.{w8}
use mir.Val.{Fits}
use borrow.Author.Tests.{le-leb, leb-true, lt-ltb, le-ltb, ltb-true, ltb-false}
use Rattle.enc_utf_8.specs.Utf8.{utf8_of, encoded, decode_from, no_error, well_formed}
use Rattle.enc_utf_8.proofs.Encodes.{Bytes, utf8_one, utf8_two, utf8_short}
use Rattle.enc_utf_8.proofs.Trips.{formed_utf8}
use Rattle.enc_ascii.specs.Ascii.{is_ascii}
use Rattle.enc_ascii.proofs.Ascii.{ascii-first}
use Rattle.enc_windows_1252.specs.Index.{listed_points, code_point, table}
use Rattle.enc_windows_1252.specs.Text.{decode_byte, decode_text}
use Rattle.enc_windows_1252.proofs.Indexes.{own-low, own-high}
use Rattle.enc_windows_1252.proofs.Table.{same}
use Rattle.enc_windows_1252_decoder.specs.Lengths.{length_by, most_more}

-- ---- the bytes whose code points are their own numbers

pub ascii-byte : (b : ℕ) → b < 0x80 → decode_byte b ≡ b ∷ []
ascii-byte b h = rw (own-low b h, utf8_one b h)

pub high_byte : (b : ℕ) → 0xa0 ≤ b → b < 256 → decode_byte b ≡ (0xc0 + b / 64) ∷ (0x80 + b % 64) ∷ []
high_byte b h l = rw (own-high b h, utf8_two b (omega arith) (omega arith))

-- ---- a byte's code point takes 1 to 3 bytes

pub byte-short : (b : ℕ) → b < 256 → length (decode_byte b) ≤ 3
unfolding listed_points code_point utf8_of encoded
byte-short b h = leb-true (length (decode_byte b)) 3 (same (λ (k : ℕ). leb (length (decode_byte k)) 3) (λ k. true) 256 b true refl h)

-- the rule gives the length of the code point's UTF-8: one test over all 256 bytes, and the law of each
all-lengths : table (λ (k : ℕ). length_by (code_point k)) 0 256 ≡ table (λ (k : ℕ). length (decode_byte k)) 0 256
unfolding listed_points code_point utf8_of encoded length_by
all-lengths = refl

pub rule_is : (b : ℕ) → b < 256 → length_by (code_point b) ≡ length (decode_byte b)
rule_is b h = same (λ (k : ℕ). length_by (code_point k)) (λ (k : ℕ). length (decode_byte k)) 256 b 0 all-lengths h

-- ---- at_least, utf8_length_of: the code point tells the length

pub at_least_no : (n l : ℕ) → n < l → ◌≡◌ {A = ℕ} 0 (cond (ltb n l) 0 1)
at_least_no n l h = rw (lt-ltb n l h)

pub at_least_yes : (n l : ℕ) → l ≤ n → ◌≡◌ {A = ℕ} 1 (cond (ltb n l) 0 1)
at_least_yes n l h = rw (le-ltb n l h)

-- the rule counts the limits that the code point reaches
rule_counts : (c : ℕ) → 1 + cond (ltb c 0x80) 0 1 + cond (ltb c 0x800) 0 1 ≡ length_by c
unfolding length_by
rule_counts c = by (ltb c 0x80) (ltb c 0x800) refl refl
  where
    by : (t u : Bool) → ltb c 0x80 ≡ t → ltb c 0x800 ≡ u → 1 + cond t 0 1 + cond u 0 1 ≡ cond t 1 (cond u 2 3)
    by true true q r = refl
    by true false q r = absurd (omega (arith, ltb-true c 0x80 q, ltb-false c 0x800 r))
    by false true q r = refl
    by false false q r = refl

pub length-counts : (b c d m n : ℕ) → b < 256 → c ≡ code_point b → d ≡ code_point b → m ≡ cond (ltb c 0x80) 0 1 → n ≡ cond (ltb d 0x800) 0 1 → 1 + m + n ≡ length (decode_byte b)
length-counts b c d m n h e f p q = rw (p, q, e, f) (rule_counts (code_point b) ∙ rule_is b h)

-- ---- put_byte: a code point is not below its byte, and below 4000h

pub point_from : (b c : ℕ) → b < 256 → 0x80 ≤ b → c ≡ code_point b → 0x80 ≤ c
unfolding listed_points code_point
point_from b c h l e = omega (arith, leb-true b (code_point b) (same (λ (k : ℕ). leb k (code_point k)) (λ k. true) 256 b true refl h))

pub point_below : (b c : ℕ) → b < 256 → c ≡ code_point b → c < 0x4000
unfolding listed_points code_point
point_below b c h e = omega (arith, ltb-true (code_point b) 0x4000 (same (λ (k : ℕ). ltb (code_point k) 0x4000) (λ k. true) 256 b true refl h))

-- from 800h on a byte's code point is from 2000h to 3FFFh, so that its bits above tell whether it takes three bytes
pub point_third : (b c : ℕ) → b < 256 → c ≡ code_point b → c / 0x2000 ≡ cond (ltb c 0x800) 0 1
unfolding listed_points code_point
point_third b c h e = rw e (same (λ (k : ℕ). code_point k / 0x2000) (λ (k : ℕ). cond (ltb (code_point k) 0x800) 0 1) 256 b 0 refl h)

-- ---- most_more: ASCII takes one byte, 80h to 9Fh three at most, all others two

byte-most : (b : ℕ) → b < 256 → length (decode_byte b) ≤ 1 + most_more b
byte-most b h = by (ltb b 0x80) (ltb b 0xa0) refl refl
  where
    by : (t u : Bool) → ltb b 0x80 ≡ t → ltb b 0xa0 ≡ u → length (decode_byte b) ≤ 1 + cond t 0 (cond u 2 1)
    by true u q r = omega (arith, ap length (ascii-byte b (ltb-true b 0x80 q)))
    by false true q r = byte-short b h
    by false false q r = omega (arith, ap length (high_byte b (ltb-false b 0xa0 r) h))

more-two : (b : ℕ) → most_more b ≤ 2
more-two b = by (ltb b 0x80) (ltb b 0xa0)
  where
    by : (t u : Bool) → cond t 0 (cond u 2 1) ≤ 2
    by true u = omega arith
    by false true = omega arith
    by false false = omega arith

-- ---- the text of bytes in parts

decode_append : (xs ys : List ℕ) → decode_text (xs ++ ys) ≡ decode_text xs ++ decode_text ys
unfolding decode_text flat_map
decode_append [] ys = refl
decode_append (x ∷ xs) ys = rw (decode_append xs ys, append_assoc)

module _ (bytes : List ℕ) (i : ℕ) where
  pub decode-next : i < length bytes → decode_text (drop i bytes) ≡ decode_byte (get_or bytes i 0) ++ decode_text (drop (i + 1) bytes)
  unfolding decode_text flat_map
  decode-next h = rw (add-one, drop-cons bytes i 0 h)

  pub decode-end : length bytes ≤ i → decode_text (drop i bytes) ≡ []
  unfolding decode_text flat_map
  decode-end h = rw (drop_of_length-le bytes h)

pub decode-part : (block rest₁ : List ℕ) {rest : List ℕ} → rest ≡ block ++ rest₁ → decode_text rest ≡ decode_text block ++ decode_text rest₁
decode-part block rest₁ e = ap decode_text e ∙ decode_append block rest₁

pub decode-rest : (rest : List ℕ) → length rest ≡ 0 → decode_text rest ≡ []
decode-rest rest h = decode-end rest 0 (omega arith)

-- its length is the sum of its bytes' lengths
pub text-length : (bytes : List ℕ) → length (decode_text bytes) ≡ sum_by (λ b. length (decode_byte b)) bytes
unfolding decode_text flat_map
text-length = is_sum_by (λ bs. length (decode_text bs)) (λ b. length (decode_byte b)) refl (λ b bs. length-append (decode_byte b) (decode_text bs))

-- no byte gives more than three
text-three : (bytes : List ℕ) → ((i : ℕ) → get_or bytes i 0 < 256) → length (decode_text bytes) ≤ 3 * length bytes
unfolding decode_text flat_map
text-three [] h = omega arith
text-three (b ∷ bs) h = rw length-append (omega (arith, byte-short b (h 0), text-three bs (λ i. h (suc i))))

-- ---- block_more: at most so many more than the bytes

pub text-most : (bytes : List ℕ) → ((i : ℕ) → Fits w8 (get_or bytes i 0)) → length (decode_text bytes) ≤ length bytes + sum_by most_more bytes
unfolding decode_text flat_map
text-most [] h = omega arith
text-most (b ∷ bs) h = rw (length-append, sum_by-cons most_more) (omega (arith, byte-most b (h 0).fits, text-most bs (λ i. h (suc i))))

pub most-twice : (bytes : List ℕ) → sum_by most_more bytes ≤ 2 * length bytes
most-twice [] = omega arith
most-twice (b ∷ bs) = rw (sum_by-cons most_more) (omega (arith, more-two b, most-twice bs))

pub fits-short : (bytes : List ℕ) (room : ℕ) → ((i : ℕ) → Fits w8 (get_or bytes i 0)) → length bytes ≤ room / 3 → true ≡ leb (length (decode_text bytes)) room
fits-short bytes room f h = sym (le-leb _ room (omega (arith, text-three bytes (λ i. (f i).fits))))

pub decode-some : (bytes : List ℕ) → (length bytes ≡ 0 → ⊥) → 0 < length (decode_text bytes)
unfolding decode_text flat_map
decode-some [] n = absurd (n refl)
decode-some (b ∷ bs) n = rw length-append (omega (arith, (utf8_short (code_point b)).some))

-- ---- ASCII

pub ascii-text : (bytes : List ℕ) → is_ascii bytes ≡ true → decode_text bytes ≡ bytes
unfolding decode_text flat_map
ascii-text [] h = refl
ascii-text (b ∷ bs) h = let f = ascii-first b bs h in rw (ascii-byte b f.low, ascii-text bs f.rest)

pub ascii-length : (block : List ℕ) (t : Bool) → t ≡ is_ascii block → t ≡ true → length block ≡ length (decode_text block)
ascii-length block t e h = ap length (sym (ascii-text block (sym e ∙ h)))

-- ---- the decoded text

-- at most three bytes for each byte
pub decode-long : (bytes : List ℕ) → Bytes bytes → length (decode_text bytes) ≤ 3 * length bytes
decode-long bytes k = text-three bytes k.each

pub decode-formed : (bytes : List ℕ) → well_formed (decode_text bytes) ≡ true
unfolding decode_text flat_map decode_from no_error
decode-formed [] = refl
decode-formed (b ∷ bs) = formed_utf8 (code_point b) (decode_text bs) ∙ decode-formed bs
