-- Laws of the encoding of a text, and the exits and the loops of the encoder's functions. They alone open `bytes_by` and `encode_text`. Assumes nothing.
use Rattle.std.specs.Prelude.{Option, Some, None}
use mathlib.Core.Path.{◌≡◌, refl, sym, ap, ◌∙◌}
use mathlib.Core.Bool.{true}
use mathlib.Core.List.{List, [], ◌∷◌, ◌++◌, flat_map}
use Prim.Native.Nat.{ℕ, ◌+◌, ◌-◌, ◌/◌, ◌%◌, ◌≤◌, ◌<◌}
use native.Mathlib.Omega.{arith}
use lib.ListN.{length, get_or, take, drop, set, length-set, length-append, take-append-drop}
use lib.Seq.{length-take-le}
use borrow.Author.Tests.{lt-leb}
use Rattle.enc_utf_8.specs.declared.Char.{Char}
use Rattle.enc_utf_8.specs.declared.Char.TheVariants.{Code, Error, End}
use Rattle.enc_utf_8.specs.Buffer.{Wrote, Laid, room_for}
use Rattle.enc_utf_8.specs.Utf8.{Item, scalar, error, replaced, next_at}
use Rattle.enc_utf_8.proofs.Decodes.{next-end, next_one}
use Rattle.enc_utf_8.proofs.Items.{Begins, next-code, next-error, next-none}
use Rattle.enc_ascii.specs.Ascii.{is_ascii}
use Rattle.enc_ascii.proofs.Ascii.{ascii-first}
use Rattle.enc_windows_1252.specs.Index.{byte_of}
use Rattle.enc_windows_1252.specs.Text.{decimal, reference, bytes_by, encode_code, encode_text}
use Rattle.enc_windows_1252_encoder.specs.Step.{TakenFrom, AsciiTo}
use Rattle.enc_windows_1252.proofs.Indexes.{byte_low}
use Rattle.enc_windows_1252.proofs.Decimals.{decimal_digit, decimal-more}
use Rattle.enc_utf_8.proofs.Lays.{laid_one, laid-two, laid-last, laid-long, laid_then, laid_as, last-room, Rest, rest-room, rest-next, rest_end, put_went, put_never, room_fits, room-over, count-part, count-over, count_fits, wrote-laid, wrote-over}

-- ---- scalar_at

taken_item : (i : Item) {text : List ℕ} {at e : ℕ} → Begins i text at e → TakenFrom text at (replaced i) e
unfolding encode_text flat_map
taken_item i b = record { later = b.past; within = b.within; is = rw b.decodes }

pub taken-ascii : (text : List ℕ) (at : ℕ) → at < length text → get_or text at 0 < 0x80 → TakenFrom text at (get_or text at 0) (at + 1)
taken-ascii text at l a = taken_item (scalar (get_or text at 0)) (next-code text at (Code (get_or text at 0) (at + 1)) (next_one text at l a) (get_or text at 0) (at + 1) refl)

module _ (text : List ℕ) (at : ℕ) (r : Char) (h : r ≡ next_at text at) where
  pub taken-code : (c e : ℕ) → r ≡ Code c e → TakenFrom text at c e
  taken-code c e q = taken_item (scalar c) (next-code text at r h c e q)

  pub taken-error : (e : ℕ) → r ≡ Error e → TakenFrom text at 0xfffd e
  taken-error e q = taken_item error (next-error text at r h e q)

  pub taken-never : (c e : ℕ) → at < length text → r ≡ End → TakenFrom text at c e
  taken-never c e l q = absurd (omega (arith, (next-none text at r h q).past))

encode_end : (text : List ℕ) (at : ℕ) → length text ≤ at → encode_text (drop at text) ≡ []
unfolding encode_text flat_map
encode_end text at h = rw (next-none text at End (next-end text at h) refl).decodes

-- ---- code_len, put_code

module _ (c : ℕ) (r : Option ℕ) (h : r ≡ byte_of c) where
  pub code-byte : (b : ℕ) → r ≡ Some b → encode_code c ≡ b ∷ []
  unfolding bytes_by
  code-byte b q = rw (← h, q)

  code-none : r ≡ None → encode_code c ≡ reference c
  unfolding bytes_by
  code-none q = rw (← h, q)

  pub code-len-byte : (b : ℕ) → r ≡ Some b → 1 ≡ length (encode_code c)
  code-len-byte b q = sym (ap length (code-byte b q))

  pub code-len-none : (n : ℕ) → r ≡ None → n ≡ length (decimal c) → n + 3 ≡ length (encode_code c)
  code-len-none n q e = omega (arith, ap length (code-none q), length-append (decimal c) (0x3b ∷ []))

  module _ (out : List ℕ) (at : ℕ) (room : at + length (encode_code c) ≤ length out) where
    pub code-byte-room : (b : ℕ) → r ≡ Some b → at < length out
    code-byte-room b q = omega (arith, ap length (code-byte b q))

    pub code-byte-laid : (b : ℕ) → r ≡ Some b → Laid (encode_code c) out at (at + 1) (set out at b)
    code-byte-laid b q = laid_as (code-byte b q) (laid_one out at b (code-byte-room b q))

    pub code-none-room : r ≡ None → at + length (reference c) ≤ length out
    code-none-room q = omega (arith, ap length (code-none q))

  pub code-none-laid : (out out₁ : List ℕ) (at n : ℕ) → r ≡ None → Laid (reference c) out at n out₁ → Laid (encode_code c) out at n out₁
  code-none-laid out out₁ at n q l = laid_as (code-none q) l

-- an ASCII code point is its own byte
module _ (c : ℕ) (l : c < 0x80) where
  pub ascii-code-len : 1 ≡ length (encode_code c)
  ascii-code-len = code-len-byte c (byte_of c) refl c (sym (byte_low c l))

  module _ (out : List ℕ) (at : ℕ) (room : at + length (encode_code c) ≤ length out) where
    pub ascii-code-room : at < length out
    ascii-code-room = code-byte-room c (byte_of c) refl out at room c (sym (byte_low c l))

    pub ascii-code-laid : Laid (encode_code c) out at (at + 1) (set out at c)
    ascii-code-laid = code-byte-laid c (byte_of c) refl out at room c (sym (byte_low c l))

-- ---- a text that begins with ASCII

ascii_encode : (xs ys : List ℕ) → is_ascii xs ≡ true → encode_text (xs ++ ys) ≡ xs ++ encode_text ys
ascii_encode [] ys h = refl
ascii_encode (x ∷ xs) ys h =
    let f = ascii-first x xs h in
    (taken-ascii (x ∷ xs ++ ys) 0 (omega arith) f.low).is ∙ rw (code-byte x (byte_of x) refl x (sym (byte_low x f.low)), ascii_encode xs ys f.rest)

module _ (text : List ℕ) (n : ℕ) (a : AsciiTo text n) where
  begins : encode_text text ≡ take n text ++ encode_text (drop n text)
  begins = ap encode_text (sym (take-append-drop n text)) ∙ ascii_encode (take n text) (drop n text) a.is

  length-begins : length (encode_text text) ≡ n + length (encode_text (drop n text))
  length-begins = ap length begins ∙ length-append (take n text) (encode_text (drop n text)) ∙ rw (length-take-le n text a.within)

  pub begins-over : (room : ℕ) → room < n → None ≡ room_for (length (encode_text text)) room
  begins-over room h = sym (rw (lt-leb (length (encode_text text)) room (omega (arith, length-begins))))

  pub begins-count : n + length (encode_text (drop n text)) ≡ length (encode_text text)
  begins-count = sym length-begins

  module _ (out : List ℕ) (h : length (encode_text text) ≤ length out) where
    begins-room : 0 + length (take n text) ≤ length out
    begins-room = omega (arith, length-begins, length-take-le n text a.within)

    module _ (r : Option ℕ) (out₁ : List ℕ) (w : Wrote (take n text) out 0 r out₁) where
      -- what fits is never refused
      pub begins-never : r ≡ None → Laid (encode_text text) out 0 0 out₁
      begins-never q = put_never begins-room w q

    module _ (r : Option ℕ) (out₁ : List ℕ) (w : Wrote (take n text) out 0 r out₁) (at : ℕ) (q : r ≡ Some at) where
      copied : Laid (take n text) out 0 at out₁
      copied = put_went at w q

      pub begins-left : at + length (encode_text (drop n text)) ≤ length out₁
      begins-left = omega (arith, length-begins, length-take-le n text a.within, copied.next, laid-long begins-room copied)

      pub begins-done : (end : ℕ) (out₂ : List ℕ) → Laid (encode_text (drop n text)) out₁ at end out₂ → Laid (encode_text text) out 0 end out₂
      begins-done end out₂ k = laid_as begins (laid_then begins-room copied k)

-- ---- encoded_len

module _ (text : List ℕ) (i n all : ℕ) (inv : n + length (encode_text (drop i text)) ≡ all) where
  module _ (c e k : ℕ) (t : TakenFrom text i c e) (q : k ≡ length (encode_code c)) where
    pub encode_part : n + k + length (encode_text (drop e text)) ≡ all
    encode_part = count-part n all _ inv (encode_code c) (encode_text (drop e text)) t.is k q

    pub encode_over : (room : ℕ) → n ≤ room → room - n < k → None ≡ room_for all room
    encode_over room l s = count-over n all _ inv (encode_code c) (encode_text (drop e text)) t.is k q room l s

  pub encode_fits : (room : ℕ) → n ≤ room → length text ≤ i → Some n ≡ room_for all room
  encode_fits room l h = count_fits n all _ inv (encode_end text i h) room l

-- ---- put_decimal

module _ (n at : ℕ) (out : List ℕ) (h : at + length (decimal n) ≤ length out) where
  pub digit_room : n < 10 → at < length out
  digit_room l = omega (arith, ap length (decimal_digit n l))

  pub digit_laid : n < 10 → Laid (decimal n) out at (at + 1) (set out at (0x30 + n))
  digit_laid l = laid_as (decimal_digit n l) (laid_one out at (0x30 + n) (digit_room l))

  module _ (l : 10 ≤ n) where
    whole_room : at + length (decimal (n / 10) ++ ((0x30 + n % 10) ∷ [])) ≤ length out
    whole_room = rw (← decimal-more n l) h

    pub digits-room : at + length (decimal (n / 10)) ≤ length out
    digits-room = omega (arith, whole_room, length-append (decimal (n / 10)) ((0x30 + n % 10) ∷ []))

    module _ (e : ℕ) (out₁ : List ℕ) (a : Laid (decimal (n / 10)) out at e out₁) where
      pub last_digit_room : e < length out₁
      last_digit_room = last-room (decimal (n / 10)) out out₁ at e (0x30 + n % 10) whole_room a

      pub last_digit_laid : Laid (decimal n) out at (e + 1) (set out₁ e (0x30 + n % 10))
      last_digit_laid = laid_as (decimal-more n l) (laid-last (decimal (n / 10)) out out₁ at e (0x30 + n % 10) whole_room a)

-- ---- put_reference

module _ (c at : ℕ) (out : List ℕ) (h : at + length (reference c) ≤ length out) where
  open_room : at + 2 ≤ length out
  open_room = omega arith

  opened : Laid (0x26 ∷ 0x23 ∷ []) out at (at + 2) (set (set out at 0x26) (at + 1) 0x23)
  opened = laid-two out at 0x26 0x23 open_room

  rest-fits : at + 2 + length (decimal c ++ (0x3b ∷ [])) ≤ length (set (set out at 0x26) (at + 1) 0x23)
  rest-fits = simp length-set (omega arith)

  pub reference-room : at + 2 + length (decimal c) ≤ length (set (set out at 0x26) (at + 1) 0x23)
  reference-room = omega (arith, rest-fits, length-append (decimal c) (0x3b ∷ []))

  module _ (e : ℕ) (out₁ : List ℕ) (a : Laid (decimal c) (set (set out at 0x26) (at + 1) 0x23) (at + 2) e out₁) where
    pub semicolon_room : e < length out₁
    semicolon_room = last-room (decimal c) _ out₁ (at + 2) e 0x3b rest-fits a

    pub reference-laid : Laid (reference c) out at (e + 1) (set out₁ e 0x3b)
    reference-laid = laid_then open_room opened (laid-last (decimal c) _ out₁ (at + 2) e 0x3b rest-fits a)

-- ---- put_from

module _ (xs out text out₁ : List ℕ) (at i n : ℕ) (q : Rest xs out at (encode_text (drop i text)) out₁ n) where
  module _ (c e : ℕ) (t : TakenFrom text i c e) where
    pub codes_room : n + length (encode_code c) ≤ length out₁
    codes_room = rest-room (encode_code c) (encode_text (drop e text)) q t.is

    pub codes_again : (n₁ : ℕ) (out₂ : List ℕ) → Laid (encode_code c) out₁ n n₁ out₂ → Rest xs out at (encode_text (drop e text)) out₂ n₁
    codes_again n₁ out₂ l = rest-next q t.is l

  pub codes_end : length text ≤ i → Laid xs out at n out₁
  codes_end h = rest_end q (encode_end text i h)

-- ---- encode

module _ (text out : List ℕ) (r : Option ℕ) (e : r ≡ room_for (length (encode_text text)) (length out)) where
  pub encode_full : r ≡ None → Wrote (encode_text text) out 0 None out
  encode_full q =
      let o : length out < length (encode_text text) = room-over (length (encode_text text)) (length out) e q in
      wrote-over (encode_text text) out 0 (omega arith) (omega arith)

  module _ (n : ℕ) (q : r ≡ Some n) where
    pub encode_room : length (encode_text text) ≤ length out
    encode_room = (room_fits n (length (encode_text text)) (length out) e q).fits

    pub encode_done : (k : ℕ) (out₁ : List ℕ) → Laid (encode_text text) out 0 k out₁ → Wrote (encode_text text) out 0 (Some n) out₁
    encode_done k out₁ l =
        let z : n ≡ k = omega (arith, l.next, room_fits n (length (encode_text text)) (length out) e q) in
        rw z (wrote-laid (encode_text text) out 0 (omega (arith, encode_room)) l)
