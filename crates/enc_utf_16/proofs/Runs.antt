-- A text that is read scalar value by scalar value, measured and written: one turn of each loop, and its ends. The laws hold of any
-- `scalars_of`, which reads scalar values from bytes, and any `bytes_of`, which encodes one of them. Assumes nothing.
use Rattle.std.specs.Prelude.{Option, Some, None}
use mathlib.Core.Path.{◌≡◌, refl, sym, ap, ◌∙◌}
use mathlib.Core.Bool.{Bool, true, false}
use mathlib.Core.List.{List, [], ◌++◌, flat_map}
use Prim.Native.Nat.{ℕ, ◌+◌, ◌-◌, ◌≤◌, ◌<◌}
use native.Mathlib.Omega.{arith}
use lib.ListN.{length, drop, length-append, drop_of_length-le}
use lib.Dec.{leb}
use borrow.Author.Tests.{le-leb, lt-leb, leb-true, leb-false}
use Rattle.enc_utf_8.specs.Buffer.{splice, Wrote, room_for}
use Rattle.enc_utf_8.proofs.Splices.{splice-none, splice-long, splice-splice, wrote-splice, wrote-full, wrote_none, wrote_as, went, stayed}
use Rattle.enc_utf_16.specs.Step.{ScalarAtIn, LeftToWrite}

pub left-all : (whole out : List ℕ) (at : ℕ) → at + length whole ≤ length out → LeftToWrite whole out at whole out at
left-all whole out at h = record { place = refl; buffer = refl; long = refl; fits = h }

-- what is left of what was left
pub left-left : {whole out₀ mid out₁ rest out₂ : List ℕ} {at to next : ℕ} → LeftToWrite whole out₀ at mid out₁ to → LeftToWrite mid out₁ to rest out₂ next → LeftToWrite whole out₀ at rest out₂ next
left-left p q = record {
  place = q.place ∙ p.place;
  buffer = q.buffer ∙ p.buffer;
  long = q.long ∙ p.long;
  fits = q.fits;
}

-- a part of it is written
module _ {whole out₀ out out' : List ℕ} (us vs : List ℕ) {start to : ℕ} {r : Option ℕ} (inv : LeftToWrite whole out₀ start (us ++ vs) out to) (w : Wrote us out to r out') where
  parts : length (us ++ vs) ≡ length us + length vs
  parts = length-append us vs

  pub left-part : (end : ℕ) → r ≡ Some end → LeftToWrite whole out₀ start vs out' end
  left-part end q =
      let g = went w q in
      let k : to + length us ≤ length out = omega (arith, parts, inv.fits) in
      let l : length out' ≡ length out = ap length g.buffer ∙ splice-long out us to k in
      record {
        place = omega (arith, parts, inv.place, g.place);
        buffer = rw (g.buffer, g.place) (splice-splice out us vs to k ∙ inv.buffer);
        long = l ∙ inv.long;
        fits = omega (arith, parts, inv.fits, g.place);
      }

  -- what fits is never refused
  pub left-never : {X : Type 0} → r ≡ None → X
  left-never q = absurd (omega (arith, parts, inv.fits, (stayed w q).over))

-- all of it is written
pub left_end : {whole out₀ out : List ℕ} {start to : ℕ} → LeftToWrite whole out₀ start [] out to → Wrote whole out₀ start (Some to) out
left_end {whole} {out₀} {out} {start} {to} inv =
    let e : to ≡ start + length whole = omega (arith, inv.place) in
    let b : out ≡ splice out₀ start whole = sym (splice-none out to) ∙ inv.buffer in
    let f : start + length whole ≤ length out₀ = omega (arith, inv.place, inv.fits, inv.long) in
    rw (e, b) (wrote-splice whole out₀ start f)

-- ---- what a length says

pub room-over : (n room : ℕ) → room < n → None ≡ room_for n room
room-over n room h = rw (lt-leb n room h)

pub room_fits : (n m room : ℕ) → m ≡ n → m ≤ room → Some m ≡ room_for n room
room_fits n m room e h = let k : n ≤ room = omega arith in rw (le-leb n room k, e)

-- ---- a text in its room

-- a text that has a byte does not fit past the end
pub full-past : (text out : List ℕ) (at : ℕ) → 0 < length text → length out < at → Wrote text out at None out
full-past text out at p h = wrote-full text out at p (omega arith)

-- a text that is longer than the room from a place on
pub full_at : (text out : List ℕ) (at : ℕ) (t : Bool) → at ≤ length out → t ≡ leb (length text) (length out - at) → t ≡ false → Wrote text out at None out
full_at text out at t a e q =
    let h = leb-false (length text) (length out - at) (sym e ∙ q) in
    wrote-full text out at (omega arith) (omega arith)

-- the whole buffer as the room
module _ (text out : List ℕ) (t : Bool) (e : t ≡ leb (length text) (length out)) where
  pub fits_all : t ≡ true → length text ≤ length out
  fits_all q = leb-true (length text) (length out) (sym e ∙ q)

  pub full-all : t ≡ false → Wrote text out 0 None out
  full-all q =
      let h = leb-false (length text) (length out) (sym e ∙ q) in
      wrote-full text out 0 (omega arith) (omega arith)

-- ---- a text that is read from bytes

module _ (scalars_of : List ℕ → List ℕ) (bytes_of : ℕ → List ℕ) (nil : scalars_of [] ≡ []) (bytes : List ℕ) where
  -- at the end nothing is left
  pub text-end : (at : ℕ) → length bytes ≤ at → flat_map bytes_of (scalars_of (drop at bytes)) ≡ []
  unfolding flat_map
  text-end at h = rw (drop_of_length-le bytes h, nil)

  module _ (at code next : ℕ) (here : ScalarAtIn scalars_of bytes at code next) where
    -- the text from a place on is the scalar value there and the text after it
    pub text-here : flat_map bytes_of (scalars_of (drop at bytes)) ≡ bytes_of code ++ flat_map bytes_of (scalars_of (drop next bytes))
    unfolding flat_map
    text-here = rw here.is

    lengths : length (flat_map bytes_of (scalars_of (drop at bytes))) ≡ length (bytes_of code) + length (flat_map bytes_of (scalars_of (drop next bytes)))
    lengths = ap length text-here ∙ simp length-append

    -- ---- measured

    module _ (used n : ℕ) (inv : used + length (flat_map bytes_of (scalars_of (drop at bytes))) ≡ length (flat_map bytes_of (scalars_of bytes))) (e : n ≡ length (bytes_of code)) where
      pub size-again : used + n + length (flat_map bytes_of (scalars_of (drop next bytes))) ≡ length (flat_map bytes_of (scalars_of bytes))
      size-again = omega (arith, lengths)

      pub size-over : (room : ℕ) → used ≤ room → room - used < n → None ≡ room_for (length (flat_map bytes_of (scalars_of bytes))) room
      size-over room a h = room-over _ room (omega (arith, lengths))

    -- ---- written

    module _ (whole out₀ out out' : List ℕ) (start to : ℕ) (r : Option ℕ) (inv : LeftToWrite whole out₀ start (flat_map bytes_of (scalars_of (drop at bytes))) out to)
        (w : Wrote (bytes_of code) out to r out') where
      pub write_again : (end : ℕ) → r ≡ Some end → LeftToWrite whole out₀ start (flat_map bytes_of (scalars_of (drop next bytes))) out' end
      write_again end q = left-part (bytes_of code) _ (rw text-here at inv) w end q

      pub write_never : r ≡ None → Wrote whole out₀ start (Some to) out'
      write_never q = left-never (bytes_of code) _ (rw text-here at inv) w q

  pub size-end : (at used room : ℕ) → used + length (flat_map bytes_of (scalars_of (drop at bytes))) ≡ length (flat_map bytes_of (scalars_of bytes)) → length bytes ≤ at → used ≤ room
      → Some used ≡ room_for (length (flat_map bytes_of (scalars_of bytes))) room
  size-end at used room inv h a = room_fits _ used room (omega (arith, ap length (text-end at h))) a

  pub write_end : (whole out₀ out : List ℕ) (at start to : ℕ) → LeftToWrite whole out₀ start (flat_map bytes_of (scalars_of (drop at bytes))) out to → length bytes ≤ at → Wrote whole out₀ start (Some to) out
  write_end whole out₀ out at start to inv h = left_end (rw (text-end at h) at inv)

  -- no bytes are no text
  pub write_none : (out : List ℕ) (at : ℕ) → length bytes ≡ 0 → Wrote (flat_map bytes_of (scalars_of bytes)) out at (Some at) out
  write_none out at h = wrote_as (text-end 0 (omega arith)) (wrote_none out at)
