-- Answers as numbers. Assumes nothing.
use Rattle.std.specs.Prelude.{Option, Some, None}
use mathlib.Core.Path.{◌≡◌, refl, ap, ◌∙◌}
use mathlib.Core.Bool.{Bool, true, false, cond}
use mathlib.Core.List.{List}
use Prim.Native.Nat.{ℕ, ◌+◌}
use lib.ListN.{length}
use Rattle.enc_utf_8.specs.Buffer.{fits_in, Wrote}
use Rattle.enc_number.specs.Answer.{refusal_of}
use Rattle.type_index.specs.Index.{FoundBy}
use Rattle.type_index_build.specs.declared.Built.{Built}
use Rattle.type_index_build.specs.Build.{built_numbers, BuiltIs}
use Rattle.gateway.specs.Calls.{BuildGiven}
use Rattle.type_provider.specs.Find.{found_numbers}
use Rattle.gateway_codes.specs.Numbers.{place_number, found_number}
use Rattle.gateway.specs.Numbers.{WroteAs, FoundAs}

by : (b : Bool) (n : ℕ) → place_number (cond b (Some n) None) ≡ cond b n 0xffff_ffff_ffff_ffff
by true n = refl
by false n = refl

pub wrote-number : {xs out out' : List ℕ} {at : ℕ} {p : Option ℕ} {r : ℕ} → Wrote xs out at p out' → r ≡ place_number p → WroteAs xs out at r out'
wrote-number {xs} {out} {out'} {at} {p} {r} w e = record { answer = e ∙ ap place_number w.answer ∙ by (fits_in xs at (length out)) (at + length xs); buffer = w.buffer }

pub build_number : {buffer index index' : List ℕ} {len : ℕ} {b : Built} {r : ℕ} → BuiltIs buffer len index b index' → r ≡ refusal_of (built_numbers b)
    → BuildGiven buffer len index r index'
build_number {b = b} w e = record { answer = b; by = w; gives = e }

pub find-number : (f g : Option ℕ) (r : ℕ) → found_numbers f ≡ found_numbers g → r ≡ found_number (found_numbers f) → r ≡ found_number (found_numbers g)
find-number f g r e q = q ∙ ap found_number e

pub found_number_lem : {book name : List ℕ} {f : Option ℕ} {r : ℕ} → FoundBy book name f → r ≡ found_number (found_numbers f) → FoundAs book name r
found_number_lem {f = f} w e = record { found = f; by = w; number = e }
