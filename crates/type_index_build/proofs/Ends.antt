-- `build_index`: what its functions owe at each exit. Assumes nothing.
use mathlib.Core.Path.{◌≡◌, refl, sym, ap, ◌∙◌}
use mathlib.Core.Bool.{true, false}
use mathlib.Core.List.{List}
use Prim.Native.Nat.{ℕ}
use lib.ListN.{length, take}
use lib.Dec.{eqb}
use borrow.Author.Tests.{eq-eqb, ne_eqb}
use Rattle.enc_number.specs.Answer.{refusal_of}
use Rattle.type_book_check.specs.declared.BookCheck.{BookCheck}
use Rattle.type_book_check.specs.Check.{check_book, book_numbers}
use Rattle.type_cache.proofs.Appends.{refused-cut}
use Rattle.type_index_build.specs.declared.Built.{Built}
use Rattle.type_index_build.specs.declared.Built.TheVariants as built
use Rattle.type_index_build.specs.Build.{build_call, built_index, BuiltIn, BuiltIs}
use Rattle.type_index_build.proofs.Numbers.{built_says}

-- ---- 1 to 4

module _ (buffer : List ℕ) (len : ℕ) (k : BookCheck) (ek : book_numbers k ≡ book_numbers (check_book buffer len)) (f : ℕ) (ef : f ≡ refusal_of (book_numbers k)) where
  same : f ≡ refusal_of (book_numbers (check_book buffer len))
  same = ef ∙ ap refusal_of ek

  pub build_refused : (f ≡ 0 → ⊥) → (index : List ℕ) → BuiltIs buffer len index (built.Refused f) index
  unfolding build_call built_index
  build_refused h index =
      let q : eqb f 0 ≡ false = ne_eqb f 0 h in
      record { answer = built_says _ _ (rw (← same, q)); numbers = rw (← same, q) }

  module _ (z : f ≡ 0) where
    pub build_cut : len ≡ length (take len buffer)
    build_cut = refused-cut buffer len buffer (check_book buffer len) refl f same z

    pub build_done : (index : List ℕ) (r : Built) (index' : List ℕ) → BuiltIn (take len buffer) index r index' → BuiltIs buffer len index r index'
    unfolding build_call
    build_done index r index' b =
        let q : eqb f 0 ≡ true = eq-eqb f 0 z in
        record { answer = built_says _ _ (b.answer ∙ sym (rw (← same, q))); numbers = b.numbers ∙ sym (rw (← same, q)) }
