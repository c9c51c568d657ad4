-- The whole read, from its last step. Assumes nothing.
use mathlib.Core.Path.{◌≡◌, refl, sym}
use mathlib.Core.Bool.{true}
use mathlib.Core.List.{List}
use Prim.Native.Nat.{ℕ}
use lib.ListN.{length, take}
use Rattle.type_book.specs.Book.{is_type}
use Rattle.type_book_check.specs.Check.{check_root}
use Rattle.type_book_check.specs.declared.RootCheck.{RootCheck}
use Rattle.type_book_check.specs.declared.RootCheck.TheVariants as root
use Rattle.type_book_check.proofs.Roots.{at-refused, at_block}
use Rattle.type_book_check.specs.Given.{Given, number, lacking_root, check_given}
use Rattle.type_book_check.specs.declared.GivenRoot.{GivenRoot}
use Rattle.type_book_check.specs.declared.GivenRoot.TheVariants as given
use Rattle.type_book_check.proofs.Givens.{given-at-refused, given-at-lacking, given-at-block, at-number}
use Rattle.resolvers.specs.Resolve.{resolve_alias, ResolvedIs}
use Rattle.resolvers.specs.declared.Resolved.{Resolved}
use Rattle.resolvers.specs.declared.Resolved.TheVariants as resolved
use Rattle.de_output.specs.declared.Step.{Step}
use Rattle.de_output.specs.declared.Step.TheVariants.{Next, Stop}
use Rattle.de_output.specs.declared.ReadAnswer.{ReadAnswer}
use Rattle.de_output.specs.Trace.{From, refuse}
use Rattle.type_category.specs.Category.{category_of}
use Rattle.type_category.specs.declared.type_category.AdsTypeCategory.{AdsTypeCategory}
use Rattle.tape_array_elements.specs.Element.{whole}
use Rattle.de.specs.Walk.{Ctx, ctx, read_walk}
use Rattle.de.specs.Read.{root_by, root_trace, read_trace, given_trace}
use Rattle.resolvers.proofs.Numbers.{resolved-is, lacks-numbers, long-numbers}
use Rattle.de_output.specs.Answer.{ReadIs, Finished}
use Rattle.de_output.proofs.Answers.{read_by, read_refused, read_as}

-- ---- a checked book

-- what the aliases of block n come to
came : (c : Ctx) (n : ℕ) (k : Resolved) → ResolvedIs c.book (resolve_alias c.book c.width n) k → k ≡ resolve_alias c.book c.width n
came c n k q = resolved-is _ _ q.is

module _ (c : Ctx) (n : ℕ) (mem : List ℕ) (k : Resolved) (q : ResolvedIs c.book (resolve_alias c.book c.width n) k) {tape txt tape₂ txt₂ : List ℕ} {r : ReadAnswer} where
  pub root-lacks : (b : ℕ) → k ≡ resolved.NotFound b → Finished (Stop 7 b) tape txt r tape₂ txt₂ → ReadIs (root_trace c n mem) tape txt r tape₂ txt₂
  unfolding root_trace root_by
  root-lacks b e f = read_as (rw (← came c n k q, e, lacks-numbers b)) (read_refused 7 b f)

  pub root-endless : k ≡ resolved.TooLong → Finished (Stop 8 0) tape txt r tape₂ txt₂ → ReadIs (root_trace c n mem) tape txt r tape₂ txt₂
  unfolding root_trace root_by
  root-endless e f = read_as (rw (← came c n k q, e, long-numbers)) (read_refused 8 0 f)

  pub root-base : (t : ℕ) → k ≡ resolved.Base t → (y : AdsTypeCategory) → y ≡ category_of c.book c.width t → (s : Step) {tape₁ txt₁ : List ℕ}
      → From (read_walk c 64 (whole (record { named = n; resolved = t; category = y })) mem) tape txt (Next 0 0) s tape₁ txt₁
      → length tape₁ ≡ length tape → length txt₁ ≡ length txt → Finished s tape₁ txt₁ r tape₂ txt₂ → ReadIs (root_trace c n mem) tape txt r tape₂ txt₂
  unfolding root_trace root_by
  root-base t e y ey s {tape₁} {txt₁} h a b f =
      read_as (rw (← came c n k q, e, ← ey)) (read_by (read_walk c 64 (whole (record { named = n; resolved = t; category = y })) mem) tape txt tape₁ txt₁ s (h.on 0 0 refl) a b f)

-- ---- any bytes

module _ (buffer : List ℕ) (len width n : ℕ) (mem : List ℕ) (k : RootCheck) (q : k ≡ check_root buffer len n) {tape txt tape₂ txt₂ : List ℕ} {r : ReadAnswer} where
  pub call_refused : (m : ℕ) → k ≡ root.Refused m → Finished (Stop m 0) tape txt r tape₂ txt₂ → ReadIs (read_trace buffer len width n mem) tape txt r tape₂ txt₂
  unfolding read_trace
  call_refused m e f = read_as (sym (at-refused _ _ k q m e)) (read_refused m 0 f)

  pub call_root : (m : ℕ) → k ≡ root.Root m → ReadIs (root_trace (ctx (take len buffer) width) m mem) tape txt r tape₂ txt₂ → ReadIs (read_trace buffer len width n mem) tape txt r tape₂ txt₂
  unfolding read_trace
  call_root m e f = read_as (sym (at_block _ _ k q m e)) f

-- the same for a root however it is given
module _ (buffer : List ℕ) (len width : ℕ) (root : Given) (mem : List ℕ) (k : GivenRoot) (q : k ≡ check_given buffer len root) {tape txt tape₂ txt₂ : List ℕ} {r : ReadAnswer} where
  pub given_call_refused : (m : ℕ) → k ≡ given.Refused m → Finished (Stop m 0) tape txt r tape₂ txt₂ → ReadIs (given_trace buffer len width root mem) tape txt r tape₂ txt₂
  unfolding given_trace
  given_call_refused m e f = read_as (sym (given-at-refused _ _ _ k q m e)) (read_refused m 0 f)

  pub given_call_lacking : k ≡ given.Lacking → Finished (Stop 7 lacking_root) tape txt r tape₂ txt₂ → ReadIs (given_trace buffer len width root mem) tape txt r tape₂ txt₂
  unfolding given_trace
  given_call_lacking e f = read_as (sym (given-at-lacking _ _ _ k q e)) (read_refused 7 lacking_root f)

  pub given_call_block : (m : ℕ) → k ≡ given.Block m → ReadIs (root_trace (ctx (take len buffer) width) m mem) tape txt r tape₂ txt₂ → ReadIs (given_trace buffer len width root mem) tape txt r tape₂ txt₂
  unfolding given_trace
  given_call_block m e f = read_as (sym (given-at-block _ _ _ k q m e)) f

-- the call by a number is the instance
pub trace_by-number : (buffer : List ℕ) (len width n : ℕ) (mem : List ℕ) → given_trace buffer len width (number n) mem ≡ read_trace buffer len width n mem
unfolding given_trace read_trace
trace_by-number buffer len width n mem =
    at-number (λ k. refuse k 0) (refuse 7 lacking_root) (λ t. root_trace (ctx (take len buffer) width) t mem) buffer len n

-- ---- what calls ask

pub typed-root : {book : List ℕ} {a r : Resolved} {t : ℕ} → ResolvedIs book a r → r ≡ resolved.Base t → is_type book t ≡ true
typed-root {t = t} h e = h.typed t e
