-- A leaf's record that is in its ranges is never refused with 16. Assumes nothing.
use mathlib.Core.Path.{◌≡◌, refl}
use mathlib.Core.Bool.{true, false}
use mathlib.Core.List.{List}
use Prim.Native.Nat.{ℕ}
use native.Mathlib.Omega.{arith}
use borrow.Author.Tests.{ne_eqb}
use Rattle.tape.specs.declared.record.Record.{Record}
use Rattle.tape_form.specs.Ranges.{declares, leaf_fine}
use Rattle.tape_form.specs.Ranges as ranges
use Rattle.type_category.specs.declared.type_category.AdsTypeCategory.{AdsTypeCategory}
use Rattle.ser_leaf.specs.Leaf.{Leaf, leaf_for}
use Rattle.ser_leaf.proofs.Tells.{leaf_for_tells}
use Rattle.ser_leaf.specs.Leaf as leaf
use Rattle.ser_laws.proofs.Plain.{different}
use Rattle.std.proofs.lemmas.Bool.{and_parts}

pub record Mild (l : Leaf) : Type 0 where
  pub never : l ≡ leaf.refused 16 → ⊥

pub mild_leaf : (book : List ℕ) (width t : ℕ) (old : List ℕ) (k : AdsTypeCategory) (r : Record) (text : List ℕ) → leaf_fine book text r ≡ true → Mild (leaf_for book width t k r text old)
unfolding leaf_fine ranges.leaf_ranges
mild_leaf book width t old k r text h =
    let x = leaf_for_tells (λ (n : ℕ). n ≡ 16 → ⊥) (λ e. omega arith) (λ e. omega arith) (λ e. omega arith) (λ e. omega arith) (λ e. omega arith) book width t old k r text
    (λ n6 n7 n8 n9 n10 n11 n12 n13 e.
    let g : false ≡ true = rw (ne_eqb r.kind 6 n6, ne_eqb r.kind 7 n7, ne_eqb r.kind 8 n8, ne_eqb r.kind 9 n9, ne_eqb r.kind 10 n10, ne_eqb r.kind 11 n11, ne_eqb r.kind 12 n12, ne_eqb r.kind 13 n13) at (and_parts (declares book r) _ h).1 in
    different cc) in
    record { never = λ e. x.each 16 e refl }
