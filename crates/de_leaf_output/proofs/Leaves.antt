-- A leaf's value as a form, and a form as a trace. Assumes nothing.
use mathlib.Core.Path.{◌≡◌}
use mathlib.Core.List.{List}
use Prim.Native.Nat.{ℕ}
use lib.ListN.{take}
use Rattle.enc_text_decoder.specs.Text.{decoded_by}
use Rattle.enc_text_decoder.specs.declared.Decoder.{Decoder}
use Rattle.tape.specs.Record.{declaring}
use Rattle.tape.specs.declared.record.Record.{Record}
use Rattle.type_category.specs.Category.{category_of}
use Rattle.type_category.specs.declared.type_category.AdsTypeCategory.{AdsTypeCategory}
use Rattle.de_leaves.specs.declared.leaf.LeafValue.{LeafValue}
use Rattle.de_leaves.specs.Leaf.{leaf_by, leaf_at}
use Rattle.de_leaves.proofs.Leaves.{leaf-own}
use Rattle.de_output.specs.declared.Step.{Step}
use Rattle.de_output.specs.Trace.{rec, text, one, From, Halts}
use Rattle.de_output.proofs.Runs.{halted}
use Rattle.de_leaf_output.specs.declared.LeafForm.{LeafForm}
use Rattle.de_leaf_output.specs.declared.LeafForm.TheVariants as form
use Rattle.de_leaf_output.specs.Leaves.{form_of, trace_of}

module _ (m : ℕ) (mem : List ℕ) {tape txt : List ℕ} {s r : Step} (v : LeafValue) (f : LeafForm) (q : f ≡ form_of v) where
  pub leaf-record : {tape' txt' : List ℕ} (x y : Record) → f ≡ form.Record x → y ≡ declaring m x → From (one (rec y)) tape txt s r tape' txt' → From (trace_of m v mem) tape txt s r tape' txt'
  leaf-record x y e d h = rw (← q, e, ← d) h

  pub leaf-text : {tape' txt' : List ℕ} (w : ℕ) (d : Decoder) (n : ℕ) (part : List ℕ) → f ≡ form.Text w d n → part ≡ take n mem → From (one (text w m (decoded_by d part))) tape txt s r tape' txt' → From (trace_of m v mem) tape txt s r tape' txt'
  leaf-text w d n part e z h = rw (← q, e, ← z) h

  pub leaf-refused : (k : ℕ) → f ≡ form.Refused k → Halts s k 0 r → From (trace_of m v mem) tape txt s r tape txt
  leaf-refused k e h = rw (← q, e) (halted h)

-- the value of type t, by a category that is its own
pub leaf-at : (book : List ℕ) (width n t : ℕ) (mem : List ℕ) {tape tape' txt txt' : List ℕ} {s r : Step} (v : LeafValue) (y : AdsTypeCategory) → y ≡ category_of book width t → v ≡ leaf_by book width t y mem → From (trace_of n v mem) tape txt s r tape' txt' → From (trace_of n (leaf_at book width t mem) mem) tape txt s r tape' txt'
leaf-at book width n t mem v y k e h = rw (← leaf-own book width t mem y v k e) h
