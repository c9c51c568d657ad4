-- A leaf that is a number, as one record, or nothing said of it. No contract of a public call cites this. Assumes nothing.
use Rattle.std.specs.Prelude.{◌≡◌, Bool, true, false, List, ℕ}
use Rattle.type_id.specs.declared.AdsTypeId.{AdsTypeId}
use Rattle.enc_number.specs.Refusals as refusal
use Rattle.enc_float.specs.Float.{read_real}
use Rattle.time_types.specs.declared.TimeType.TheVariants as time
use Rattle.time_types.specs.Types.{time_type_of}
use Rattle.tape.specs.declared.record.Record.{Record}
use Rattle.de_leaves.specs.declared.leaf.LeafValue.{LeafValue}
use Rattle.de_leaves.specs.declared.leaf.LeafValue.TheVariants as leaf
use Rattle.de_leaves.specs.declared.leaf.LeafKind.{LeafKind}
use Rattle.de_leaves.specs.declared.leaf.LeafKind.TheVariants as kind
use Rattle.de_leaves.specs.Leaf.{kind_of_leaf, real_or, leaf_by}
use Rattle.de_output.specs.Trace.{rec, one}
use Rattle.de_leaf_output.specs.declared.Typed.{Typed}
use Rattle.de_leaf_output.specs.declared.LeafForm.TheVariants as form
use Rattle.de_leaf_output.specs.Leaves.{form_of, trace_of}

-- a leaf that is read by its type's id
abbrev pub is_number : LeafKind → Bool
is_number kind.Number = true
is_number kind.Text = false
is_number kind.Enum = false
is_number kind.Pointer = false
is_number kind.Unit = false
is_number kind.None = false

-- the real of an id in some bytes; an id that is no real's is 11
unfoldable pub real_in : AdsTypeId → List ℕ → LeafValue
real_in id mem = real_or (read_real id mem) (leaf.Refused refusal.unreadable)

-- a record of kind 0 says nothing; any other is the form of the value
pub record Tells (v : LeafValue) (r : Record) : Type 0 where
  pub tells : (r.kind ≡ 0 → ⊥) → form_of v ≡ form.Record r

-- false says that a type of this name counts no time; true says nothing
pub record Uncounted (name : List ℕ) (b : Bool) : Type 0 where
  pub none : b ≡ false → time.NoTime ≡ time_type_of name

-- a record of kind 0 says nothing; any other is all that a value of this type emits, which is read by its id, whatever the pointer width
pub record NumberRecordIs (book : List ℕ) (x : Typed) (mem : List ℕ) (r : Record) : Type 0 where
  pub number : (r.kind ≡ 0 → ⊥) → kind_of_leaf x.category ≡ kind.Number
  pub is : (r.kind ≡ 0 → ⊥) → (width : ℕ) → trace_of x.named (leaf_by book width x.resolved x.category mem) mem ≡ one (rec r)
