-- The exported calls: each gives, by numbers, what the call below it answers, and leaves the lent buffers as that does. Assumes nothing.
use Rattle.std.specs.Prelude.{◌≡◌, Bool, true, List, ℕ}
use Rattle.type_book.specs.Book.{is_type}
use Rattle.enc_number.specs.Answer.{refusal_of}
use Rattle.type_index_build.specs.declared.Built.{Built}
use Rattle.type_index_build.specs.Build.{built_numbers, BuiltIs}
use Rattle.type_cache.specs.declared.Appended.{Appended}
use Rattle.type_cache.specs.Append.{appended_numbers, AppendIs}
use Rattle.resolvers.specs.declared.Resolved.{Resolved}
use Rattle.resolvers.specs.declared.Resolved.TheVariants.{Base}
use Rattle.resolvers.specs.Resolve.{resolved_numbers}
use Rattle.resolve_field_types.specs.declared.FieldsAnswer.{FieldsAnswer}
use Rattle.resolve_field_types.specs.Calls.{fields_numbers, Filled}
use Rattle.resolve_read_modify_write.specs.declared.Rmw.{Rmw}
use Rattle.resolve_missing_types.specs.declared.Missing.{Missing}
use Rattle.resolve_read_modify_write.specs.Calls.{rmw_numbers, RmwIn, RmwIs}
use Rattle.resolve_missing_types.specs.Calls.{missing_numbers, MissingIn, MissingIs}
use Rattle.type_book_check.specs.Given as given
use Rattle.resolve_read_modify_write.specs.Given.{GivenRmwIs}
use Rattle.resolve_missing_types.specs.Given.{GivenMissingIs}
use Rattle.de_output.specs.declared.ReadAnswer.{ReadAnswer}
use Rattle.de_output.specs.Trace.{Trace}
use Rattle.de_output.specs.Answer.{read_numbers, ReadIs}
use Rattle.ser.specs.declared.WriteAnswer.{WriteAnswer}
use Rattle.ser.specs.Write.{Outcome}
use Rattle.ser.specs.Call.{write_numbers, WriteIs}
use Rattle.plan_save.specs.declared.Plan.{Plan}
use Rattle.plan_save.specs.Call.{plan_numbers, plan_refusal, PlanIs}
use Rattle.plan_named.specs.Named.{named_refusal, PlanNamedIs}
use Rattle.gateway_appending.specs.declared.Growth.{Growth}
use Rattle.gateway_appending.specs.Growth.{growth_numbers, trust_of, AppendedBy}
use Rattle.gateway_lent_values.specs.Values.{Gives}

-- what the building of an index answers, as a number, and the numbers that it leaves
pub record BuildGiven (buffer : List ℕ) (len : ℕ) (index : List ℕ) (r : ℕ) (index' : List ℕ) : Type 0 where
  pub answer : Built
  pub by : BuiltIs buffer len index answer index'
  pub gives : r ≡ refusal_of (built_numbers answer)

-- what appending answers, as a number and values, and the buffer that it leaves
pub record AppendGiven (buffer : List ℕ) (len : ℕ) (piece before : List ℕ) (r : ℕ) (buffer' after : List ℕ) : Type 0 where
  pub answer : Appended
  pub by : AppendIs buffer len piece answer buffer'
  pub gives : Gives (appended_numbers answer) before r after

-- the same for a checked book, by an index of its names and what is known of it: the book that is left is valid too, and so is what is answered of
-- the index
pub record AppendInGiven (buffer : List ℕ) (len : ℕ) (piece index : List ℕ) (held : ℕ) (before : List ℕ) (r : ℕ) (buffer' index' after : List ℕ) : Type 0 where
  pub answer : Growth
  pub by : AppendedBy buffer len piece index (trust_of held) answer buffer' index'
  pub gives : Gives (growth_numbers answer) before r after

-- what a chain in a checked book comes to; its end is a type block
pub record ChainGiven (book : List ℕ) (answer : Resolved) (before : List ℕ) (r : ℕ) (after : List ℕ) : Type 0 where
  pub gives : Gives (resolved_numbers answer) before r after
  pub typed : (u : ℕ) → answer ≡ Base u → is_type book u ≡ true

-- the answer `is` of `resolve_fields`, as a number and values, and the lent slice that it leaves, with the records `new` in a success
pub record FieldsGiven (is : FieldsAnswer) (new records before : List ℕ) (r : ℕ) (records' after : List ℕ) : Type 0 where
  pub answer : FieldsAnswer
  pub by : Filled is new records answer records'
  pub gives : Gives (fields_numbers answer) before r after

-- what read-modify-write answers for a root, as a number and values, and the scratch that it leaves
pub record RmwGiven (buffer : List ℕ) (len : ℕ) (index : List ℕ) (width root : ℕ) (scratch before : List ℕ) (r : ℕ) (scratch' after : List ℕ) : Type 0 where
  pub answer : Rmw
  pub by : RmwIs buffer len index width root scratch answer scratch'
  pub gives : Gives (rmw_numbers answer) before r after

-- the same for a root that is given by its name
pub record RmwNamedGiven (buffer : List ℕ) (len : ℕ) (index : List ℕ) (width : ℕ) (name : List ℕ) (scratch before : List ℕ) (r : ℕ) (scratch' after : List ℕ) : Type 0 where
  pub answer : Rmw
  pub by : GivenRmwIs buffer len index width (given.name name) scratch answer scratch'
  pub gives : Gives (rmw_numbers answer) before r after

-- the same for type block `root` of a checked book, where the scratch fits or not
pub record RmwInGiven (fits : Bool) (book : List ℕ) (width root : ℕ) (scratch before : List ℕ) (r : ℕ) (scratch' after : List ℕ) : Type 0 where
  pub answer : Rmw
  pub by : RmwIn fits book width root scratch answer scratch'
  pub gives : Gives (rmw_numbers answer) before r after

-- what `missing_types` answers for a root, as a number and values, and the scratch and the list that it leaves
pub record MissingGiven (buffer : List ℕ) (len : ℕ) (index : List ℕ) (width root : ℕ) (scratch list before : List ℕ) (r : ℕ) (scratch' list' after : List ℕ) : Type 0 where
  pub answer : Missing
  pub by : MissingIs buffer len index width root scratch list answer scratch' list'
  pub gives : Gives (missing_numbers answer) before r after

-- the same for a root that is given by its name
pub record MissingNamedGiven (buffer : List ℕ) (len : ℕ) (index : List ℕ) (width : ℕ) (name : List ℕ) (scratch list before : List ℕ) (r : ℕ) (scratch' list' after : List ℕ) : Type 0 where
  pub answer : Missing
  pub by : GivenMissingIs buffer len index width (given.name name) scratch list answer scratch' list'
  pub gives : Gives (missing_numbers answer) before r after

-- the same for type block `root` of a checked book, where scratch and list fit or not
pub record MissingInGiven (fits : Bool) (book : List ℕ) (width root : ℕ) (scratch list before : List ℕ) (r : ℕ) (scratch' list' after : List ℕ) : Type 0 where
  pub answer : Missing
  pub by : MissingIn fits book width root scratch list answer scratch' list'
  pub gives : Gives (missing_numbers answer) before r after

-- what a read of the trace answers, as a number and values, and the tape and the text that it leaves
pub record ReadGiven (trace : Trace) (tape text before : List ℕ) (r : ℕ) (tape' text' after : List ℕ) : Type 0 where
  pub answer : ReadAnswer
  pub by : ReadIs trace tape text answer tape' text'
  pub gives : Gives (read_numbers answer) before r after

-- what a write of the outcome answers, as a number and values, and the output that it leaves
pub record WriteGiven (outcome : Outcome) (image output before : List ℕ) (r : ℕ) (output' after : List ℕ) : Type 0 where
  pub answer : WriteAnswer
  pub by : WriteIs outcome image output answer output'
  pub gives : Gives (write_numbers answer) before r after

-- what the plan of a save answers, as a number and values, and our buffer, the scratch and the index that it leaves
pub record PlanGiven (buffer : List ℕ) (len : ℕ) (controller : List ℕ) (theirs width root : ℕ) (scratch index before : List ℕ) (r : ℕ)
    (buffer' scratch' index' after : List ℕ) : Type 0 where
  pub answer : Plan
  pub by : PlanIs (plan_refusal buffer len controller theirs root scratch) buffer len controller theirs width root scratch index answer buffer' scratch' index'
  pub gives : Gives (plan_numbers answer) before r after

-- the same of a root by its name
pub record PlanNamedGiven (buffer : List ℕ) (len : ℕ) (controller : List ℕ) (theirs width : ℕ) (name scratch index before : List ℕ) (r : ℕ)
    (buffer' scratch' index' after : List ℕ) : Type 0 where
  pub answer : Plan
  pub by : PlanNamedIs (named_refusal buffer len controller theirs name scratch) buffer len controller theirs width name scratch index answer buffer' scratch' index'
  pub gives : Gives (plan_numbers answer) before r after
