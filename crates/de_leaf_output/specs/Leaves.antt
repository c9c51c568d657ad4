-- What a leaf's value is on the tape (document 01, "The tape"; document 02, change requests 2 and 8). Assumes
-- nothing.
use Rattle.std.specs.Prelude.{cond, List, ℕ, take}
use Rattle.enc_number.specs.Answer.{truth_number}
use Rattle.enc_float.specs.Float.{real_bits}
use Rattle.enc_float.specs.declared.Real.TheVariants as real
use Rattle.enc_utf_8.specs.declared.TextEnd.{TextEnd}
use Rattle.enc_utf_8.specs.declared.TextEnd.TheVariants.{Terminated, Unterminated}
use Rattle.enc_text_decoder.specs.Text.{decoded_by}
use Rattle.enc_text_decoder.specs.Ended.{was_found}
use Rattle.tape.specs.Record.{new_record, declaring}
use Rattle.de_leaves.specs.declared.leaf.LeafValue.{LeafValue}
use Rattle.de_leaves.specs.declared.leaf.LeafValue.TheVariants as leaf
use Rattle.de_leaf_output.specs.declared.LeafForm.{LeafForm}
use Rattle.de_leaf_output.specs.declared.LeafForm.TheVariants as form
use Rattle.de_output.specs.Trace.{Trace, rec, text, one, refuse}

-- the number of bytes before a text's end, whether or not a terminator was found
abbrev pub ends_at : TextEnd → ℕ
ends_at (Terminated n) = n
ends_at (Unterminated n) = n

-- byte 1 of a text's record: 1 if a terminator was found, else 0
abbrev pub end_byte : TextEnd → ℕ
end_byte e = truth_number (was_found e)

-- a leaf's value as one record, one text with byte 1 of its record, or a refusal
abbrev pub form_of : LeafValue → LeafForm
form_of (leaf.Signed w b) = form.Record (new_record 7 w 0 b)
form_of (leaf.Unsigned w n) = form.Record (new_record 8 w 0 n)
form_of (leaf.Bool b) = form.Record (new_record 6 0 0 (cond b 1 0))
form_of (leaf.Single x) = form.Record (new_record 9 0 0 (real_bits (real.Single x)))
form_of (leaf.Double x) = form.Record (new_record 10 0 0 (real_bits (real.Double x)))
form_of (leaf.NanSingle n) = form.Record (new_record 9 0 0 n)
form_of (leaf.NanDouble n) = form.Record (new_record 10 0 0 n)
form_of (leaf.Text d e) = form.Text (end_byte e) d (ends_at e)
form_of (leaf.Entry n) = form.Record (new_record 12 0 n 0)
form_of leaf.Unit = form.Record (new_record 13 0 0 0)
form_of (leaf.Refused k) = form.Refused k

-- a text is the first n of the leaf's bytes, decoded; its record, or that of any other leaf, declares block b
abbrev pub form_trace : ℕ → LeafForm → List ℕ → Trace
form_trace b (form.Record r) mem = one (rec (declaring b r))
form_trace b (form.Text w d n) mem = one (text w b (decoded_by d (take n mem)))
form_trace b (form.Refused k) mem = refuse k 0

-- what a leaf's value emits, where its type was named at block b
abbrev pub trace_of : ℕ → LeafValue → List ℕ → Trace
trace_of b v mem = form_trace b (form_of v) mem
