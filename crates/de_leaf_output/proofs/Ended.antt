-- A text on the tape: the trace of a STRING or a WSTRING over as many bytes as its type says, where its name is no count of time's, is one text,
-- whose record's byte 1 is 1 if the bytes have a terminator and 0 if not, whatever they are. Assumes nothing.
use mathlib.Core.Path.{◌≡◌, ap}
use mathlib.Core.List.{List}
use Prim.Native.Nat.{ℕ, ◌≤◌}
use native.Mathlib.Omega.{arith}
use lib.ListN.{length, take}
use borrow.Author.Tests.{eq-eqb}
use Rattle.enc_number.specs.Answer.{truth_number}
use Rattle.enc_utf_8.specs.declared.TextEnd.{TextEnd}
use Rattle.enc_utf_8.specs.declared.TextEnd.TheVariants.{Terminated, Unterminated}
use Rattle.enc_text_decoder.specs.Text.{end_by, decoded_by}
use Rattle.enc_text_decoder.specs.Ended.{terminated}
use Rattle.enc_text_decoder.proofs.Found.{found-terminated}
use Rattle.type_book.specs.Book.{size_of}
use Rattle.type_category.specs.Category.{category_of}
use Rattle.time_types.specs.Counts.{count_width}
use Rattle.de_leaves.specs.declared.leaf.LeafKind.TheVariants as kind
use Rattle.de_leaves.specs.Leaf.{kind_of_leaf, decoder_of, text_leaf, kind_leaf, leaf_by, leaf_at}
use Rattle.de_output.specs.Trace.{text, one}
use Rattle.de_leaf_output.specs.Leaves.{ends_at, end_byte, trace_of}

-- byte 1 of a text is 0 or 1
pub end-small : (e : TextEnd) → end_byte e ≤ 1
end-small (Terminated n) = omega arith
end-small (Unterminated n) = omega arith

module _ (book : List ℕ) (width named t : ℕ) (mem : List ℕ) (as-text : kind_of_leaf (category_of book width t) ≡ kind.Text) (no-count : count_width book t (category_of book width t) ≡ 0) (size : length mem ≡ size_of book t) where
  byte-is : end_byte (end_by (decoder_of book t) mem) ≡ truth_number (terminated (decoder_of book t) mem)
  byte-is = ap truth_number (found-terminated (decoder_of book t) mem)

  pub text_trace : trace_of named (leaf_at book width t mem) mem
      ≡ one (text (truth_number (terminated (decoder_of book t) mem)) named (decoded_by (decoder_of book t) (take (ends_at (end_by (decoder_of book t) mem)) mem)))
  unfolding leaf_at leaf_by kind_leaf text_leaf
  text_trace = rw (no-count, as-text, eq-eqb (length mem) (size_of book t) size, byte-is)
