-- `enc_utf_16_decoder::decode` meets its contract: an empty text, a place past the end, a text that fits, and one that does not. Assumes nothing.
use mathlib.Core.Path.{sym, ◌∙◌}
use Prim.Native.Nat.{◌-◌}
use native.Mathlib.Omega.{arith}
use lib.ListN.{length}
use borrow.Author.Tests.{leb-true, eqb-true, eqb-false}
use Rattle.enc_utf_8.specs.Utf8.{utf8_of}
use Rattle.enc_utf_16.specs.Decode.{decode_scalars, decode16_text}
use Rattle.enc_utf_16_scalar.proofs.Decodes.{nothing_left, text-some}
use Rattle.enc_utf_16.proofs.Runs.{write_none, full-past, full_at}
use Rattle.enc_utf_16_decoder.proofs.decode.Goals as goal

pub returns-then-is_empty : goal.returns-then-is_empty
returns-then-is_empty c = write_none decode_scalars utf8_of nothing_left _ _ _ (eqb-true _ _ (sym c.is_empty.ensures ∙ c.if-is_empty.true))

pub returns-then-out-at : goal.returns-then-out-at
returns-then-out-at c = full-past _ _ _ (text-some _ (eqb-false _ _ (sym c.is_empty.ensures ∙ c.if-is_empty.false))) c.if-out-at.true

pub write_8-requires : goal.write_8-requires
write_8-requires c = let told = c.before.before in
    let entry = told.before.before.before.before.before in
    let size = length (decode16_text entry.args.bytes.now) in
    omega (arith, leb-true size (length entry.args.out.now - entry.args.at) (sym told.fits_in.ensures ∙ c.if-fits_in.true))

pub returns : goal.returns
returns c = search full_at
