use mathlib.Core.Path.{◌∙◌}
use Rattle.std.proofs.Common.{rules, tests}
use Rattle.std.proofs.lemmas.Iterator.{YieldsList-from_slice}
use Rattle.std.proofs.lemmas.Iterator.Search.{all_from_yields_List}
use Rattle.type_block_form.specs.Form.{is_printable}
use Rattle.type_block_form.proofs.Bytes.{every_all}
use Rattle.type_block_form.proofs.all_printable.Goals as goal

pub returns : goal.returns
returns c = all_from_yields_List is_printable _ _ _ c.all.ensures.ran (YieldsList-from_slice c.args.part.now cc) (λ x b q k. search (rules, tests)) ∙ every_all is_printable c.args.part.now
