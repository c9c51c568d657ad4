use Rattle.type_names.proofs.Texts.{starts-short, starts-whole}
use Rattle.type_names.proofs.text.starts_with.Goals as goal

pub returns-then-name-start : goal.returns-then-name-start
returns-then-name-start c = search starts-short

pub returns : goal.returns
returns c = search starts-whole
