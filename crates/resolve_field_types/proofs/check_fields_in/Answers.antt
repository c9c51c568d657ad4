-- `check_fields_in` meets its contract. Assumes nothing.
use Rattle.resolve_field_types.proofs.Fields.{fields-check}
use Rattle.resolve_field_types.proofs.Numbers.{check-says}
use Rattle.resolve_field_types.proofs.check_fields_in.Goals as goal

pub returns : goal.returns
returns c = check-says _ _ (search fields-check)
