-- `put_codes` meets its contract: ASCII at the start is its own encoding. Assumes nothing.
use Rattle.enc_windows_1252_encoder.proofs.Prefixes.{prefix_counted}
use Rattle.enc_windows_1252_encoder.proofs.Encoders.{begins-left, begins-done, begins-never}
use Rattle.enc_windows_1252_encoder.proofs.put_codes.Goals as goal

pub slice_bounds-copy-end : goal.slice_bounds-copy-end
slice_bounds-copy-end c = search prefix_counted

pub put_from-requires : goal.put_from-requires
put_from-requires c = search begins-left

pub returns-in-Some : goal.returns-in-Some
returns-in-Some c = search begins-done

pub returns-in-None : goal.returns-in-None
returns-in-None c = search begins-never
