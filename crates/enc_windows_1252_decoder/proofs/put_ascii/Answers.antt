-- `put_ascii` meets its contract: ASCII is its own text. Assumes nothing.
use Rattle.enc_windows_1252_decoder.proofs.Decoders.{block-copied}
use Rattle.enc_windows_1252_decoder.proofs.put_ascii.Goals as goal

pub returns-in-Some : goal.returns-in-Some
returns-in-Some c = search block-copied
