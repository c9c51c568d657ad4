-- The library's version. Assumes nothing.
use Rattle.std.specs.Prelude.{ℕ, ◌+◌, ◌*◌}

-- 0.2.0, each part in two hexadecimal digits
abbrev pub version : ℕ
version = 0 * 65536 + 2 * 256 + 0
