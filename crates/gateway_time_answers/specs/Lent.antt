-- The parts of a time in a lent array. Assumes nothing.
use Rattle.std.specs.Prelude.{List, ℕ, get_or}
use Rattle.time_parts.specs.declared.Parts.{Parts}

-- year, month, day, hour, minute, second and nanosecond; what the array doesn't have is 0
unfoldable pub lent_parts : List ℕ → Parts
lent_parts ns = record {
  year = get_or ns 0 0;
  month = get_or ns 1 0;
  day = get_or ns 2 0;
  hour = get_or ns 3 0;
  minute = get_or ns 4 0;
  second = get_or ns 5 0;
  nanosecond = get_or ns 6 0;
}
