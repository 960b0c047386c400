-- A time in seconds, as recordings write it: a decimal number, possibly with a fraction and an exponent.
use Rattle.std.specs.Prelude.{ℕ, ◌+◌, ◌-◌, nat_le, List, ◌++◌, take, replicate, length, ◌&&◌, ◌==◌, if◌then◌else◌, Option, Some, None}
use Rattle.fast_float.specs.Text.{Parts, scan, has_digits}
use Rattle.child_events.specs.Reading.{digits_number}
use Rattle.tcl_words.specs.Bytes as ascii

-- The first `place` digits, padded with zeros.
abbrev pub padded : ℕ → List ℕ → List ℕ
padded place digits = take place digits ++ replicate (place - length digits) ascii.digit_0

-- The number that at most sixteen digits write.
abbrev pub short_number : List ℕ → Option ℕ
short_number digits = if nat_le (length digits) 16 then digits_number digits else None

-- The position of the decimal point after the exponent has moved it, plus six places.
abbrev pub place_of : Parts → ℕ → ℕ
place_of p e = if p.exponent_negative then length p.whole + 6 - e else length p.whole + 6 + e

abbrev pub micros_with : Parts → Option ℕ → Option ℕ
micros_with p None = None
micros_with p (Some e) = short_number (padded (place_of p e) (p.whole ++ p.fraction))

-- The microseconds of a number of seconds. Further digits are dropped. At most 9,999,999,999,999,999 microseconds.
abbrev pub micros_of : List ℕ → Option ℕ
micros_of text = if has_digits (scan text) && ((scan text).len == length text) then micros_with (scan text) (short_number (scan text).exponent) else None
