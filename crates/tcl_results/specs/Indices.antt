-- Indexes of lists and strings (string(n)): a number from 0, `end`, or one of them plus or minus a number.
use Rattle.std.specs.Prelude.{ℕ, ◌+◌, ◌==◌, ◌||◌, Bool, List, [], ◌∷◌, drop, take, codes, position, slice_get, unwrap_or, Option, Some, None, option_map, option_and_then, Ok, Err, ℤ, pos, negsuc, ◌+ℤ◌, ◌-ℤ◌, if◌then◌else◌}
use Rattle.std.specs.Str.{bytes_eq}
use Rattle.tcl_words.specs.Bytes as ascii
use Rattle.tcl_expr.specs.Number.{number_of}
use Rattle.tcl_expr.specs.Value.{is_within}
use Rattle.tcl_results.specs.Texts.{bad_index}
use Rattle.tcl_results.specs.Said.{Said}

-- The position of the last of `count` items.
abbrev pub last : ℕ → ℤ
last count = pos count -ℤ pos 1

abbrev pub is_sign : ℕ → Bool
is_sign b = b == ascii.plus || b == ascii.minus

-- A position that fits in 64 bits.
abbrev pub within : ℤ → Option ℤ
within z = if is_within z then Some z else None

-- The sum or difference of two numbers.
abbrev pub signed : ℕ → Option ℤ → Option ℤ → Option ℤ
signed sign None b = None
signed sign (Some a) None = None
signed sign (Some a) (Some b) = if sign == ascii.plus then within (a +ℤ b) else within (a -ℤ b)

-- The sum or difference of a number and the one after a sign.
abbrev pub signed_by : List ℕ → List ℕ → Option ℤ
signed_by first [] = None
signed_by first (sign ∷ second) = signed sign (number_of first) (number_of second)

-- A number, or two with a sign between them. k bytes stand between the first byte and the sign.
abbrev pub one_or_two : Option ℕ → List ℕ → Option ℤ
one_or_two None text = number_of text
one_or_two (Some k) text = signed_by (take (k + 1) text) (drop (k + 1) text)

-- The position that an index denotes, given the position of `end`. It may be out of range.
abbrev pub place_of : ℤ → List ℕ → Option ℤ
place_of end text =
    if bytes_eq text (codes "end") then Some end
    else if bytes_eq (take 4 text) (codes "end-") then option_map (λ n. end -ℤ n) (number_of (drop 4 text))
    else if bytes_eq (take 4 text) (codes "end+") then option_and_then (λ n. within (end +ℤ n)) (number_of (drop 4 text))
    else one_or_two (position is_sign (drop 1 text)) text

abbrev pub some_place : List ℕ → Option ℤ → Said ℤ
some_place text None = Err (bad_index text)
some_place text (Some z) = Ok z

abbrev pub index_by : ℤ → List ℕ → Said ℤ
index_by end text = some_place text (place_of end text)

-- The position that an index denotes among `count` items. `end` is the last item.
abbrev pub index_of : ℕ → List ℕ → Said ℤ
index_of count text = index_by (last count) text

-- How many items come before a position.
abbrev pub before : ℤ → ℕ
before (pos n) = n
before (negsuc n) = 0

-- How many items come up to a position, inclusive.
abbrev pub up_to : ℤ → ℕ
up_to (pos n) = n + 1
up_to (negsuc n) = 0

module _ {X : Type 0} where
  -- The item at a position.
  abbrev pub at_place : ℤ → List X → Option X
  at_place (pos n) xs = slice_get xs n
  at_place (negsuc n) xs = None

  -- The items from one position to another, inclusive.
  abbrev pub between : ℤ → ℤ → List X → List X
  between from to xs = drop (before from) (take (up_to to) xs)

-- The element at a position, or an empty text if there is none.
abbrev pub element_at : ℤ → List (List ℕ) → List ℕ
element_at place es = unwrap_or (at_place place es) []
