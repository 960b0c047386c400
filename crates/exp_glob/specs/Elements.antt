-- Reads a glob pattern, by the rules of `string match` in Tcl(n), with `^` and `$` as in expect(1). A `[` without a
-- later `]` and a backslash at the end stand for themselves. A class ends at its first `]`.
use Rattle.std.specs.Prelude.{ℕ, zero, suc, ◌+◌, true, false, ◌==◌, if◌then◌else◌, List, [], ◌∷◌, take, Option, Some, None, position}
use Rattle.tcl_words.specs.Bytes as ascii
use Rattle.exp_glob.specs.declared.element.Element.{Element}
use Rattle.exp_glob.specs.declared.element.Element.TheVariants.{Star, One, End}
use Rattle.exp_glob.specs.declared.element.Single.TheVariants.{Any, Byte, Class}
use Rattle.exp_glob.specs.declared.pattern.Glob.{Glob}

-- The element that a `[` begins. `Some n` is the index of the first `]` in the bytes after it.
abbrev pub class_or_bracket : List ℕ → Option ℕ → Element × ℕ
class_or_bracket rest (Some n) = (One (Class (take n rest)), n + 1)
class_or_bracket rest None = (One (Byte ascii.open_bracket), 0)

-- The element that a backslash begins.
abbrev pub escaped : List ℕ → Element × ℕ
escaped [] = (One (Byte ascii.backslash), 0)
escaped (b ∷ rest) = (One (Byte b), 1)

-- The element of a `$`.
abbrev pub dollar : List ℕ → Element × ℕ
dollar [] = (End, 0)
dollar (b ∷ rest) = (One (Byte ascii.dollar), 0)

-- The element that a byte begins, and the number of later bytes that belong to it.
unfoldable pub element_at : ℕ → List ℕ → Element × ℕ
element_at b rest =
    if b == ascii.star then (Star, 0)
    else (if b == ascii.question then (One Any, 0)
    else (if b == ascii.open_bracket then class_or_bracket rest (position (λ c. c == ascii.close_bracket) rest)
    else (if b == ascii.backslash then escaped rest
    else (if b == ascii.dollar then dollar rest
    else (One (Byte b), 0)))))

-- The elements that begin at index k or later.
abbrev pub elements_from : List ℕ → ℕ → List Element
elements_from [] k = []
elements_from (b ∷ bytes) zero = (element_at b bytes).0 ∷ elements_from bytes (element_at b bytes).1
elements_from (b ∷ bytes) (suc k) = elements_from bytes k

abbrev pub elements_of : List ℕ → List Element
elements_of bytes = elements_from bytes 0

-- A pattern. A `^` at its start makes it anchored.
abbrev pub glob_of : List ℕ → Glob
glob_of [] = record { anchored = false; elements = [] }
glob_of (b ∷ bytes) =
    if b == ascii.caret then record { anchored = true; elements = elements_of bytes }
    else record { anchored = false; elements = elements_of (b ∷ bytes) }
