-- How much of a pattern's front matches in what a child wrote.
use Rattle.std.specs.Prelude.{ℕ, zero, suc, List, [], map, take, length, is_some, Bool, false, if◌then◌else◌}
use Rattle.exp_glob.specs.declared.element.Element.{Element}
use Rattle.exp_glob.specs.declared.element.Element.TheVariants.{One}
use Rattle.exp_glob.specs.declared.element.Single.TheVariants.{Byte}
use Rattle.exp_glob.specs.declared.pattern.Glob.{Glob}
use Rattle.exp_glob.specs.Elements.{glob_of}
use Rattle.exp_glob.specs.Search.{first_span}
use Rattle.exp_match.specs.declared.entry.Want.{Want}
use Rattle.exp_match.specs.declared.entry.Want.TheVariants as want
use Rattle.course_texts.specs.Patterns.{elements_text, glob_text}

-- The glob pattern matches in the bytes.
abbrev pub is_found : List ℕ → Bool → List ℕ → Bool
is_found pattern nocase bytes = is_some (first_span (glob_of pattern) nocase bytes)

-- The greatest number of elements, up to n, whose pattern matches in the bytes.
abbrev pub most_found : Bool → List Element → Bool → List ℕ → ℕ → ℕ
most_found anchored es nocase bytes zero = zero
most_found anchored es nocase bytes (suc n) =
    if is_found (glob_text anchored (take (suc n) es)) nocase bytes then suc n
    else most_found anchored es nocase bytes n

abbrev pub exact_elements : List ℕ → List Element
exact_elements text = map (λ b. One (Byte b)) text

-- The longest front of an exact pattern that stands in the bytes, of its first 200 bytes.
unfoldable pub exact_front : List ℕ → Bool → List ℕ → List ℕ
exact_front text nocase bytes =
    let es = exact_elements (take 200 text) in
    take (most_found false es nocase bytes (length es)) text

-- The longest front of a glob pattern that matches in the bytes, of its first 200 elements.
unfoldable pub glob_front : Glob → Bool → List ℕ → List ℕ
glob_front g nocase bytes =
    let es = take 200 g.elements in
    elements_text (take (most_found g.anchored es nocase bytes (length es)) es)

abbrev pub front_of : Want → List ℕ → List ℕ
front_of (want.Exact text nocase) bytes = exact_front text nocase bytes
front_of (want.Glob g nocase) bytes = glob_front g nocase bytes
front_of (want.Regular r) bytes = []
front_of (want.Keyword k) bytes = []
