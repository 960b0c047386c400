-- Searches in lists (lsearch(n)).
use Rattle.std.specs.Prelude.{◌≡◌, ℕ, ◌+◌, Bool, true, false, not, List, [], ◌∷◌, length, drop, filter, map, Option, Some, None, unwrap_or, slice_get, min, Ok, if◌then◌else◌}
use Rattle.std.specs.List.{position_from}
use Rattle.tcl_words.specs.Lists.{written}
use Rattle.exp_glob.specs.Whole.{matches, whole_of}
use Rattle.exp_match.specs.Written.{Written, finds}
use Rattle.command_table.specs.declared.switches.Switches.TheVariants.{Search}
use Rattle.tcl_lists.specs.declared.searching.Test.{Test}
use Rattle.tcl_lists.specs.declared.searching.Test.TheVariants as test
use Rattle.tcl_results.specs.declared.switches.Given.{Given}
use Rattle.tcl_results.specs.declared.ways.Way.{Way}
use Rattle.tcl_results.specs.declared.ways.Way.TheVariants as ways
use Rattle.tcl_results.specs.Cases.{are_same}
use Rattle.tcl_results.specs.Given.{arg}
use Rattle.tcl_results.specs.Indices.{index_of, before}
use Rattle.tcl_results.specs.Ways.{pattern_of}
use Rattle.tcl_results.specs.Values.{count_text, place_text}
use Rattle.tcl_results.specs.Switches.{flags_of}
use Rattle.tcl_results.specs.Said.{Said, ◌>>=◌, limited, list_of}

-- An element matches the pattern: it is equal, a glob matches the whole element, or a regular pattern matches in it.
abbrev pub fits_by : Way → Bool → List ℕ → List ℕ → Bool
fits_by ways.Exact nocase pattern e = are_same nocase e pattern
fits_by ways.Glob nocase pattern e = matches nocase pattern e
fits_by ways.Regular nocase pattern e = finds (record { source = pattern; nocase = nocase; lines = false }) e

abbrev pub fits_pattern : Given → List ℕ → List ℕ → Bool
fits_pattern g pattern e = fits_by g.way g.nocase pattern e

-- The search accepts an element. `-not` inverts the match.
abbrev pub is_sought : Given → List ℕ → List ℕ → Bool
is_sought g pattern e = if g.not then not (fits_pattern g pattern e) else fits_pattern g pattern e

-- The indexes of the elements that pass a test. The first element has index n.
abbrev pub places_from : (List ℕ → Bool) → ℕ → List (List ℕ) → List ℕ
places_from test n [] = []
places_from test n (e ∷ es) = if test e then n ∷ places_from test (n + 1) es else places_from test (n + 1) es

-- The first element that passes a test, or its index.
abbrev pub first_found : Bool → Option ℕ → List (List ℕ) → List ℕ
first_found true None es = []
first_found true (Some n) es = unwrap_or (slice_get es n) []
first_found false place es = place_text place

-- The elements from an index on that pass a test, or their indexes.
abbrev pub all_found : Bool → (List ℕ → Bool) → ℕ → List (List ℕ) → Said (List ℕ)
all_found true test from es = limited (written (filter test (drop from es)))
all_found false test from es = limited (written (map count_text (places_from test from (drop from es))))

-- The result of the search from an index on.
abbrev pub found : Given → (List ℕ → Bool) → ℕ → List (List ℕ) → Said (List ℕ)
found g test from es = if g.all then all_found g.inline test from es else Ok (first_found g.inline (position_from test from (drop from es)) es)

-- The same for a pattern. A regular pattern is read first.
abbrev pub found_by : Way → Given → List ℕ → ℕ → List (List ℕ) → Said (List ℕ)
found_by ways.Regular g pattern from es = pattern_of g.nocase false pattern >>= λ w. found g (is_sought g pattern) from es
found_by other g pattern from es = found g (is_sought g pattern) from es

-- The index at which a search begins. The value of `-start` is the argument at index n.
abbrev pub start_of : Option ℕ → List (List ℕ) → ℕ → Said ℕ
start_of None args count = Ok 0
start_of (Some n) args count = index_of count (arg n args) >>= λ z. Ok (min (before z) count)

abbrev pub searched : Given → List (List ℕ) → List ℕ → List ℕ → Said (List ℕ)
searched g args l pattern = list_of l >>= λ es. start_of g.start args (length es) >>= λ from. found_by g.way g pattern from es

-- lsearch ?-exact|-glob|-regexp? ?-all? ?-inline? ?-not? ?-nocase? ?-start index? list pattern
abbrev pub lsearch : List ℕ → List (List ℕ) → Said (List ℕ)
lsearch command args = flags_of Search 2 command args >>= λ p. searched p.0 args (arg 0 (drop p.1 args)) (arg 1 (drop p.1 args))

-- What the code tests elements with.
abbrev pub IsTestOf : Given → List ℕ → Test → Type 0
IsTestOf g pattern test.Exact = g.way ≡ ways.Exact
IsTestOf g pattern (test.Glob glob) = (g.way ≡ ways.Glob) × (glob ≡ whole_of pattern)
IsTestOf g pattern (test.Regular w) = (g.way ≡ ways.Regular) × (w ≡ record { source = pattern; nocase = g.nocase; lines = false })
