-- The arguments of `expect`, `expect_before` and `expect_after`.
use Rattle.std.specs.Prelude.{ℕ, Bool, true, false, not, ◌==◌, ◌&&◌, List, [], ◌∷◌, ◌++◌, take, codes, slice_index_or, Option, Some, None, option_map, option_and_then, unwrap_or, Result, Ok, Err, if◌then◌else◌}
use Rattle.exp_match.specs.declared.faults.PatternFault.{PatternFault}
use Rattle.exp_match.specs.declared.faults.PatternFault.TheVariants as fault
use Rattle.exp_match.specs.declared.list.PatternList.{PatternList}
use Rattle.exp_match.specs.Arguments.{patterns_of}
use Rattle.command_table.specs.Commands.{takes_patterns}
use Rattle.tcl_words.specs.Bytes as ascii
use Rattle.tcl_words.specs.Lists.{is_white}
use Rattle.script_check.specs.declared.span.Span.{Span}
use Rattle.script_check.specs.declared.placed.Placed.{Placed}
use Rattle.script_check.specs.declared.problem.Finding.{Finding}
use Rattle.script_check.specs.declared.problem.Problem.{Problem}
use Rattle.script_check.specs.declared.problem.Problem.TheVariants.{Malformed as Broken, BadExpectFlag, BadRegular}
use Rattle.script_check.specs.declared.readings.Reading.{Reading}
use Rattle.script_check.specs.declared.readings.Reading.TheVariants.{Command, Malformed}
use Rattle.script_check.specs.Stretches.{part, inside, begins_with}
use Rattle.script_check.specs.Readings.{readings_in}

-- The words, if all are literal.
abbrev pub plain_texts : List Placed → Option (List (List ℕ))
plain_texts [] = Some []
plain_texts (w ∷ ws) = option_and_then (λ text. option_map (λ texts. text ∷ texts) (plain_texts ws)) w.value

abbrev pub by_patterns : List (List ℕ) → Result PatternList PatternFault → Option Problem
by_patterns texts (Ok list) = None
by_patterns texts (Err (fault.BadFlag at)) = Some (BadExpectFlag (slice_index_or texts at []))
by_patterns texts (Err (fault.BadRegex at)) = Some (BadRegular (slice_index_or texts at []))
by_patterns texts (Err fault.Refused) = None
by_patterns texts (Err fault.Memory) = None

-- The first argument that exp_match accepts neither as a flag nor as a pattern or keyword, if all are literal.
abbrev pub expect_fault : List Placed → Option Problem
expect_fault args = option_and_then (λ texts. by_patterns texts (patterns_of texts)) (plain_texts args)

-- A single argument that is the list of all arguments, given as the range of its words. Only an argument in braces
-- stands in the source as it is.

abbrev pub is_braced : List ℕ → Placed → Bool
is_braced source w = not w.expand && begins_with ascii.open_brace (part source w.span)

abbrev pub list_span : List ℕ → Placed → Span
list_span source w = if is_braced source w then inside w.span else record { from = 0; to = 0 }

-- The argument has a newline before its first byte that isn't white space.
abbrev pub is_list : List ℕ → Bool
is_list [] = false
is_list (b ∷ bs) = if b == ascii.newline then true else if is_white b then is_list bs else false

abbrev pub is_listing : Option (List ℕ) → Bool
is_listing value = is_list (unwrap_or value [])

-- The word names a command whose arguments are patterns with actions.
abbrev pub names_patterns : Option (List ℕ) → Bool
names_patterns value = takes_patterns (unwrap_or value [])

abbrev pub list_of : List ℕ → List Placed → Option Span
list_of source [] = None
list_of source (name ∷ []) = None
list_of source (name ∷ w ∷ []) = if names_patterns name.value && is_listing w.value then Some (list_span source w) else None
list_of source (name ∷ w ∷ other ∷ more) = None

-- The words of all commands, up to a malformed one, which becomes a finding.
abbrev pub gathered : List Reading → List Placed × Option Finding
gathered [] = ([], None)
gathered (Malformed at f ∷ rs) = ([], Some (record { at = at; what = Broken f }))
gathered (Command at words ∷ rs) = (words ++ (gathered rs).0, (gathered rs).1)

-- The words of a command. Such a list is replaced by its words.
abbrev pub spread_by : List ℕ → List Placed → Option Span → List Placed × Option Finding
spread_by source words None = (words, None)
spread_by source words (Some s) = (take 1 words ++ (gathered (readings_in source s)).0, (gathered (readings_in source s)).1)
