-- The meaning of the words of the command line.
use Rattle.std.specs.Prelude.{◌≡◌, ℕ, List, [], ◌∷◌, length, map, is_some, Option, Some, None, unwrap_or, option_map, codes, Bool, true, false, not, ◌&&◌, ◌==◌, if◌then◌else◌}
use Rattle.std.specs.Str.{bytes_eq}
use Rattle.std.specs.Borrow.{Bor}
use Rattle.clap.specs.Matches.{found_of, first_value, matched_of, one_text, raw_values}
use Rattle.clap.specs.declared.parser.matches.ArgMatches.{ArgMatches}
use Rattle.command_line.specs.declared.order.Scripts.{Scripts}
use Rattle.report_texts.specs.declared.form.Format.{Format}
use Rattle.report_texts.specs.declared.form.Format.TheVariants.{Text, Bare, Escaped, Summary, Json, JsonLines, Tap}

-- The number of steps given, or a million.
abbrev pub steps_given : Option ℕ → ℕ
steps_given asked = unwrap_or asked 1000000

-- The number of steps given for a script that is run as a command, or a million times a million.
abbrev pub alone_steps_given : Option ℕ → ℕ
alone_steps_given asked = unwrap_or asked 1000000000000

-- The grace period given, in seconds, or two seconds.
abbrev pub grace_seconds : Option ℕ → ℕ
grace_seconds asked = unwrap_or asked 2

abbrev pub names_of : List (Bor (List ℕ)) → List (List ℕ)
names_of files = map (λ file. file.now) files

-- The words of files, or of an option that may be repeated, in the order of the command line.
abbrev pub words_told : List ℕ → ArgMatches → List (List ℕ)
words_told name matches = unwrap_or (option_map raw_values (matched_of (found_of matches) name)) []

-- The files of sources.
abbrev pub files_told : ArgMatches → List (List ℕ)
files_told matches = words_told (codes "sources") matches

-- The words of `--env`.
abbrev pub env_told : ArgMatches → List (List ℕ)
env_told matches = words_told (codes "env") matches

-- The words of `--set`.
abbrev pub sets_told : ArgMatches → List (List ℕ)
sets_told matches = words_told (codes "set") matches

-- The words of `--secret`.
abbrev pub secrets_told : ArgMatches → List (List ℕ)
secrets_told matches = words_told (codes "secret") matches

-- The word of `--each`.
abbrev pub each_told : ArgMatches → Option (List ℕ)
each_told matches = first_value (found_of matches) (codes "each")

-- An option without a value was given, or not.
abbrev pub IsFlag : List ℕ → ArgMatches → Bool → Type 0
IsFlag name matches on = (one_text (found_of matches) name ≡ Some (codes "true") → on ≡ true) × (one_text (found_of matches) name ≡ None → on ≡ false)

-- The arguments of a script that is run as a command.
abbrev pub args_told : ArgMatches → List (List ℕ)
args_told matches = words_told (codes "args") matches

abbrev pub is_none : List (Bor (List ℕ)) → Bool
is_none [] = true
is_none (w ∷ ws) = false

-- Such a script gets all of exprun's own environment, unless `--env-none` or a word of `--env` is given.
abbrev pub all_taken : Bool → List (Bor (List ℕ)) → Bool
all_taken none named = not none && is_none named

abbrev pub format_named : List ℕ → Format
format_named name = if bytes_eq name (codes "json") then Json else if bytes_eq name (codes "jsonl") then JsonLines else if bytes_eq name (codes "tap") then Tap else Text

-- The format: a summary or escaped text if requested, otherwise the named format, or whole reports.
abbrev pub format_given : Bool → Bool → Option (List ℕ) → Format
format_given summary escape name = if summary then Summary else if escape then Escaped else unwrap_or (option_map format_named name) Text

-- The lines of programs on standard error are labelled. True only for that word.
abbrev pub labels_given : Option (List ℕ) → Bool
labels_given word = unwrap_or (option_map (λ w. bytes_eq w (codes "label")) word) false

-- The format of whole reports whose transcripts were already shown. Other formats are unchanged.
abbrev pub format_behind_shown : Format → Format
format_behind_shown Text = Bare
format_behind_shown Bare = Bare
format_behind_shown Escaped = Escaped
format_behind_shown Summary = Summary
format_behind_shown Json = Json
format_behind_shown JsonLines = JsonLines
format_behind_shown Tap = Tap

-- There is a single script: one file, and no list on whose rows it runs.
abbrev pub is_single : Scripts → Bool
is_single scripts = (length scripts.sources.items == 1) && not (is_some scripts.each)

-- The format of the reports. If a single script is followed on the terminal of the reports, its
-- transcript is shown once, unless a format was named.
abbrev pub format_on_terminal : Bool → Bool → Bool → Bool → Format → Format
format_on_terminal one follow single named format = if one && (follow && (single && not named)) then format_behind_shown format else format

-- The file whose lines may be bad: the timing file if there is one, otherwise the timeline.
abbrev pub file_of_lines : Bor (List ℕ) → Option (Bor (List ℕ)) → Bor (List ℕ)
file_of_lines timeline None = timeline
file_of_lines timeline (Some timing) = timing
