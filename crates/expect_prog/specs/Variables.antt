-- The variables of scripts at the start: names with values, in order. If a name occurs twice, the last value counts.
use Rattle.std.specs.Prelude.{◌≡◌, ℕ, ◌+◌, ◌<◌, ◌==◌, Bool, false, not, ◌&&◌, IsTrue, List, [], ◌∷◌, ◌++◌, length, take, drop, map, position, find, bytes_eq, codes, Option, None, Some, unwrap_or, if◌then◌else◌}
use Rattle.std.specs.List.{flat_map, list_any}
use Rattle.std.specs.Borrow.{Bor}
use Rattle.std.specs.Fmt.{decimal}
use Rattle.tcl_words.specs.Bytes as ascii
use Rattle.tcl_words.specs.Lists.{written}
use Rattle.command_line.specs.declared.order.Alone.{Alone}
use Rattle.command_line.specs.declared.order.Variables.{Variables as VariablesOf}
use Rattle.command_line.specs.Given.{names_of}
use Rattle.expect_prog.specs.declared.complaint.Complaint.{Complaint}
use Rattle.expect_prog.specs.declared.complaint.Complaint.TheVariants as line

abbrev pub Variables : Type 0
Variables = List (List ℕ × List ℕ)

-- The index of the first `=`.
abbrev pub equals_in : List ℕ → Option ℕ
equals_in word = position (λ c. c == ascii.equals) word

-- The variable that NAME=VALUE sets, if `=` is at this index and there is a name.
abbrev pub pair_at : List ℕ → ℕ → Variables
pair_at word n = if n == 0 then [] else (take n word, drop (n + 1) word) ∷ []

abbrev pub entry_at : List ℕ → Option ℕ → Variables
entry_at entry None = []
entry_at entry (Some n) = pair_at entry n

-- exprun's own variables: the entries NAME=VALUE of its environment.
abbrev pub own_variables : List (List ℕ) → Variables
own_variables entries = flat_map (λ e. entry_at e (equals_in e)) entries

abbrev pub if_named : List ℕ → List ℕ × List ℕ → Variables
if_named name p = if bytes_eq p.0 name then p ∷ [] else []

abbrev pub word_at : Variables → List ℕ → Option ℕ → Variables
word_at own word None = flat_map (if_named word) own
word_at own word (Some n) = pair_at word n

-- What a word of the command line adds: NAME=VALUE, or exprun's own variable NAME, if it is set.
abbrev pub added : Variables → List ℕ → Variables
added own word = word_at own word (equals_in word)

-- All of exprun's own variables, if requested, and then those of each word.
abbrev pub environment_given : Bool → List (Bor (List ℕ)) → List (List ℕ) → Variables
environment_given all words entries = (if all then own_variables entries else []) ++ flat_map (λ w. added (own_variables entries) w.now) words

-- An element of `env`.
abbrev pub in_env : List ℕ × List ℕ → List ℕ × List ℕ
in_env p = (codes "env(" ++ p.0 ++ codes ")", p.1)

-- The elements of `env` at the start.
abbrev pub elements_given : VariablesOf → List (List ℕ) → Variables
elements_given v entries = map in_env (environment_given v.all v.env.items entries)

-- The variables that words of `--set` set.
abbrev pub sets_given : List (Bor (List ℕ)) → Variables
sets_given words = flat_map (λ w. entry_at w.now (equals_in w.now)) words

-- The elements of `env`, and then the variables of `--set`.
abbrev pub variables_given : VariablesOf → List (List ℕ) → Variables
variables_given v entries = elements_given v entries ++ sets_given v.sets.items

-- What a command finds in its words (tclsh(1)): its file, the list of its arguments, and how many they are.
abbrev pub arguments : List ℕ → List (List ℕ) → Variables
arguments file args = (codes "argv0", file) ∷ (codes "argv", written args) ∷ (codes "argc", decimal (length args)) ∷ []

-- The variables of a script that is run as a command: the elements of `env`, its arguments, and those of `--set`.
abbrev pub alone_given : List ℕ → List (List ℕ) → VariablesOf → List (List ℕ) → Variables
alone_given file args v entries = elements_given v entries ++ arguments file args ++ sets_given v.sets.items

-- These variables were requested. The entries of exprun's own environment were read where that was needed.
pub record AreGiven (holds : List (List ℕ) → Type 0) (asked : VariablesOf) (vars : Variables) : Type 0 where
  pub entries : List (List ℕ)
  pub whole : IsTrue asked.all → holds entries
  pub named : 0 < length asked.env.items → holds entries
  pub given : vars ≡ variables_given asked entries

-- A script that is run as a command has these variables. The entries of exprun's own environment were read where that
-- was needed.
pub record AreAlone (holds : List (List ℕ) → Type 0) (order : Alone) (vars : Variables) : Type 0 where
  pub entries : List (List ℕ)
  pub whole : IsTrue order.variables.all → holds entries
  pub named : 0 < length order.variables.env.items → holds entries
  pub given : vars ≡ alone_given order.source.now (names_of order.args.items) order.variables entries

-- A name that a variable of a script can get: it is not empty, no element's, and not `env`.
abbrev pub is_settable : List ℕ → Bool
is_settable name = not (bytes_eq name []) && (not (bytes_eq name (codes "env")) && not (list_any (λ c. c == ascii.open_paren) name))

abbrev pub is_set_at : List ℕ → Option ℕ → Bool
is_set_at word None = false
is_set_at word (Some n) = is_settable (take n word)

-- A word of `--set` that sets no variable.
abbrev pub sets_none : Bor (List ℕ) → Bool
sets_none word = not (is_set_at word.now (equals_in word.now))

-- A word of `--env` without a name: nothing stands before its first `=` or its end.
abbrev pub is_unnamed : Bor (List ℕ) → Bool
is_unnamed word = unwrap_or (equals_in word.now) (length word.now) == 0

-- The line for the first word that sets no variable. Those of `--env` come first.
abbrev pub VariablesLine : List (Bor (List ℕ)) → List (Bor (List ℕ)) → Complaint → Type 0
VariablesLine env sets (line.NoName named) = find is_unnamed env ≡ Some named
VariablesLine env sets (line.BadSet named) = (find is_unnamed env ≡ None) × (find sets_none sets ≡ Some named)
VariablesLine env sets line.Memory = Unit {0}
VariablesLine env sets c = ⊥
