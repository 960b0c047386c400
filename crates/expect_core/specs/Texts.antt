-- The texts of errors, spawn ids and the line of a `spawn`.
use Rattle.std.specs.Prelude.{ℕ, ◌+◌, List, [], ◌∷◌, ◌++◌, codes, Bool, if◌then◌else◌}
use Rattle.std.specs.List.{flat_map}
use Rattle.std.specs.Fmt.{decimal}
use Rattle.tcl_words.specs.Bytes as ascii
use Rattle.child_events.specs.declared.event.Cause.{Cause}
use Rattle.child_events.specs.declared.event.Cause.TheVariants as cause
use Rattle.child_events.specs.Log.{cause_text}
use Rattle.tcl_results.specs.Texts.{quoted}

-- The spawn id of the child at a place.
abbrev pub id_at : ℕ → List ℕ
id_at i = codes "exp" ++ decimal (i + 1)

-- Words, each with a space before it.
abbrev pub spaced : List (List ℕ) → List ℕ
spaced words = flat_map (λ w. ascii.space ∷ w) words

-- The line that a `spawn` writes to the transcript: the flags that are shown, and the words.
abbrev pub spawn_line : List (List ℕ) → List (List ℕ) → List ℕ
spawn_line shown words = codes "spawn" ++ spaced shown ++ spaced words ++ ascii.carriage_return ∷ ascii.newline ∷ []

-- A text followed by a cause.
abbrev pub with_cause : List ℕ → Cause → List ℕ
with_cause front c = front ++ codes ": " ++ cause_text c

abbrev pub program_of : List (List ℕ) → List ℕ
program_of [] = []
program_of (program ∷ args) = program

abbrev pub not_executed : List (List ℕ) → Cause → List ℕ
not_executed words c = with_cause (quoted (codes "couldn't execute ") (program_of words)) c

abbrev pub too_many : List ℕ
too_many = codes "too many spawned children"

abbrev pub bad_stty : List ℕ → List ℕ
bad_stty word = quoted (codes "bad stty_init word ") word

abbrev pub no_such_id : List ℕ → List ℕ
no_such_id id = quoted (codes "no such spawn id ") id

abbrev pub not_open : List ℕ → List ℕ
not_open id = codes "spawn id " ++ id ++ codes " not open"

abbrev pub waited_for : List ℕ → List ℕ
waited_for id = codes "spawn id " ++ id ++ codes " already waited for"

abbrev pub bad_size : List ℕ → List ℕ
bad_size text = quoted (codes "bad match_max size ") text

abbrev pub bad_removal : List ℕ → List ℕ
bad_removal text = quoted (codes "bad remove_nulls value ") text

-- The text of a truth value.
abbrev pub bit : Bool → List ℕ
bit on = if on then codes "1" else codes "0"

abbrev pub bad_expect_flag : List ℕ → List ℕ
bad_expect_flag word = quoted (codes "bad expect flag ") word

abbrev pub bad_regular : List ℕ → List ℕ
bad_regular pattern = quoted (codes "bad regular expression ") pattern

-- The error number of a cause: that of ENOENT, EACCES, EPIPE, ENOMEM or EIO on Linux.
abbrev pub number_of_cause : Cause → ℕ
number_of_cause cause.NotFound = 2
number_of_cause cause.Denied = 13
number_of_cause cause.Broken = 32
number_of_cause cause.Memory = 12
number_of_cause cause.Other = 5
