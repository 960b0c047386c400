-- The arguments of a command: its flags, followed by as many words as its row of the table allows.
use Rattle.std.specs.Prelude.{ℕ, List, [], ◌∷◌, ◌++◌, length, codes, true, false, if◌then◌else◌, Option, Some, None, Ok, Err}
use Rattle.command_table.specs.declared.commands.ExpectCommand.{ExpectCommand}
use Rattle.command_table.specs.declared.flags.Flags.{Flags as Takes}
use Rattle.command_table.specs.declared.flags.Role.{Role}
use Rattle.command_table.specs.declared.flags.Role.TheVariants.{Word, End, Alone, Id, Choice, Shown, ShownWithValue, Bad}
use Rattle.command_table.specs.Counts.{fits}
use Rattle.command_table.specs.Flags.{flag_role}
use Rattle.command_table.specs.Rows.{expect_row}
use Rattle.tcl_results.specs.Said.{Said, ◌>>=◌}
use Rattle.tcl_results.specs.Texts.{quoted, wrong_args}
use Rattle.expect_core.specs.declared.flags.Flags.{Flags}
use Rattle.expect_core.specs.declared.flags.Due.{Due}
use Rattle.expect_core.specs.declared.flags.Due.TheVariants as due

abbrev pub bad_flag : List ℕ → List ℕ
bad_flag word = quoted (codes "bad flag ") word

abbrev pub no_flags : Flags
no_flags = record { id = None; on = false; choice = None; shown = [] }

-- The flags, and the words after them.
abbrev pub Flagged : Type 0
Flagged = Said (Flags × List (List ℕ))

-- A word more is shown.
abbrev pub showing : List ℕ → Flags → Flags
showing w f = record f { shown = f.shown ++ w ∷ [] }

-- The result by the role of a word. `more` is the result after a flag, by what is due and by the flags.
abbrev pub by_role : Role → Flags → List ℕ → List (List ℕ) → (Due → Flags → Flagged) → Flagged
by_role Word f w ws more = Ok (f, w ∷ ws)
by_role End f w ws more = Ok (f, ws)
by_role Alone f w ws more = more due.None (record f { on = true })
by_role Id f w ws more = more due.Id f
by_role (Choice on) f w ws more = more due.None (record f { choice = Some on })
by_role Shown f w ws more = more due.None (showing w f)
by_role ShownWithValue f w ws more = more due.Shown (showing w f)
by_role Bad f w ws more = Err (bad_flag w)

-- The flags of a command with this name. What is due is the next word: none, the spawn id of an `-i`, or a shown word.
abbrev pub flags_from : List ℕ → Takes → Due → Flags → List (List ℕ) → Flagged
flags_from name takes due.None f [] = Ok (f, [])
flags_from name takes due.None f (w ∷ ws) = by_role (flag_role takes w) f w ws (λ next f. flags_from name takes next f ws)
flags_from name takes due.Id f [] = Err (wrong_args name)
flags_from name takes due.Id f (w ∷ ws) = flags_from name takes due.None (record f { id = Some w }) ws
flags_from name takes due.Shown f [] = Err (wrong_args name)
flags_from name takes due.Shown f (w ∷ ws) = flags_from name takes due.None (showing w f) ws

abbrev pub flags_of : List ℕ → Takes → List (List ℕ) → Flagged
flags_of name takes words = flags_from name takes due.None no_flags words

abbrev pub flags_if : Option Takes → List ℕ → List (List ℕ) → Flagged
flags_if None name words = Ok (no_flags, words)
flags_if (Some takes) name words = flags_of name takes words

-- The flags and the other arguments of a command.
abbrev pub arguments : ExpectCommand → List ℕ → List (List ℕ) → Flagged
arguments c name words =
    flags_if (expect_row c).flags name words >>= λ f. if fits (expect_row c).count (length f.1) then Ok f else Err (wrong_args name)
