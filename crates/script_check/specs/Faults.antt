-- The error in the arguments of a command, by the command's row, as far as they are literal. `None` stands for a word
-- that isn't literal and may be any word.
use Rattle.std.specs.Prelude.{ℕ, suc, ◌-◌, ◌%◌, ◌==◌, ◌&&◌, ◌||◌, nat_lt, take, drop, Bool, true, false, List, [], ◌∷◌, length, codes, Option, Some, None, is_some, option_and_then, bytes_eq, if◌then◌else◌}
use Rattle.tcl_words.specs.Bytes as ascii
use Rattle.command_table.specs.declared.commands.Command.{Command}
use Rattle.command_table.specs.declared.counts.Count.{Count}
use Rattle.command_table.specs.declared.flags.Flags.{Flags}
use Rattle.command_table.specs.declared.flags.Role.{Role}
use Rattle.command_table.specs.declared.flags.Role.TheVariants as role
use Rattle.command_table.specs.declared.switches.Switch.{Switch}
use Rattle.command_table.specs.declared.switches.Switches.{Switches}
use Rattle.command_table.specs.declared.reading.Stage.{Stage}
use Rattle.command_table.specs.declared.reading.Stage.TheVariants.{Choice, Lists, Front, Test, Pattern, Output}
use Rattle.command_table.specs.declared.rows.Row.{Row}
use Rattle.command_table.specs.Counts.{exactly, fits}
use Rattle.command_table.specs.Flags.{begins_with_minus, flag_role}
use Rattle.command_table.specs.Options.{option_count, option_switches}
use Rattle.command_table.specs.Reading.{step, is_short}
use Rattle.command_table.specs.Rows.{row_of}
use Rattle.command_table.specs.Switches.{switch_of, takes_value, is_end, words_before, words_behind, flags_needed}
use Rattle.script_check.specs.declared.placed.Placed.{Placed}
use Rattle.script_check.specs.declared.problem.Problem.{Problem}
use Rattle.script_check.specs.declared.problem.Problem.TheVariants.{WrongArgs, BadOption, BadFlag}
use Rattle.script_check.specs.Expects.{expect_fault}
use Rattle.script_check.specs.Placed.{is_plainly}
use Rattle.script_check.specs.Stretches.{begins_with}

abbrev pub wrong : List ℕ → Option Problem
wrong name = Some (WrongArgs name)

abbrev pub counted : List ℕ → Count → ℕ → Option Problem
counted name c n = if fits c n then None else wrong name

-- `on` gives the error after this flag; its argument tells whether the next word is the flag's value.
abbrev pub by_switch : (Bool → Option Problem) → List ℕ → Option Switch → Option Problem
by_switch on word None = Some (BadFlag word)
by_switch on word (Some x) = on (takes_value x)

-- A word that is a flag if it begins with a minus. Too many words are left otherwise.
abbrev pub maybe_switch : (Bool → Option Problem) → List ℕ → Switches → List ℕ → Option Problem
maybe_switch on name s word = if begins_with_minus word then by_switch on word (switch_of s word) else wrong name

-- Flags before the last n words. `due` is true if the next word is the value of a flag.
abbrev pub switched : List ℕ → Switches → ℕ → Bool → List Placed → Option Problem
switched name s n due [] = counted name (exactly n) 0
switched name s n true (w ∷ ws) = switched name s n false ws
switched name s n false (w ∷ ws) =
    if nat_lt n (length (w ∷ ws)) then option_and_then (maybe_switch (λ due. switched name s n due ws) name s) w.value
    else counted name (exactly n) (length (w ∷ ws))

-- Words whose number may be counted, with flags before the last of them, if the command has any.
abbrev pub if_switched : List ℕ → Count → List Placed → Option Switches → Option Problem
if_switched name c args None = counted name c (length args)
if_switched name c args (Some s) = if fits c (length args) then switched name s (c.least - words_before s - flags_needed s) false (drop (words_before s) args) else wrong name

-- An option, and the words after it.
abbrev pub if_counted : List ℕ → List Placed → List ℕ → Option Count → Option Switches → Option Problem
if_counted name args option None s = Some (BadOption option)
if_counted name args option (Some c) s = if_switched name c args s

abbrev pub chosen : Command → List ℕ → List Placed → Option (List ℕ) → Option Problem
chosen command name args = option_and_then (λ option. if_counted name args option (option_count command option) (option_switches command option))

abbrev pub choice_fault : Command → List ℕ → List Placed → Option Problem
choice_fault command name [] = wrong name
choice_fault command name (option ∷ args) = if fits (row_of command).count (suc (length args)) then chosen command name args option.value else wrong name

-- `on` gives the error after this flag; its argument tells whether the flag's value must follow.
abbrev pub by_role : List ℕ → Count → ℕ → (Bool → Option Problem) → List ℕ → Role → Option Problem
by_role name c left on w role.Word = counted name c (suc left)
by_role name c left on w role.End = counted name c left
by_role name c left on w role.Alone = on false
by_role name c left on w role.Id = on true
by_role name c left on w (role.Choice first) = on false
by_role name c left on w role.Shown = on false
by_role name c left on w role.ShownWithValue = on true
by_role name c left on w role.Bad = Some (BadFlag w)

-- Flags, followed by other words. `due` is true if the value of a flag must follow.
abbrev pub flagged : List ℕ → Flags → Count → Bool → List Placed → Option Problem
flagged name f c true [] = wrong name
flagged name f c true (w ∷ ws) = flagged name f c false ws
flagged name f c false [] = counted name c 0
flagged name f c false (w ∷ ws) = option_and_then (λ text. by_role name c (length ws) (λ due. flagged name f c due ws) text (flag_role f text)) w.value

abbrev pub by_flags : List ℕ → Row → List Placed → Option Flags → Option Problem
by_flags name r args None = if_switched name r.count args r.switches
by_flags name r args (Some f) = flagged name f r.count false args

-- `on` gives the error after this flag; its argument tells whether the next word is the flag's value. `end` is the error
-- if the flags end here.
abbrev pub at_front : (Bool → Option Problem) → Option Problem → List ℕ → Option Switch → Option Problem
at_front on end word None = Some (BadFlag word)
at_front on end word (Some x) = if is_end x then end else on (takes_value x)

-- Flags before all other words, of which c says how many there may be. `due` is true if the next word is the value of a
-- flag.
abbrev pub fronted : List ℕ → Switches → Count → Bool → List Placed → Option Problem
fronted name s c due [] = counted name c 0
fronted name s c true (w ∷ ws) = fronted name s c false ws
fronted name s c false (w ∷ ws) =
    option_and_then (λ text. if begins_with_minus text then at_front (λ due. fronted name s c due ws) (counted name c (length ws)) text (switch_of s text) else counted name c (suc (length ws))) w.value

-- The stage after the words.
abbrev pub last_stage : Stage → List Placed → Stage
last_stage s [] = s
last_stage s (w ∷ ws) = last_stage (step s w.value).1 ws

abbrev pub if_fault : List ℕ → List Placed → Option Problem
if_fault name args = if is_short (last_stage Test args) then wrong name else None

-- foreach varlist1 list1 ?varlist2 list2 ...? body
abbrev pub lists_fault : List ℕ → Count → ℕ → Option Problem
lists_fault name c n = if fits c n && (n % 2 == 1) then None else wrong name

-- A word that may name a channel: a standard one, or one that `open` names.
abbrev pub names_channel : List ℕ → Bool
names_channel w = bytes_eq w (codes "stdout") || bytes_eq w (codes "stderr") || bytes_eq (take 4 w) (codes "file")

-- A word in the place of a channel.
abbrev pub channel : Option (List ℕ) → Option Problem
channel None = None
channel (Some w) =
    if names_channel w then None
    else if begins_with ascii.minus w then Some (BadFlag w)
    else Some (BadOption w)

-- `puts ?-nonewline? ?channelId? text`.
abbrev pub output_fault : List ℕ → List Placed → Option Problem
output_fault name [] = wrong name
output_fault name (text ∷ []) = None
output_fault name (w ∷ text ∷ []) = if is_plainly (codes "-nonewline") w.value then None else channel w.value
output_fault name (w ∷ other ∷ text ∷ []) =
    if is_plainly (codes "-nonewline") w.value then channel other.value
    else if is_some w.value then wrong name
    else None
output_fault name (w ∷ other ∷ text ∷ more ∷ words) = wrong name

abbrev pub by_stage : Command → Row → List ℕ → List Placed → Stage → Option Problem
by_stage command r name args Test = if_fault name args
by_stage command r name args Pattern = expect_fault args
by_stage command r name args Lists = lists_fault name r.count (length args)
by_stage command r name args Choice = choice_fault command name args
by_stage command r name args (Front s) = fronted name s (words_behind s) false args
by_stage command r name args Output = output_fault name args
by_stage command r name args other = by_flags name r args r.flags

abbrev pub fault_of : Command → List ℕ → List Placed → Option Problem
fault_of command name args = by_stage command (row_of command) name args (row_of command).words
