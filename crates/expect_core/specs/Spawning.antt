-- spawn ?-noecho? ?-tty? ?-notty? ?-nottycopy? ?-nottyinit? ?-ignore word? ?--? program arg ..
use Rattle.std.specs.Prelude.{ℕ, ◌+◌, nat_lt, List, [], ◌∷◌, ◌++◌, length, codes, drop, Bool, true, false, slice_index_or, if◌then◌else◌, Option, Some, None, unwrap_or, Result, Ok, Err}
use Rattle.std.specs.Fmt.{decimal}
use Rattle.child_events.specs.declared.event.Cause.{Cause}
use Rattle.child_events.specs.declared.event.Cause.TheVariants as cause
use Rattle.child_events.specs.declared.event.Item.{Item}
use Rattle.child_events.specs.declared.event.Item.TheVariants as item
use Rattle.command_table.specs.declared.commands.ExpectCommand.TheVariants as command
use Rattle.tty.specs.declared.modes.Modes.{Modes}
use Rattle.tty.specs.declared.modes.BadMode.{BadMode}
use Rattle.tty.specs.Modes.{sane, bare, read as read_modes}
use Rattle.sh_words.specs.Terminal.{terminal_words}
use Rattle.tcl_subst.specs.Variables.{Variables}
use Rattle.tcl_results.specs.Said.{Said, ◌>>=◌, list_of}
use Rattle.expect_core.specs.declared.request.Act.TheVariants as act
use Rattle.expect_core.specs.declared.child.Standing.TheVariants as standing
use Rattle.expect_core.specs.declared.child.Change.TheVariants.{Stand}
use Rattle.expect_core.specs.declared.effect.Effect.{Effect}
use Rattle.expect_core.specs.declared.effect.Effect.TheVariants.{Log, Add, Ask, Receive, Alter, Store}
use Rattle.expect_core.specs.declared.turn.Purpose.TheVariants as purpose
use Rattle.expect_core.specs.declared.turn.Aim.TheVariants as aim
use Rattle.expect_core.specs.declared.turn.Next.TheVariants.{Finish, Await, Hear}
use Rattle.expect_core.specs.declared.turn.Reaction.{Reaction}
use Rattle.expect_core.specs.declared.turn.Deed.{Deed}
use Rattle.expect_core.specs.declared.turn.Deed.TheVariants.{To}
use Rattle.expect_core.specs.declared.flags.Flags.{Flags}
use Rattle.expect_core.specs.declared.order.SpawnOrder.{SpawnOrder}
use Rattle.expect_core.specs.declared.own.Own.{Own}
use Rattle.expect_core.specs.Flags.{arguments}
use Rattle.expect_core.specs.Scoped.{optional}
use Rattle.expect_core.specs.Texts.{id_at, spawn_line, not_executed, too_many, bad_stty}
use Rattle.expect_core.specs.Turns.{react, done, badly}

abbrev pub modes_in : List (List ℕ) → Result Modes BadMode → Said Modes
modes_in words (Ok modes) = Ok modes
modes_in words (Err bad) = Err (bad_stty (slice_index_or words bad.at []))

abbrev pub modes_by : Option (List ℕ) → Said Modes
modes_by None = Ok sane
modes_by (Some text) = list_of text >>= λ words. modes_in words (read_modes words)

-- The modes of a child's terminal, which the variable `stty_init` may set.
abbrev pub modes_of : Variables → Said Modes
modes_of vars = optional (codes "stty_init") vars >>= modes_by

abbrev pub settings_by : Option (List ℕ) → Said (List (List ℕ))
settings_by None = Ok []
settings_by (Some text) = list_of text

-- The settings of a terminal of the system: the words of the variable `stty_init`. They are left to stty(1).
abbrev pub settings_of : Variables → Said (List (List ℕ))
settings_of vars = optional (codes "stty_init") vars >>= settings_by

-- Whether a child is on a terminal of the system. The last of -tty and -notty decides, or else the script's setting.
abbrev pub is_on_terminal : Flags → Bool → Bool
is_on_terminal flags host = unwrap_or flags.choice host

-- On a terminal of the system, other words start the program, and what is sent is handed over as it is.
abbrev pub order_by : Bool → Flags → List (List ℕ) → Variables → Said SpawnOrder
order_by true flags words vars =
    settings_of vars >>= λ settings.
    Ok (record { quiet = flags.on; terminal = true; shown = flags.shown; words = words; asked = terminal_words words settings []; modes = bare })
order_by false flags words vars =
    modes_of vars >>= λ modes.
    Ok (record { quiet = flags.on; terminal = false; shown = flags.shown; words = words; asked = words; modes = modes })

abbrev pub order_of : List ℕ → List (List ℕ) → Variables → Bool → Said SpawnOrder
order_of name args vars host = arguments command.Spawn name args >>= λ f. order_by (is_on_terminal f.0 host) f.0 f.1 vars

-- The line for the transcript.
abbrev pub announcing : Bool → List (List ℕ) → List (List ℕ) → List Effect
announcing true shown words = []
announcing false shown words = Log (spawn_line shown words) ∷ []

-- Adds a child and requests its start.
abbrev pub ordering : SpawnOrder → List Effect
ordering order = Add order.modes ∷ (announcing order.quiet order.shown order.words ++ Ask (act.Spawn order.asked) ∷ [])

abbrev pub spawning_as : SpawnOrder → Own → Said Deed
spawning_as order o =
    if nat_lt (length o.children) 16 then Ok (To (length o.children) (react (ordering order) (Await (purpose.Spawn order.terminal order.words))))
    else Err too_many

abbrev pub spawning : List ℕ → List (List ℕ) → Variables → Own → Said Deed
spawning name args vars o = order_of name args vars o.host >>= λ order. spawning_as order o

-- The child becomes that of the variable `spawn_id`.
abbrev pub begun : ℕ → List Effect → Reaction
begun i effects =
    react (effects ++ Alter (Stand standing.Open) ∷ Store ((codes "spawn_id", id_at i) ∷ []) ∷ []) (Finish (done (decimal (i + 1))))

-- The child was started. On a terminal of the system its first item says whether the program is there.
abbrev pub started : Bool → ℕ → List (List ℕ) → Reaction
started true i words = react [] (Hear (aim.Spawn words))
started false i words = begun i []

-- The child was started, or it was not.
abbrev pub spawned : Bool → ℕ → List (List ℕ) → Option Cause → Reaction
spawned terminal i words None = started terminal i words
spawned terminal i words (Some c) = badly [] (not_executed words c)

-- The terminal is closed, since there is no program.
abbrev pub missing : List (List ℕ) → Reaction
missing words = react (Ask act.Close ∷ []) (Await (purpose.Missing words))

-- The end of the closed terminal is asked for.
abbrev pub missed : List (List ℕ) → Reaction
missed words = react (Ask act.Wait ∷ []) (Await (purpose.Gone words))

-- The end is known.
abbrev pub gone : List (List ℕ) → Reaction
gone words = badly [] (not_executed words cause.NotFound)

-- The first item of a terminal of the system. Its first byte only says that the program is there. The others are its
-- output.
abbrev pub heard_first : List (List ℕ) → ℕ → Item → Reaction
heard_first words i (item.Out piece) = begun i (Receive (drop 1 piece) ∷ [])
heard_first words i item.Eof = missing words
heard_first words i (item.ReadFail c) = missing words
