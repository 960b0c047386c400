-- The commands that tell the time: clock(n), and `timestamp` of expect(1).
use Rattle.std.specs.Prelude.{◌≡◌, ◌≢◌, ℕ, Bool, true, false, List, [], ◌∷◌, ◌++◌, codes, length, bytes_eq, if◌then◌else◌, Option, Some, None, is_some, Result, Ok, Err}
use Rattle.command_table.specs.declared.commands.ExpectCommand.TheVariants as command
use Rattle.command_table.specs.declared.options.ClockOption.{ClockOption}
use Rattle.command_table.specs.declared.options.ClockOption.TheVariants.{Seconds}
use Rattle.command_table.specs.Counts.{fits}
use Rattle.command_table.specs.Flags.{begins_with_minus}
use Rattle.command_table.specs.Options.{clock_option, clock_count}
use Rattle.tcl_results.specs.declared.complaint.Complaint.{Complaint}
use Rattle.tcl_results.specs.declared.complaint.Complaint.TheVariants.{Memory}
use Rattle.tcl_results.specs.Given.{arg}
use Rattle.tcl_results.specs.Said.{Said, ◌>>=◌}
use Rattle.tcl_results.specs.Says.{text_of}
use Rattle.tcl_results.specs.Texts.{wrong_args, bad_option, expected_number}
use Rattle.expect_core.specs.declared.tool.Job.TheVariants as job
use Rattle.expect_core.specs.declared.day.Awaited.{Awaited}
use Rattle.expect_core.specs.declared.day.Awaited.TheVariants as awaited
use Rattle.expect_core.specs.declared.day.Stamp.{Stamp}
use Rattle.expect_core.specs.declared.turn.Deed.{Deed}
use Rattle.expect_core.specs.declared.turn.Deed.TheVariants.{Alone}
use Rattle.expect_core.specs.declared.own.Own.{Own}
use Rattle.expect_core.specs.Flags.{arguments, bad_flag}
use Rattle.expect_core.specs.Turns.{done}
use Rattle.expect_core.specs.TimeOfDay.{Known, as_text, time_at}
use Rattle.expect_core.specs.Sleeping.{digits}
use Rattle.expect_core.specs.Tools.{tooling}
use Rattle.expect_core.specs.Programs.{Words, plain_tool, behind_option}

-- ---- clock option

-- The first time is asked for.
abbrev pub telling_by : ClockOption → Option Known → Own → Said Deed
telling_by u None o = tooling (plain_tool (codes "date" ∷ codes "+%s" ∷ []) (job.Day u)) o
telling_by u (Some d) o = Ok (Alone [] (done (as_text u (time_at o.clock d))))

abbrev pub telling : ClockOption → Own → Said Deed
telling u o = telling_by u o.day o

abbrev pub clock_by : List ℕ → List ℕ → Option ClockOption → Words → Own → Said Deed
clock_by command word None args o = Err (bad_option word)
clock_by command word (Some u) args o = if fits (clock_count u) (length args) then telling u o else Err (wrong_args command)

abbrev pub clocking : List ℕ → Words → Own → Said Deed
clocking name args o = arguments command.Clock name args >>= λ f. clock_by name (arg 0 f.1) (clock_option (arg 0 f.1)) (behind_option f.1) o

-- ---- timestamp ?-format format? ?-seconds n? ?-gmt?

abbrev pub no_stamp : Stamp
no_stamp = record { format = None; seconds = None; gmt = false; next = awaited.Flag }

abbrev pub flagged : List ℕ → List ℕ → Stamp → Said Stamp
flagged name w s =
    if bytes_eq w (codes "-gmt") then Ok (record s { gmt = true })
    else if bytes_eq w (codes "-format") then Ok (record s { next = awaited.Format })
    else if bytes_eq w (codes "-seconds") then Ok (record s { next = awaited.Seconds })
    else if begins_with_minus w then Err (bad_flag w)
    else Err (wrong_args name)

-- A word is a flag, or the value of the flag before it.
abbrev pub stamp_with : List ℕ → List ℕ → Awaited → Stamp → Said Stamp
stamp_with name w awaited.Flag s = flagged name w s
stamp_with name w awaited.Format s = Ok (record s { format = Some w; next = awaited.Flag })
stamp_with name w awaited.Seconds s = Ok (record s { seconds = Some w; next = awaited.Flag })

-- A word is taken. If memory is refused, nothing is claimed.
abbrev pub Takes : Result (Unit {0}) Complaint → Said Stamp → Stamp → Type 0
Takes (Ok u) meant new = meant ≡ Ok new
Takes (Err c) meant new = c ≢ Memory → meant ≡ Err (text_of c)

abbrev pub stamp_behind : List ℕ → Stamp → Words → Said Stamp
stamp_behind name s [] = Ok s
stamp_behind name s (w ∷ ws) = stamp_with name w s.next s >>= λ t. stamp_behind name t ws

-- The last flag has its value.
abbrev pub complete : List ℕ → Awaited → Stamp → Said Stamp
complete name awaited.Flag s = Ok s
complete name other s = Err (wrong_args name)

-- The seconds are a number.
abbrev pub counted : Option (List ℕ) → Stamp → Said Stamp
counted None s = Ok s
counted (Some n) s = if is_some (digits n) then Ok s else Err (expected_number n)

abbrev pub stamp_of : List ℕ → Words → Said Stamp
stamp_of name args = stamp_behind name no_stamp args >>= λ s. complete name s.next s >>= λ s. counted s.seconds s

abbrev pub in_utc : Bool → Words
in_utc true = codes "-u" ∷ []
in_utc false = []

abbrev pub on_day : Option (List ℕ) → Words
on_day None = []
on_day (Some n) = codes "-d" ∷ (codes "@" ++ n) ∷ []

-- The words of date(1).
abbrev pub date_words : Bool → Option (List ℕ) → List ℕ → Words
date_words gmt seconds format = (codes "date" ∷ []) ++ in_utc gmt ++ on_day seconds ++ (codes "+" ++ format) ∷ []

abbrev pub plain_stamp : Option (List ℕ) → Own → Said Deed
plain_stamp None o = telling Seconds o
plain_stamp (Some n) o = Ok (Alone [] (done n))

abbrev pub stamped : Option (List ℕ) → Stamp → Own → Said Deed
stamped None s o = plain_stamp s.seconds o
stamped (Some f) s o = tooling (plain_tool (date_words s.gmt s.seconds f) job.Line) o

abbrev pub stamping : List ℕ → Words → Own → Said Deed
stamping name args o = stamp_of name args >>= λ s. stamped s.format s o
