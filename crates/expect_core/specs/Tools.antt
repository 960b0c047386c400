-- Tool runs: a command starts a program, takes all its output as bytes, and waits for its end. The program is a child
-- that no spawn id names.
use Rattle.std.specs.Prelude.{◌≡◌, ℕ, ◌+◌, ◌*◌, ◌/◌, ◌==◌, nat_lt, List, [], ◌∷◌, ◌++◌, codes, length, slice_index_or, Bool, true, false, if◌then◌else◌, Option, Some, None, option_map, option_and_then, Ok, Err}
use Rattle.std.specs.Fmt.{decimal}
use Rattle.tcl_words.specs.Bytes as ascii
use Rattle.tcl_words.specs.Backslash.{digit}
use Rattle.child_events.specs.declared.event.Answer.{Answer}
use Rattle.child_events.specs.declared.event.Answer.TheVariants as answer
use Rattle.child_events.specs.declared.event.Cause.{Cause}
use Rattle.child_events.specs.declared.event.Cause.TheVariants as cause
use Rattle.child_events.specs.declared.event.Item.{Item}
use Rattle.child_events.specs.declared.event.Item.TheVariants as item
use Rattle.tty.specs.Modes.{bare}
use Rattle.tty.specs.declared.action.Action.TheVariants.{Write}
use Rattle.tcl_results.specs.Said.{Said, ◌>>=◌, list_of}
use Rattle.tcl_results.specs.Texts.{too_long}
use Rattle.expect_core.specs.declared.request.Act.{Act}
use Rattle.expect_core.specs.declared.request.Act.TheVariants as act
use Rattle.expect_core.specs.declared.effect.Effect.{Effect}
use Rattle.expect_core.specs.declared.effect.Effect.TheVariants.{Tell, Add, Set, Ask, Reader, Writer, Errors, Day}
use Rattle.command_table.specs.declared.options.ClockOption.{ClockOption}
use Rattle.expect_core.specs.declared.tool.Job.{Job}
use Rattle.expect_core.specs.declared.tool.Job.TheVariants as job
use Rattle.expect_core.specs.declared.tool.Tool.{Tool}
use Rattle.expect_core.specs.declared.tool.ToolRun.{ToolRun}
use Rattle.expect_core.specs.declared.tool.Stride.{Stride}
use Rattle.expect_core.specs.declared.tool.Stride.TheVariants as stride
use Rattle.expect_core.specs.declared.turn.Aim.TheVariants as aim
use Rattle.expect_core.specs.declared.turn.Purpose.TheVariants as purpose
use Rattle.expect_core.specs.declared.turn.Next.TheVariants.{Finish, Await, Hear, Evaluate}
use Rattle.expect_core.specs.declared.turn.Reaction.{Reaction}
use Rattle.expect_core.specs.declared.turn.Deed.{Deed}
use Rattle.expect_core.specs.declared.turn.Deed.TheVariants.{To}
use Rattle.expect_core.specs.declared.own.Own.{Own}
use Rattle.expect_core.specs.Texts.{with_cause, too_many}
use Rattle.expect_core.specs.Turns.{react, done, well, badly}
use Rattle.expect_core.specs.Opened.{name_at}
use Rattle.expect_core.specs.Channels.{without_newline, plain_lines}
use Rattle.expect_core.specs.TimeOfDay.{as_text, told}

-- ---- The requests and what comes

-- A run whose program has written nothing yet.
abbrev pub run_of : Tool → ToolRun
run_of t = record { failing = t.failing; job = t.job; bytes = []; broken = None }

-- Adds a child, whose output is taken as it comes, and requests its start.
abbrev pub starting : List (List ℕ) → List Effect
starting words = Add bare ∷ Ask (act.Spawn words) ∷ []

abbrev pub tooling : Tool → Own → Said Deed
tooling t o =
    if nat_lt (length o.children) 16 then Ok (To (length o.children) (react (starting t.words) (Await (purpose.Tool stride.Start (run_of t)))))
    else Err too_many

-- A request, and what its answer is awaited for.
abbrev pub asking : Act → Stride → ToolRun → Reaction
asking a s run = react (Ask a ∷ []) (Await (purpose.Tool s run))

-- The run is an error.
abbrev pub failed : ToolRun → Cause → Reaction
failed run c = badly [] (with_cause run.failing c)

-- The child becomes that of standard error, and is sent the first text.
abbrev pub first_complaint : List ℕ → Reaction
first_complaint text = react (Errors ∷ Ask (act.Write text) ∷ []) (Await (purpose.Send (Write text) [] None))

-- A program that is to read nothing sees the end of its input. A channel that is written stays open, and the first text
-- for standard error is written at once.
abbrev pub fed : Job → ToolRun → Reaction
fed job.Writer run = react [] (Hear (aim.Tool run))
fed (job.Complainer text) run = first_complaint text
fed other run = asking act.End stride.Fed run

abbrev pub tool_started : ToolRun → Option Cause → Reaction
tool_started run None = fed run.job run
tool_started run (Some c) = failed run c

abbrev pub gathered : List ℕ → ToolRun → ToolRun
gathered piece run = record run { bytes = run.bytes ++ piece }

-- Output that is longer than a value may be ends the command.
abbrev pub gathering : ToolRun → Reaction
gathering run = if nat_lt 1048576 (length run.bytes) then badly [] too_long else react [] (Hear (aim.Tool run))

-- The end of a command whose value is the name of a channel.
abbrev pub named : ℕ → List Effect → Reaction
named i effects = react effects (Finish (done (name_at i)))

-- A channel that is written tells by its first output that the file is open.
abbrev pub tool_piece : Job → ToolRun → ℕ → List ℕ → Reaction
tool_piece job.Writer run i piece = named i (Writer ∷ [])
tool_piece other run i piece = gathering (gathered piece run)

-- A run whose output could not be read.
abbrev pub broken_by : Cause → ToolRun → ToolRun
broken_by c run = record run { broken = Some c }

abbrev pub tool_heard : ToolRun → ℕ → Item → Reaction
tool_heard run i (item.Out piece) = tool_piece run.job run i piece
tool_heard run i item.Eof = asking act.Close stride.Shut run
tool_heard run i (item.ReadFail c) = asking act.Close stride.Shut (broken_by c run)

-- ---- How a program ended

abbrev pub is_well : Answer → Bool
is_well (answer.Exit n) = n == 0
is_well other = false

abbrev pub abnormal : List ℕ
abnormal = codes "child process exited abnormally"

abbrev pub ended_badly : Answer → List ℕ
ended_badly answer.Killed = codes "child killed: unknown signal"
ended_badly other = abnormal

-- The status with which a program that reads a file says why it can't.
abbrev pub cause_by : ℕ → Cause
cause_by n = if n == 2 then cause.NotFound else if n == 13 then cause.Denied else cause.Other

abbrev pub unread_by : Answer → Cause
unread_by (answer.Exit n) = cause_by n
unread_by other = cause.Other

-- ---- What is made of the bytes

abbrev pub says : List ℕ → Reaction
says value = react [] (Finish (done value))

-- An error text behind the output of a program.
abbrev pub behind : List ℕ → List ℕ → List ℕ
behind [] text = text
behind (b ∷ bytes) text = b ∷ bytes ++ ascii.newline ∷ text

abbrev pub executed : Bool → ToolRun → Answer → Reaction
executed keep run a =
    if is_well a then says (if keep then run.bytes else without_newline run.bytes)
    else badly [] (behind (without_newline run.bytes) (ended_badly a))

-- The bytes go to the transcript.
abbrev pub shown : ToolRun → Answer → Reaction
shown run a = if is_well a then well (Tell run.bytes ∷ []) else badly (Tell run.bytes ∷ []) abnormal

abbrev pub sourced : ToolRun → Answer → Reaction
sourced run a = if is_well a then react [] (Evaluate run.bytes) else failed run (unread_by a)

-- test(1) says yes with status 0 and no with status 1.
abbrev pub tested_by : ToolRun → ℕ → Reaction
tested_by run n = if n == 0 then says (codes "1") else if n == 1 then says (codes "0") else failed run cause.Other

abbrev pub tested : ToolRun → Answer → Reaction
tested run (answer.Exit n) = tested_by run n
tested run other = failed run cause.Other

abbrev pub lined : ToolRun → Answer → Reaction
lined run a = if is_well a then says (without_newline run.bytes) else failed run cause.Other

abbrev pub changed : ToolRun → Answer → Reaction
changed run a = if is_well a then well [] else failed run cause.Other

abbrev pub opening : ToolRun → ℕ → Answer → Reaction
opening run i a =
    if is_well a then named i (Reader (plain_lines run.bytes) [] ∷ [])
    else failed run (unread_by a)

-- A program that failed is told by the `close` of its channel.
abbrev pub piping : ToolRun → ℕ → Answer → Reaction
piping run i a = named i (Reader (plain_lines run.bytes) (if is_well a then [] else ended_badly a) ∷ [])

-- ---- stat(1): times of access, change, device, group, file number, mode in hexadecimal digits, time of modification,
-- links, size and user

-- The number with one digit more. It has at most eight digits.
abbrev pub hex_step : ℕ → ℕ → Option ℕ
hex_step n c = if nat_lt 268435455 n then None else option_map (λ d. n * 16 + d) (digit 16 c)

abbrev pub hex_behind : ℕ → List ℕ → Option ℕ
hex_behind n [] = Some n
hex_behind n (c ∷ cs) = option_and_then (λ m. hex_behind m cs) (hex_step n c)

-- The number that hexadecimal digits write.
abbrev pub hex : List ℕ → Option ℕ
hex text = hex_behind 0 text

-- The kind of a file by the upper bits of its mode (inode(7)).
abbrev pub type_by : ℕ → List ℕ
type_by n =
    if n == 1 then codes "fifo"
    else if n == 2 then codes "characterSpecial"
    else if n == 4 then codes "directory"
    else if n == 6 then codes "blockSpecial"
    else if n == 8 then codes "file"
    else if n == 12 then codes "socket"
    else codes "unknown"

unfoldable pub kind_of : ℕ → List ℕ
kind_of mode = type_by (mode / 4096)

abbrev pub field : ℕ → List (List ℕ) → List ℕ
field n fields = slice_index_or fields n []

-- An element of an array.
abbrev pub element : List ℕ → List ℕ → List ℕ
element name index = name ++ codes "(" ++ index ++ codes ")"

-- An element is set.
abbrev pub sets : List ℕ → List ℕ → List ℕ → Effect
sets name index value = Set (element name index) value

abbrev pub from_size : List ℕ → List (List ℕ) → ℕ → List Effect
from_size name fields mode =
    sets name (codes "size") (field 8 fields)
    ∷ sets name (codes "type") (kind_of mode)
    ∷ sets name (codes "uid") (field 9 fields)
    ∷ []

abbrev pub from_mode : List ℕ → List (List ℕ) → ℕ → List Effect
from_mode name fields mode =
    sets name (codes "mode") (decimal mode)
    ∷ sets name (codes "mtime") (field 6 fields)
    ∷ sets name (codes "nlink") (field 7 fields)
    ∷ from_size name fields mode

-- Each element of the array that `file stat` sets.
abbrev pub stat_effects : List ℕ → List (List ℕ) → ℕ → List Effect
stat_effects name fields mode =
    sets name (codes "atime") (field 0 fields)
    ∷ sets name (codes "ctime") (field 1 fields)
    ∷ sets name (codes "dev") (field 2 fields)
    ∷ sets name (codes "gid") (field 3 fields)
    ∷ sets name (codes "ino") (field 4 fields)
    ∷ from_mode name fields mode

-- The ten fields, or an error.
abbrev pub ten : ToolRun → List (List ℕ) → Said (List (List ℕ))
ten run fields = if length fields == 10 then Ok fields else Err (with_cause run.failing cause.Other)

abbrev pub fields_of : ToolRun → Said (List (List ℕ))
fields_of run = list_of run.bytes >>= λ fields. ten run fields

abbrev pub reacting : Said Reaction → Reaction
reacting (Ok r) = r
reacting (Err text) = badly [] text

abbrev pub stored_by : ToolRun → List ℕ → List (List ℕ) → Option ℕ → Reaction
stored_by run name fields None = failed run cause.Other
stored_by run name fields (Some mode) = well (stat_effects name fields mode)

abbrev pub fielded : ℕ → ToolRun → Answer → Reaction
fielded n run a =
    if is_well a then reacting (fields_of run >>= λ fields. Ok (says (field n fields)))
    else failed run cause.NotFound

abbrev pub stated : List ℕ → ToolRun → Answer → Reaction
stated name run a =
    if is_well a then reacting (fields_of run >>= λ fields. Ok (stored_by run name fields (hex (field 5 fields))))
    else failed run cause.NotFound

-- ---- date(1)

-- The time of day is kept, and told.
abbrev pub learned : ClockOption → ToolRun → Option ℕ → Reaction
learned u run None = failed run cause.Other
learned u run (Some time) = react (Day time ∷ []) (Finish (done (as_text u time)))

-- The end of date(1).
abbrev pub dated : ClockOption → ToolRun → Answer → Reaction
dated u run a = if is_well a then learned u run (told run.bytes) else failed run cause.Other

-- ---- The end of a run

abbrev pub made : Job → ToolRun → ℕ → Answer → Reaction
made (job.Exec keep) run i a = executed keep run a
made job.System run i a = shown run a
made job.Source run i a = sourced run a
made job.Test run i a = tested run a
made (job.Field n) run i a = fielded n run a
made (job.Stat name) run i a = stated name run a
made job.Change run i a = changed run a
made job.Line run i a = lined run a
made (job.Day u) run i a = dated u run a
made job.Reader run i a = opening run i a
made job.Pipe run i a = piping run i a
made job.Writer run i a = failed run cause.Other
made (job.Complainer text) run i a = failed run cause.Other

abbrev pub tool_over : ToolRun → ℕ → Answer → Option Cause → Reaction
tool_over run i a None = made run.job run i a
tool_over run i a (Some c) = badly [] (with_cause (codes "read failed") c)

-- What follows the answer to a request of a run. Those to the end of the input and to the `close` decide nothing.
abbrev pub tool_answered : Stride → ToolRun → ℕ → Answer → Option Cause → Reaction
tool_answered stride.Start run i a failure = tool_started run failure
tool_answered stride.Fed run i a failure = react [] (Hear (aim.Tool run))
tool_answered stride.Shut run i a failure = asking act.Wait stride.Gone run
tool_answered stride.Gone run i a failure = tool_over run i a run.broken

-- ---- The order of a run

-- A program that reads nothing, and whose output is taken to its end.
abbrev pub IsPlain : Job → Type 0
IsPlain job.Writer = ⊥
IsPlain (job.Complainer text) = ⊥
IsPlain other = Unit {0}

-- A run asks for the start, for the end of the input, after the output for the close, and at last for the program's end.
-- Until that is known it changes no variable, no channel and no transcript. Its output is taken as it comes.
pub record RunsInOrder : Type 0 where
  pub starts : (t : Tool) (o : Own) → nat_lt (length o.children) 16 ≡ true
      → tooling t o ≡ Ok (To (length o.children) (react (Add bare ∷ Ask (act.Spawn t.words) ∷ []) (Await (purpose.Tool stride.Start (run_of t)))))
  pub started : (run : ToolRun) (i : ℕ) (a : Answer) → IsPlain run.job → tool_answered stride.Start run i a None ≡ asking act.End stride.Fed run
  pub fed : (run : ToolRun) (i : ℕ) (a : Answer) (failure : Option Cause) → tool_answered stride.Fed run i a failure ≡ react [] (Hear (aim.Tool run))
  pub heard : (run : ToolRun) (i : ℕ) (piece : List ℕ) → IsPlain run.job → nat_lt 1048576 (length (run.bytes ++ piece)) ≡ false
      → tool_heard run i (item.Out piece) ≡ react [] (Hear (aim.Tool (gathered piece run)))
  pub ended : (run : ToolRun) (i : ℕ) → tool_heard run i item.Eof ≡ asking act.Close stride.Shut run
  pub closed : (run : ToolRun) (i : ℕ) (a : Answer) (failure : Option Cause) → tool_answered stride.Shut run i a failure ≡ asking act.Wait stride.Gone run
