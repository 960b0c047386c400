-- Channels: files that a script reads or writes (open(n), gets(n), read(n), eof(n), close(n), flush(n)). All bytes of a
-- channel that is read are there from the start, so reading is a function of what is left of them.
use Rattle.std.specs.Prelude.{ℕ, ◌+◌, ◌-◌, ◌==◌, nat_lt, List, [], ◌∷◌, ◌++◌, codes, length, take, position, slice_index_or, Bool, true, false, if◌then◌else◌, Option, Some, None, option_map, Ok, Err}
use Rattle.std.specs.Str.{bytes_eq}
use Rattle.std.specs.Fmt.{decimal}
use Rattle.tcl_words.specs.Bytes as ascii
use Rattle.command_table.specs.declared.commands.ExpectCommand.TheVariants as command
use Rattle.tcl_results.specs.Given.{arg}
use Rattle.tcl_results.specs.Said.{Said, ◌>>=◌}
use Rattle.tcl_results.specs.Texts.{bad_option}
use Rattle.tty.specs.declared.action.Action.TheVariants.{Write}
use Rattle.expect_core.specs.declared.channels.Channel.{Channel}
use Rattle.expect_core.specs.declared.request.Act.TheVariants as act
use Rattle.expect_core.specs.declared.effect.Effect.{Effect}
use Rattle.expect_core.specs.declared.effect.Effect.TheVariants.{Ask, Set, Move, Shut}
use Rattle.expect_core.specs.declared.tool.Stride.TheVariants as stride
use Rattle.expect_core.specs.declared.tool.Job.TheVariants as job
use Rattle.expect_core.specs.declared.turn.Purpose.TheVariants as purpose
use Rattle.expect_core.specs.declared.turn.Next.TheVariants.{Await}
use Rattle.expect_core.specs.declared.turn.Reaction.{Reaction}
use Rattle.expect_core.specs.declared.turn.Reply.{Reply}
use Rattle.expect_core.specs.declared.turn.Reply.TheVariants.{Fail}
use Rattle.expect_core.specs.declared.turn.Deed.{Deed}
use Rattle.expect_core.specs.declared.turn.Deed.TheVariants.{Alone, To}
use Rattle.expect_core.specs.declared.own.Own.{Own}
use Rattle.expect_core.specs.Flags.{arguments}
use Rattle.expect_core.specs.Opened.{channel_of}
use Rattle.expect_core.specs.Sleeping.{digits, kept, or_expected}
use Rattle.expect_core.specs.Texts.{bit}
use Rattle.expect_core.specs.Turns.{react, done}

-- ---- Bytes

-- The bytes without one last newline.
abbrev pub without_newline : List ℕ → List ℕ
without_newline bytes = if slice_index_or bytes (length bytes - 1) 0 == ascii.newline then take (length bytes - 1) bytes else bytes

-- What a byte comes to, directly after a carriage return or not. A carriage return is a newline, and a newline directly
-- after one is no second.
abbrev pub line_byte : Bool → ℕ → List ℕ
line_byte returned b =
    if b == ascii.carriage_return then ascii.newline ∷ []
    else if (if returned then b == ascii.newline else false) then []
    else b ∷ []

abbrev pub lines_after : Bool → List ℕ → List ℕ
lines_after returned [] = []
lines_after returned (b ∷ bytes) = line_byte returned b ++ lines_after (b == ascii.carriage_return) bytes

-- The ends of lines as newlines.
abbrev pub plain_lines : List ℕ → List ℕ
plain_lines bytes = lines_after false bytes

-- ---- The channel that a command is for

abbrev pub or_bad : List ℕ → Option ℕ → Said ℕ
or_bad name None = Err (bad_option name)
or_bad name (Some n) = Ok n

-- The index of the channel with a name.
abbrev pub channel_named : List ℕ → Own → Said ℕ
channel_named name o = or_bad name (position (λ c. bytes_eq c.name name) o.channels)

abbrev pub if_reads : List ℕ → ℕ → Bool → Said ℕ
if_reads name n true = Ok n
if_reads name n false = Err (bad_option name)

abbrev pub if_writes : List ℕ → ℕ → Bool → Said ℕ
if_writes name n true = Err (bad_option name)
if_writes name n false = Ok n

-- The channel that is read or written. Another one is an error.

abbrev pub read_from : List ℕ → Own → Said ℕ
read_from name o = channel_named name o >>= λ n. if_reads name n (channel_of n o).reads

abbrev pub written_to : List ℕ → Own → Said ℕ
written_to name o = channel_named name o >>= λ n. if_writes name n (channel_of n o).reads

-- ---- Reading

-- A text that was read, the number of bytes that it took, and whether the end was met.
abbrev pub Read : Type 0
Read = List ℕ × ℕ × Bool

abbrev pub line_by : List ℕ → Option ℕ → Read
line_by rest None = (rest, length rest, true)
line_by rest (Some n) = (take n rest, n + 1, false)

-- The next line, which ends before its newline, or without one at the end.
abbrev pub line_in : List ℕ → Read
line_in rest = line_by rest (position (λ b. b == ascii.newline) rest)

abbrev pub all_in : List ℕ → Read
all_in rest = (rest, length rest, true)

-- At most n bytes.
abbrev pub some_in : ℕ → List ℕ → Read
some_in n rest = (take n rest, n, nat_lt (length rest) n)

-- What a command does that reads. `more` is done after it.
abbrev pub having_read : ℕ → Read → List Effect → List ℕ → Deed
having_read n (text, count, met) more value = Alone (Move n count met ∷ more) (done value)

-- gets channelId ?varName?

-- The length of a line, or -1 where nothing was left.
abbrev pub length_of : List ℕ → List ℕ → List ℕ
length_of [] text = codes "-1"
length_of (b ∷ rest) text = decimal (length text)

abbrev pub gets_by : ℕ → List ℕ → Read → Option (List ℕ) → Deed
gets_by n rest r None = having_read n r [] r.0
gets_by n rest r (Some name) = having_read n r (Set name r.0 ∷ []) (length_of rest r.0)

abbrev pub second : List (List ℕ) → Option (List ℕ)
second (first ∷ other ∷ more) = Some other
second other = None

abbrev pub getting : List ℕ → List (List ℕ) → Own → Said Deed
getting name args o =
    arguments command.Gets name args >>= λ f.
    read_from (arg 0 f.1) o >>= λ n.
    Ok (gets_by n (channel_of n o).rest (line_in (channel_of n o).rest) (second f.1))

-- read ?-nonewline? channelId, read channelId numChars

abbrev pub reads_all : Bool → List ℕ → Own → Said Deed
reads_all whole name o =
    read_from name o >>= λ n.
    let rest = (channel_of n o).rest in
    Ok (having_read n (all_in rest) [] (if whole then rest else without_newline rest))

-- How many bytes a word asks for. No channel has as many as the greatest number.
abbrev pub count_of : List ℕ → Said ℕ
count_of text = or_expected text (option_map kept (digits text))

-- The number is judged before the channel.
abbrev pub reads_some : List ℕ → List ℕ → Own → Said Deed
reads_some name text o =
    count_of text >>= λ count.
    read_from name o >>= λ n.
    let r = some_in count (channel_of n o).rest in
    Ok (having_read n r [] r.0)

abbrev pub reads_by : List (List ℕ) → Own → Said Deed
reads_by (first ∷ other ∷ more) o = if bytes_eq first (codes "-nonewline") then reads_all false other o else reads_some first other o
reads_by args o = reads_all true (arg 0 args) o

abbrev pub reading_more : List ℕ → List (List ℕ) → Own → Said Deed
reading_more name args o = arguments command.Read name args >>= λ f. reads_by f.1 o

-- eof channelId
abbrev pub meeting_end : List ℕ → List (List ℕ) → Own → Said Deed
meeting_end name args o =
    arguments command.Eof name args >>= λ f.
    read_from (arg 0 f.1) o >>= λ n.
    Ok (Alone [] (done (bit (channel_of n o).met)))

-- ---- Closing

-- How a channel that was read ends: a program that was read may have failed.
abbrev pub end_reply : List ℕ → Reply
end_reply [] = done []
end_reply (b ∷ text) = Fail (b ∷ text)

-- The child sees the end of what was written, and is then waited for.
abbrev pub ends_writing : ℕ → Reaction
ends_writing n = react (Shut n ∷ Ask act.End ∷ []) (Await (purpose.Tool stride.Fed (record { failing = codes "close failed"; job = job.Change; bytes = []; broken = None })))

-- A channel is closed. What was written to it is taken by its child, whose end is then waited for.
abbrev pub shutting : ℕ → Channel → Deed
shutting n c =
    if c.reads then Alone (Shut n ∷ []) (end_reply c.ended)
    else To c.child (ends_writing n)

abbrev pub closing_channel : List ℕ → Own → Said Deed
closing_channel name o = channel_named name o >>= λ n. Ok (shutting n (channel_of n o))

-- ---- Writing

-- flush channelId. Nothing is held back, so nothing is done.
abbrev pub is_standard : List ℕ → Bool
is_standard name = if bytes_eq name (codes "stdout") then true else bytes_eq name (codes "stderr")

abbrev pub flushing_to : List ℕ → Own → Said Deed
flushing_to name o = if is_standard name then Ok (Alone [] (done [])) else written_to name o >>= λ n. Ok (Alone [] (done []))

abbrev pub flushing : List ℕ → List (List ℕ) → Own → Said Deed
flushing name args o = arguments command.Flush name args >>= λ f. flushing_to (arg 0 f.1) o

-- A text for a child. An empty one is not written.
abbrev pub putting_to : ℕ → List ℕ → Deed
putting_to i text =
    if length text == 0 then Alone [] (done [])
    else To i (react (Ask (act.Write text) ∷ []) (Await (purpose.Send (Write text) [] None)))

-- puts ?-nonewline? channelId string, given the text with its newline
abbrev pub putting : List ℕ → List ℕ → Own → Said Deed
putting name text o = written_to name o >>= λ n. Ok (putting_to (channel_of n o).child text)
