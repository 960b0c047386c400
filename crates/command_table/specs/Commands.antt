-- The commands of Tcl(n) and expect(1) that exist, by their names.
use Rattle.std.specs.Prelude.{ℕ, List, codes, Bool, ◌||◌, Option, Some, None, is_some, option_map, bytes_eq, if◌then◌else◌}
use Rattle.command_table.specs.declared.commands.ValueCommand.{ValueCommand}
use Rattle.command_table.specs.declared.commands.ValueCommand.TheVariants as value
use Rattle.command_table.specs.declared.commands.TclCommand.{TclCommand}
use Rattle.command_table.specs.declared.commands.TclCommand.TheVariants as tcl
use Rattle.command_table.specs.declared.commands.ExpectCommand.{ExpectCommand}
use Rattle.command_table.specs.declared.commands.ExpectCommand.TheVariants as expect
use Rattle.command_table.specs.declared.commands.Command.{Command}
use Rattle.command_table.specs.declared.commands.Command.TheVariants.{Tcl, Expect}

-- The value command that a word names, if no procedure can have its name.
abbrev pub value_command : List ℕ → Option ValueCommand
value_command word =
    if bytes_eq word (codes "set") then Some value.Set
    else if bytes_eq word (codes "incr") then Some value.Incr
    else if bytes_eq word (codes "return") then Some value.Return
    else if bytes_eq word (codes "append") then Some value.Append
    else if bytes_eq word (codes "lappend") then Some value.Lappend
    else if bytes_eq word (codes "list") then Some value.List
    else if bytes_eq word (codes "llength") then Some value.Llength
    else if bytes_eq word (codes "lindex") then Some value.Lindex
    else if bytes_eq word (codes "lrange") then Some value.Lrange
    else if bytes_eq word (codes "string") then Some value.String
    else if bytes_eq word (codes "break") then Some value.Break
    else if bytes_eq word (codes "continue") then Some value.Continue
    else if bytes_eq word (codes "error") then Some value.Error
    else if bytes_eq word (codes "global") then Some value.Global
    else if bytes_eq word (codes "info") then Some value.Info
    else if bytes_eq word (codes "unset") then Some value.Unset
    else None

-- The command that a word names, if it evaluates a script or an expression, defines a procedure or ends the script.
abbrev pub control_command : List ℕ → Option TclCommand
control_command word =
    if bytes_eq word (codes "if") then Some tcl.If
    else if bytes_eq word (codes "expr") then Some tcl.Expr
    else if bytes_eq word (codes "while") then Some tcl.While
    else if bytes_eq word (codes "for") then Some tcl.For
    else if bytes_eq word (codes "foreach") then Some tcl.Foreach
    else if bytes_eq word (codes "catch") then Some tcl.Catch
    else if bytes_eq word (codes "proc") then Some tcl.Proc
    else if bytes_eq word (codes "eval") then Some tcl.Eval
    else if bytes_eq word (codes "exit") then Some tcl.Exit
    else None

abbrev pub value_or_control : Option ValueCommand → List ℕ → Option TclCommand
value_or_control (Some c) word = Some (tcl.Value c)
value_or_control None word = control_command word

-- The command of Tcl that a word names, if no procedure can have its name.
abbrev pub tcl_command : List ℕ → Option TclCommand
tcl_command word = value_or_control (value_command word) word

-- The word names a command for which nothing happens: debugging, and actions at signals (expect(1)).
abbrev pub is_ignored : List ℕ → Bool
is_ignored word =
    bytes_eq word (codes "exp_internal")
    || bytes_eq word (codes "debug") || bytes_eq word (codes "exp_debug")
    || bytes_eq word (codes "strace") || bytes_eq word (codes "exp_strace")
    || bytes_eq word (codes "trap") || bytes_eq word (codes "exp_trap")

-- The value command that a word names, if it is about the interpreter. A procedure can have its name.
abbrev pub interpreter_value : List ℕ → Option ValueCommand
interpreter_value word =
    if bytes_eq word (codes "package") then Some value.Package
    else if bytes_eq word (codes "exp_version") || bytes_eq word (codes "expect_version") then Some value.ExpVersion
    else if is_ignored word then Some value.Ignored
    else None

-- The value command that a word names, if a procedure can have its name.
abbrev pub redefinable_value : List ℕ → Option ValueCommand
redefinable_value word =
    if bytes_eq word (codes "split") then Some value.Split
    else if bytes_eq word (codes "join") then Some value.Join
    else if bytes_eq word (codes "concat") then Some value.Concat
    else if bytes_eq word (codes "linsert") then Some value.Linsert
    else if bytes_eq word (codes "lreplace") then Some value.Lreplace
    else if bytes_eq word (codes "lset") then Some value.Lset
    else if bytes_eq word (codes "lreverse") then Some value.Lreverse
    else if bytes_eq word (codes "lrepeat") then Some value.Lrepeat
    else if bytes_eq word (codes "lassign") then Some value.Lassign
    else if bytes_eq word (codes "lsearch") then Some value.Lsearch
    else if bytes_eq word (codes "lsort") then Some value.Lsort
    else if bytes_eq word (codes "array") then Some value.Array
    else if bytes_eq word (codes "format") then Some value.Format
    else if bytes_eq word (codes "scan") then Some value.Scan
    else if bytes_eq word (codes "regexp") then Some value.Regexp
    else if bytes_eq word (codes "regsub") then Some value.Regsub
    else if bytes_eq word (codes "upvar") then Some value.Upvar
    else if bytes_eq word (codes "subst") then Some value.Subst
    else interpreter_value word

-- The command that a word names, if it evaluates a script or ends it, and a procedure can have its name.
abbrev pub redefinable_control : List ℕ → Option TclCommand
redefinable_control word =
    if bytes_eq word (codes "switch") then Some tcl.Switch
    else if bytes_eq word (codes "exp_exit") then Some tcl.Exit
    else None

abbrev pub value_or_redefinable : Option ValueCommand → List ℕ → Option TclCommand
value_or_redefinable (Some c) word = Some (tcl.Value c)
value_or_redefinable None word = redefinable_control word

-- The command of Tcl that a word names, if a procedure can have its name. Such a procedure is called instead.
abbrev pub redefinable_command : List ℕ → Option TclCommand
redefinable_command word = value_or_redefinable (redefinable_value word) word

abbrev pub or_redefinable : Option TclCommand → List ℕ → Option TclCommand
or_redefinable (Some c) word = Some c
or_redefinable None word = redefinable_command word

-- The command of Tcl that a word names.
abbrev pub language_command : List ℕ → Option TclCommand
language_command word = or_redefinable (tcl_command word) word

-- The command of Expect that a word names, if no procedure can have its name.
abbrev pub fixed_expect : List ℕ → Option ExpectCommand
fixed_expect word =
    if bytes_eq word (codes "send") then Some expect.Send
    else if bytes_eq word (codes "expect") then Some expect.Expect
    else if bytes_eq word (codes "exp_continue") then Some expect.ExpContinue
    else if bytes_eq word (codes "puts") then Some expect.Puts
    else if bytes_eq word (codes "spawn") then Some expect.Spawn
    else if bytes_eq word (codes "exp_send") then Some expect.Send
    else if bytes_eq word (codes "send_user") then Some expect.SendUser
    else if bytes_eq word (codes "close") then Some expect.Close
    else if bytes_eq word (codes "wait") then Some expect.Wait
    else if bytes_eq word (codes "match_max") then Some expect.MatchMax
    else if bytes_eq word (codes "remove_nulls") then Some expect.RemoveNulls
    else if bytes_eq word (codes "log_user") then Some expect.LogUser
    else None

-- The command of Expect that a word names with `exp_` before it.
abbrev pub prefixed_expect : List ℕ → Option ExpectCommand
prefixed_expect word =
    if bytes_eq word (codes "exp_spawn") then Some expect.Spawn
    else if bytes_eq word (codes "exp_send_user") then Some expect.SendUser
    else if bytes_eq word (codes "exp_close") then Some expect.Close
    else if bytes_eq word (codes "exp_wait") then Some expect.Wait
    else if bytes_eq word (codes "exp_match_max") then Some expect.MatchMax
    else if bytes_eq word (codes "exp_remove_nulls") then Some expect.RemoveNulls
    else if bytes_eq word (codes "exp_log_user") then Some expect.LogUser
    else None

-- The command that a word names, if it runs a program to its end.
abbrev pub tool_command : List ℕ → Option ExpectCommand
tool_command word =
    if bytes_eq word (codes "exec") then Some expect.Exec
    else if bytes_eq word (codes "system") || bytes_eq word (codes "exp_system") then Some expect.System
    else if bytes_eq word (codes "source") then Some expect.Source
    else if bytes_eq word (codes "file") then Some expect.File
    else if bytes_eq word (codes "pwd") then Some expect.Pwd
    else if bytes_eq word (codes "pid") || bytes_eq word (codes "getpid") || bytes_eq word (codes "exp_getpid") then Some expect.Pid
    else if bytes_eq word (codes "clock") then Some expect.Clock
    else if bytes_eq word (codes "timestamp") || bytes_eq word (codes "exp_timestamp") then Some expect.Timestamp
    else None

-- The command that a word names, if it is about a channel and a procedure can have its name.
abbrev pub channel_command : List ℕ → Option ExpectCommand
channel_command word =
    if bytes_eq word (codes "open") then Some expect.Open
    else if bytes_eq word (codes "gets") then Some expect.Gets
    else if bytes_eq word (codes "read") then Some expect.Read
    else if bytes_eq word (codes "eof") then Some expect.Eof
    else if bytes_eq word (codes "flush") then Some expect.Flush
    else prefixed_expect word

abbrev pub or_channel : Option ExpectCommand → List ℕ → Option ExpectCommand
or_channel (Some c) word = Some c
or_channel None word = channel_command word

abbrev pub tool_or_channel : List ℕ → Option ExpectCommand
tool_or_channel word = or_channel (tool_command word) word

-- The command that a word names, if it sets standing patterns.
abbrev pub standing_command : List ℕ → Option ExpectCommand
standing_command word =
    if bytes_eq word (codes "expect_before") then Some expect.ExpectBefore
    else if bytes_eq word (codes "expect_after") then Some expect.ExpectAfter
    else None

-- The arguments of the command that a word names are patterns with actions.
abbrev pub takes_patterns : List ℕ → Bool
takes_patterns word = bytes_eq word (codes "expect") || is_some (standing_command word)

abbrev pub or_tool : Option ExpectCommand → List ℕ → Option ExpectCommand
or_tool (Some c) word = Some c
or_tool None word = tool_or_channel word

abbrev pub standing_or_tool : List ℕ → Option ExpectCommand
standing_or_tool word = or_tool (standing_command word) word

-- The command of Expect that a word names, if a procedure can have its name. Such a procedure is called instead.
abbrev pub redefinable_expect : List ℕ → Option ExpectCommand
redefinable_expect word =
    if bytes_eq word (codes "sleep") || bytes_eq word (codes "exp_sleep") then Some expect.Sleep
    else if bytes_eq word (codes "after") then Some expect.After
    else if bytes_eq word (codes "send_error") || bytes_eq word (codes "exp_send_error") then Some expect.SendError
    else if bytes_eq word (codes "exp_pid") then Some expect.ExpPid
    else standing_or_tool word

abbrev pub or_redefinable_expect : Option ExpectCommand → List ℕ → Option ExpectCommand
or_redefinable_expect (Some c) word = Some c
or_redefinable_expect None word = redefinable_expect word

-- The command of Expect that a word names.
abbrev pub expect_command : List ℕ → Option ExpectCommand
expect_command word = or_redefinable_expect (fixed_expect word) word

-- The word names a command, and a procedure can have its name.
abbrev pub is_redefinable : List ℕ → Bool
is_redefinable word = is_some (redefinable_command word) || is_some (redefinable_expect word)

abbrev pub tcl_or_expect : Option TclCommand → List ℕ → Option Command
tcl_or_expect (Some c) word = Some (Tcl c)
tcl_or_expect None word = option_map Expect (expect_command word)

-- The command that a word names.
abbrev pub command_of : List ℕ → Option Command
command_of word = tcl_or_expect (language_command word) word
