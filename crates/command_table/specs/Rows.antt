-- The rows of the table. Each follows its synopsis in Tcl(n) or expect(1), without unsupported forms.
use Rattle.std.specs.Prelude.{ℕ, Bool, true, false, Some, None}
use Rattle.command_table.specs.declared.commands.ValueCommand.{ValueCommand}
use Rattle.command_table.specs.declared.commands.ValueCommand.TheVariants as value
use Rattle.command_table.specs.declared.commands.TclCommand.{TclCommand}
use Rattle.command_table.specs.declared.commands.TclCommand.TheVariants as tcl
use Rattle.command_table.specs.declared.commands.ExpectCommand.{ExpectCommand}
use Rattle.command_table.specs.declared.commands.ExpectCommand.TheVariants as expect
use Rattle.command_table.specs.declared.commands.Command.{Command}
use Rattle.command_table.specs.declared.commands.Command.TheVariants.{Tcl, Expect}
use Rattle.command_table.specs.declared.counts.Count.{Count}
use Rattle.command_table.specs.declared.flags.Own.{Own}
use Rattle.command_table.specs.declared.flags.Own.TheVariants as own
use Rattle.command_table.specs.declared.reading.Kind.TheVariants.{Text, Name, Script, Expression}
use Rattle.command_table.specs.declared.reading.Stage.{Stage}
use Rattle.command_table.specs.declared.reading.Stage.TheVariants.{Each, Alone, Lists, Choice, Front, Test, Pattern, Output}
use Rattle.command_table.specs.declared.switches.Switches.{Switches}
use Rattle.command_table.specs.declared.switches.Switches.TheVariants.{Search, Sort, Match, Replace, Substitute, Version}
use Rattle.command_table.specs.declared.rows.Row.{Row}
use Rattle.command_table.specs.Counts.{exactly, at_least, between}
use Rattle.command_table.specs.Reading.{texts}

-- A command whose arguments are read by `words` alone.
abbrev pub plain : Count → Stage → Row
plain count words = record { count = count; flags = None; switches = None; words = words }

-- A command with its own flag, maybe `-i`, maybe `--`, followed by texts.
abbrev pub flagged : Own → Bool → Bool → Count → Row
flagged o id end count = record { count = count; flags = Some (record { own = o; id = id; end = end }); switches = None; words = texts }

-- A command with flags before its last arguments. It has at least n arguments, with the flags that it needs. All its
-- arguments are texts.
abbrev pub switched : Switches → ℕ → Row
switched s n = record { count = at_least n; flags = None; switches = Some s; words = texts }

abbrev pub value_row : ValueCommand → Row
-- append varName ?value value value ...?
value_row value.Append = plain (at_least 1) (Each Name Text Text Text)
-- array option arrayName ?arg arg ...?
value_row value.Array = plain (at_least 1) Choice
-- break
value_row value.Break = plain (exactly 0) texts
-- concat ?arg arg ...?
value_row value.Concat = plain (at_least 0) texts
-- continue
value_row value.Continue = plain (exactly 0) texts
-- error message ?info? ?code?
value_row value.Error = plain (between 1 3) texts
-- exp_version ?version?
value_row value.ExpVersion = plain (at_least 0) (Front Version)
-- format formatString ?arg arg ...?
value_row value.Format = plain (at_least 1) texts
-- global ?varname ...?
value_row value.Global = plain (at_least 0) (Each Name Name Name Name)
-- exp_internal ?-f file? value, debug ??-now? 0|1?, strace level, trap ?command? signals
value_row value.Ignored = plain (at_least 0) texts
-- incr varName ?increment?
value_row value.Incr = plain (between 1 2) (Each Name Text Text Text)
-- info option ?arg arg ...?
value_row value.Info = plain (at_least 1) Choice
-- join list ?joinString?
value_row value.Join = plain (between 1 2) texts
-- lappend varName ?value value value ...?
value_row value.Lappend = plain (at_least 1) (Each Name Text Text Text)
-- lassign list ?varName ...?
value_row value.Lassign = plain (at_least 1) (Each Text Name Name Name)
-- lindex list ?index?
value_row value.Lindex = plain (between 1 2) texts
-- linsert list index ?element element ...?
value_row value.Linsert = plain (at_least 2) texts
-- list ?arg arg ...?
value_row value.List = plain (at_least 0) texts
-- llength list
value_row value.Llength = plain (exactly 1) texts
-- lrange list first last
value_row value.Lrange = plain (exactly 3) texts
-- lrepeat count ?element ...?
value_row value.Lrepeat = plain (at_least 1) texts
-- lreplace list first last ?element element ...?
value_row value.Lreplace = plain (at_least 3) texts
-- lreverse list
value_row value.Lreverse = plain (exactly 1) texts
-- lsearch ?-exact|-glob|-regexp? ?-all? ?-inline? ?-not? ?-nocase? ?-start index? list pattern
value_row value.Lsearch = switched Search 2
-- lset varName index newValue
value_row value.Lset = plain (exactly 3) (Each Name Text Text Text)
-- lsort ?-integer? ?-decreasing? ?-unique? ?-nocase? ?-index index? list
value_row value.Lsort = switched Sort 1
-- package option ?arg arg ...?
value_row value.Package = plain (at_least 1) Choice
-- regexp ?-all? ?-indices? ?-inline? ?-lineanchor? ?-nocase? ?-start index? ?--? exp string ?matchVar? ?subMatchVar subMatchVar ...?
value_row value.Regexp = plain (at_least 0) (Front Match)
-- regsub ?-all? ?-lineanchor? ?-nocase? ?-start index? ?--? exp string subSpec ?varName?
value_row value.Regsub = plain (at_least 0) (Front Replace)
-- return ?result?
value_row value.Return = plain (at_least 0) texts
-- scan string format varName ?varName ...?
value_row value.Scan = plain (at_least 3) (Each Text Text Name Name)
-- set varName ?value?
value_row value.Set = plain (between 1 2) (Each Name Text Text Text)
-- split string ?splitChars?
value_row value.Split = plain (between 1 2) texts
-- string option arg ?arg ...?
value_row value.String = plain (at_least 1) Choice
-- subst -nocommands string
value_row value.Subst = switched Substitute 2
-- unset ?-nocomplain? ?name name name ...?
value_row value.Unset = plain (at_least 0) (Each Name Name Name Name)
value_row value.Upvar = plain (at_least 2) texts

abbrev pub tcl_row : TclCommand → Row
tcl_row (tcl.Value c) = value_row c
-- catch script ?resultVarName?
tcl_row tcl.Catch = plain (between 1 2) (Each Script Name Text Text)
-- eval arg ?arg ...?
tcl_row tcl.Eval = plain (at_least 1) (Alone Script)
-- exit ?returnCode?
tcl_row tcl.Exit = plain (between 0 1) texts
-- expr arg ?arg arg ...?
tcl_row tcl.Expr = plain (at_least 1) (Alone Expression)
-- for start test next body
tcl_row tcl.For = plain (exactly 4) (Each Script Expression Script Script)
-- foreach varlist1 list1 ?varlist2 list2 ...? body
tcl_row tcl.Foreach = plain (at_least 3) Lists
-- if expr1 ?then? body1 elseif expr2 ?then? body2 elseif ... ?else? ?bodyN?
tcl_row tcl.If = plain (at_least 2) Test
-- proc name args body
tcl_row tcl.Proc = plain (exactly 3) (Each Text Text Script Text)
-- switch ?-exact|-glob|-regexp? ?--? string {pattern body ?pattern body ...?}
tcl_row tcl.Switch = plain (at_least 2) texts
-- while test body
tcl_row tcl.While = plain (exactly 2) (Each Expression Script Text Text)

abbrev pub expect_row : ExpectCommand → Row
-- after ms
expect_row expect.After = plain (exactly 1) texts
-- clock option
expect_row expect.Clock = plain (at_least 1) Choice
-- close ?-i spawn_id?, close channelId
expect_row expect.Close = flagged own.None true false (between 0 1)
-- eof channelId
expect_row expect.Eof = plain (exactly 1) texts
-- exec ?-ignorestderr? ?-keepnewline? ?--? arg ?arg ...?
expect_row expect.Exec = flagged own.Exec false true (at_least 1)
-- exp_continue ?-continue_timer?
expect_row expect.ExpContinue = flagged own.Timer false false (exactly 0)
-- exp_pid ?-i spawn_id?
expect_row expect.ExpPid = flagged own.None true false (exactly 0)
-- expect ?-opts pat1 body1 ...? ?-opts patn bodyn?
expect_row expect.Expect = plain (at_least 0) Pattern
-- expect_after ?expect_args?
expect_row expect.ExpectAfter = plain (at_least 0) Pattern
-- expect_before ?expect_args?
expect_row expect.ExpectBefore = plain (at_least 0) Pattern
-- file option name ?arg ...?
expect_row expect.File = plain (at_least 1) Choice
-- flush channelId
expect_row expect.Flush = plain (exactly 1) texts
-- gets channelId ?varName?
expect_row expect.Gets = plain (between 1 2) (Each Text Name Text Text)
-- log_user -info|0|1
expect_row expect.LogUser = plain (exactly 1) Choice
-- match_max ?-d? ?-i spawn_id? ?size?
expect_row expect.MatchMax = flagged own.Default true false (between 0 1)
-- open fileName ?access?
expect_row expect.Open = plain (between 1 2) texts
-- pid
expect_row expect.Pid = plain (exactly 0) texts
-- puts ?-nonewline? ?channelId? string
expect_row expect.Puts = plain (between 1 3) Output
-- pwd
expect_row expect.Pwd = plain (exactly 0) texts
-- read ?-nonewline? channelId, read channelId numChars
expect_row expect.Read = plain (between 1 2) texts
-- remove_nulls ?-d? ?-i spawn_id? ?value?
expect_row expect.RemoveNulls = flagged own.Default true false (between 0 1)
-- send ?-s? ?-h? ?-i spawn_id? ?--? string
expect_row expect.Send = flagged own.Send true true (exactly 1)
-- send_error ?--? string
expect_row expect.SendError = flagged own.None false true (exactly 1)
-- send_user ?--? string
expect_row expect.SendUser = flagged own.None false true (exactly 1)
-- sleep seconds
expect_row expect.Sleep = plain (exactly 1) texts
-- source fileName
expect_row expect.Source = plain (exactly 1) texts
-- spawn ?-noecho? ?-tty? ?-notty? ?-nottycopy? ?-nottyinit? ?-ignore signal? ?--? program ?args?
expect_row expect.Spawn = flagged own.Spawn false true (at_least 1)
-- system arg ?arg ...?
expect_row expect.System = plain (at_least 1) texts
-- timestamp ?-format format? ?-seconds n? ?-gmt?
expect_row expect.Timestamp = plain (at_least 0) texts
-- wait ?-nowait? ?-i spawn_id?
expect_row expect.Wait = flagged own.Wait true false (exactly 0)

-- The row of a command.
abbrev pub row_of : Command → Row
row_of (Tcl c) = tcl_row c
row_of (Expect c) = expect_row c
