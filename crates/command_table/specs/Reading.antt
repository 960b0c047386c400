-- How arguments are read, one after another: those of `if` (if(n)) and `foreach` (foreach(n)), and pattern lists
-- (expect(1)).
use Rattle.std.specs.Prelude.{ℕ, ◌-◌, ◌%◌, ◌==◌, Bool, true, false, ◌||◌, List, codes, Option, Some, None, bytes_eq, if◌then◌else◌}
use Rattle.command_table.specs.declared.reading.Kind.{Kind}
use Rattle.command_table.specs.declared.reading.Kind.TheVariants.{Text, Name, Script, Expression}
use Rattle.command_table.specs.declared.reading.Stage.{Stage}
use Rattle.command_table.specs.declared.reading.Stage.TheVariants.{Each, Alone, Lists, Listed, Choice, Front, Test, Then, Branch, Ends, Else, Done, Over, Pattern, Operand, Written, Action, Output}
use Rattle.command_table.specs.Flags.{begins_with_minus}

-- All further arguments are texts.
abbrev pub texts : Stage
texts = Each Text Text Text Text

-- An argument of `foreach`, given the number of arguments left. The last is the script. Before it, lists of names and
-- their lists take turns.
abbrev pub listed : ℕ → Kind
listed n =
    if n == 1 then Script
    else if n % 2 == 1 then Name
    else Text

-- `None` is a word that isn't written plainly: it may be any word. Arguments after it are read as texts.

-- After a condition of `if`.
abbrev pub behind_test : Option (List ℕ) → Kind × Stage
behind_test None = (Text, texts)
behind_test (Some word) = if bytes_eq word (codes "then") then (Text, Branch) else (Script, Ends)

-- After a body of `if`.
abbrev pub behind_body : Option (List ℕ) → Kind × Stage
behind_body None = (Text, texts)
behind_body (Some word) =
    if bytes_eq word (codes "elseif") then (Text, Test)
    else if bytes_eq word (codes "else") then (Text, Else)
    else (Script, Done)

-- The stage after a flag or a pattern. After an unknown flag, all arguments are texts.
abbrev pub expect_word : List ℕ → Stage
expect_word word =
    if bytes_eq word (codes "-i") || bytes_eq word (codes "-timeout") then Operand
    else if bytes_eq word (codes "-re") || bytes_eq word (codes "-ex") || bytes_eq word (codes "-gl") then Written
    else if bytes_eq word (codes "-regexp") || bytes_eq word (codes "-exact") || bytes_eq word (codes "-glob") then Written
    else if bytes_eq word (codes "--") then Written
    else if bytes_eq word (codes "-nocase") || bytes_eq word (codes "-indices") || bytes_eq word (codes "-notransfer") then Pattern
    else if begins_with_minus word || bytes_eq word (codes "null") then texts
    else Action

-- Here, a word that isn't written plainly is a pattern.
abbrev pub expect_step : Option (List ℕ) → Kind × Stage
expect_step None = (Text, Action)
expect_step (Some word) = (Text, expect_word word)

-- What an argument is read as, and how those after it are read.
abbrev pub step : Stage → Option (List ℕ) → Kind × Stage
step (Each first second third others) word = (first, Each second third others others)
step (Alone kind) word = (kind, texts)
step Lists word = (Text, texts)
-- foreach varlist1 list1 ?varlist2 list2 ...? body
step (Listed n) word = (listed n, Listed (n - 1))
step Choice word = (Text, texts)
step (Front switches) word = (Text, texts)
-- if expr1 ?then? body1 elseif expr2 ?then? body2 elseif ... ?else? ?bodyN?
step Test word = (Expression, Then)
step Then word = behind_test word
step Branch word = (Script, Ends)
step Ends word = behind_body word
step Else word = (Script, Done)
step Done word = (Text, Over)
step Over word = (Text, Over)
-- expect ?-opts pat1 body1 ...? ?-opts patn bodyn?
step Pattern word = expect_step word
step Operand word = (Text, Pattern)
step Written word = (Text, Action)
step Action word = (Script, Pattern)
step Output word = (Text, texts)

-- The first stage of a command with this number of arguments.
abbrev pub begin : Stage → ℕ → Stage
begin (Alone kind) n = if n == 1 then Alone kind else texts
begin Lists n = Listed n
begin other n = other

-- An `if` that ends at this stage has too few or too many arguments.
abbrev pub is_short : Stage → Bool
is_short Test = true
is_short Then = true
is_short Branch = true
is_short Else = true
is_short Over = true
is_short other = false
