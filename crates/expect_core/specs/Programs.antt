-- The programs that commands run: exec(n), `system` of expect(1), source(n), open(n), file(n), pwd(n) and pid(n).
use Rattle.std.specs.Prelude.{ℕ, ◌==◌, List, [], ◌∷◌, ◌++◌, codes, length, Bool, true, false, ◌||◌, if◌then◌else◌, Option, Some, None, Ok, Err}
use Rattle.std.specs.Str.{bytes_eq}
use Rattle.tcl_words.specs.Bytes as ascii
use Rattle.tcl_subst.specs.Variables.{Variables}
use Rattle.command_table.specs.declared.commands.ExpectCommand.TheVariants as command
use Rattle.command_table.specs.declared.options.FileOption.{FileOption}
use Rattle.command_table.specs.declared.options.FileOption.TheVariants as file
use Rattle.command_table.specs.Counts.{fits}
use Rattle.command_table.specs.Flags.{begins_with_minus}
use Rattle.command_table.specs.Options.{file_option, file_count}
use Rattle.tcl_results.specs.Given.{arg}
use Rattle.tcl_results.specs.Said.{Said, ◌>>=◌, list_of}
use Rattle.tcl_results.specs.Texts.{quoted, wrong_args, bad_option}
use Rattle.expect_core.specs.declared.tool.Job.{Job}
use Rattle.expect_core.specs.declared.tool.Job.TheVariants as job
use Rattle.expect_core.specs.declared.tool.Tool.{Tool}
use Rattle.expect_core.specs.declared.turn.Deed.{Deed}
use Rattle.expect_core.specs.declared.own.Own.{Own}
use Rattle.expect_core.specs.Flags.{arguments, bad_flag}
use Rattle.expect_core.specs.Scoped.{needed}
use Rattle.expect_core.specs.Texts.{spaced, program_of}
use Rattle.expect_core.specs.Tools.{tooling}

abbrev pub Words : Type 0
Words = List (List ℕ)

abbrev pub tool : Words → List ℕ → Job → Tool
tool words failing job = record { words = words; failing = failing; job = job }

-- A program whose error is that it was not executed.
abbrev pub plain_tool : Words → Job → Tool
plain_tool words job = tool words (quoted (codes "couldn't execute ") (program_of words)) job

-- A command of the shell.
abbrev pub shell : List ℕ → Words → Words
shell script arguments = codes "sh" ∷ codes "-c" ∷ script ∷ arguments

abbrev pub running : Said Tool → Own → Said Deed
running said o = said >>= λ t. tooling t o

-- exec ?-ignorestderr? ?-keepnewline? ?--? arg ?arg ...?

-- A word that begins like a redirection or like the next program of several.
abbrev pub is_sign : ℕ → Bool
is_sign b = (b == ascii.bar) || (b == ascii.less) || (b == ascii.greater)

abbrev pub redirects : List ℕ → Bool
redirects [] = false
redirects (b ∷ []) = if is_sign b then true else b == ascii.ampersand
redirects (b ∷ c ∷ bytes) = if is_sign b then true else if b == ascii.digit_2 then c == ascii.greater else false

-- Words that are all for the program itself, behind those before them.
abbrev pub program_behind : Words → Words → Said Words
program_behind all [] = Ok all
program_behind all (w ∷ words) = if redirects w then Err (bad_option w) else program_behind (all ++ w ∷ []) words

-- The words of one program.
abbrev pub program : Words → Said Words
program words = program_behind [] words

abbrev pub executing : List ℕ → Words → Said Tool
executing name args = arguments command.Exec name args >>= λ f. program f.1 >>= λ words. Ok (plain_tool words (job.Exec f.0.on))

-- system arg ?arg ...?

abbrev pub joined : Words → List ℕ
joined [] = []
joined (w ∷ words) = w ++ spaced words

abbrev pub by_system : List ℕ → Words → Said Tool
by_system name args =
    arguments command.System name args >>= λ f. Ok (plain_tool (codes "/bin/sh" ∷ codes "-c" ∷ joined f.1 ∷ []) job.System)

-- ---- Names of files

abbrev pub home : Variables → Said (List ℕ)
home vars = needed (codes "env(HOME)") vars

abbrev pub in_home : List ℕ → Variables → Said (List ℕ)
in_home bytes vars = home vars >>= λ folder. Ok (folder ++ bytes)

abbrev pub behind_tilde : List ℕ → List ℕ → Variables → Said (List ℕ)
behind_tilde name [] vars = in_home [] vars
behind_tilde name (b ∷ bytes) vars = if b == ascii.slash then in_home (b ∷ bytes) vars else Ok name

-- A name that is `~` or begins with `~/` begins with the user's folder.
abbrev pub file_named : List ℕ → Variables → Said (List ℕ)
file_named [] vars = Ok []
file_named (b ∷ bytes) vars = if b == ascii.tilde then behind_tilde (b ∷ bytes) bytes vars else Ok (b ∷ bytes)

-- The files with these names, behind other words.
abbrev pub files_behind : Words → Words → Variables → Said Words
files_behind words [] vars = Ok words
files_behind words (name ∷ names) vars = file_named name vars >>= λ path. files_behind (words ++ path ∷ []) names vars

-- ---- Reading and writing files

-- Writes the file that its argument names. Status 2: it isn't there, 13: it may not be read.
unfoldable pub reader : List ℕ
reader = codes "test -e \"$1\" || exit 2; test -d \"$1\" && exit 21; test -r \"$1\" || exit 13; exec cat <\"$1\""

-- Opens the file that its first argument names, behind its end if the second is `a`. A newline says that it is open.
unfoldable pub writer : List ℕ
writer = codes "exec 2>/dev/null; if test \"$2\" = a; then exec 3>>\"$1\"; else exec 3>\"$1\"; fi; echo; exec cat >&3"

abbrev pub reading_words : List ℕ → Words
reading_words name = shell reader (codes "sh" ∷ name ∷ [])

abbrev pub writing_words : List ℕ → List ℕ → Words
writing_words name mode = shell writer (codes "sh" ∷ name ∷ mode ∷ [])

-- source fileName
abbrev pub by_source : List ℕ → Words → Variables → Said Tool
by_source name args vars =
    arguments command.Source name args >>= λ f.
    file_named (arg 0 f.1) vars >>= λ path.
    Ok (tool (reading_words path) (quoted (codes "couldn't read file ") (arg 0 f.1)) job.Source)

-- open fileName ?access?

abbrev pub not_opened : List ℕ → List ℕ
not_opened name = quoted (codes "couldn't open ") name

abbrev pub mode_of : Words → List ℕ
mode_of (name ∷ mode ∷ more) = mode
mode_of args = codes "r"

abbrev pub open_file : List ℕ → List ℕ → List ℕ → Said Tool
open_file name path mode =
    if bytes_eq mode (codes "r") then Ok (tool (reading_words path) (not_opened name) job.Reader)
    else if bytes_eq mode (codes "w") || bytes_eq mode (codes "a") then Ok (tool (writing_words path mode) (not_opened name) job.Writer)
    else Err (bad_option mode)

abbrev pub if_read : List ℕ → Said Words → Said Words
if_read mode words = if bytes_eq mode (codes "r") then words else Err (bad_option mode)

-- A name that begins with `|` is a program and its arguments.
abbrev pub open_program : List ℕ → List ℕ → Said Tool
open_program text mode = if_read mode (list_of text) >>= λ list. program list >>= λ words. Ok (plain_tool words job.Pipe)

abbrev pub open_named : List ℕ → List ℕ → Variables → Said Tool
open_named [] mode vars = open_file [] [] mode
open_named (b ∷ bytes) mode vars =
    if b == ascii.bar then open_program bytes mode
    else file_named (b ∷ bytes) vars >>= λ path. open_file (b ∷ bytes) path mode

abbrev pub by_open : List ℕ → Words → Variables → Said Tool
by_open name args vars = arguments command.Open name args >>= λ f. open_named (arg 0 f.1) (mode_of f.1) vars

-- ---- file option name ?arg ...?

-- A test of test(1).
abbrev pub testing : List ℕ → List ℕ → Tool
testing flag path = plain_tool (codes "test" ∷ flag ∷ path ∷ []) job.Test

unfoldable pub stat_format : List ℕ
stat_format = codes "%X %Z %d %g %i %f %Y %h %s %u"

abbrev pub stating : List ℕ → List ℕ → Job → Tool
stating name path job =
    tool (codes "stat" ∷ codes "-L" ∷ codes "-c" ∷ stat_format ∷ codes "--" ∷ path ∷ []) (quoted (codes "could not read ") name) job

-- The names behind `-force` and `--`.
abbrev pub behind_force : Words → Said Words
behind_force [] = Ok []
behind_force (w ∷ words) =
    if bytes_eq w (codes "-force") then behind_force words
    else if bytes_eq w (codes "--") then Ok words
    else if begins_with_minus w then Err (bad_flag w)
    else Ok (w ∷ words)

abbrev pub at_least_one : List ℕ → Words → Said Words
at_least_one command [] = Err (wrong_args command)
at_least_one command (name ∷ names) = Ok (name ∷ names)

abbrev pub exactly_two : List ℕ → Words → Said Words
exactly_two command names = if length names == 2 then Ok names else Err (wrong_args command)

-- The words of rm(1) or cp(1), without the names.
abbrev pub forced : List ℕ → Words
forced program = program ∷ codes "-f" ∷ codes "--" ∷ []

abbrev pub deleting : List ℕ → Words → Variables → Said Tool
deleting command args vars =
    behind_force args >>= λ given.
    at_least_one command given >>= λ names.
    files_behind (forced (codes "rm")) names vars >>= λ words.
    Ok (tool words (quoted (codes "error deleting ") (arg 0 names)) job.Change)

abbrev pub copying : List ℕ → Words → Variables → Said Tool
copying command args vars =
    behind_force args >>= λ given.
    exactly_two command given >>= λ names.
    files_behind (forced (codes "cp")) names vars >>= λ words.
    Ok (tool words (quoted (codes "error copying ") (arg 0 names)) job.Change)

-- What is said of the file that the first argument names.
abbrev pub about : (List ℕ → Tool) → Words → Variables → Said Tool
about made args vars = file_named (arg 0 args) vars >>= λ path. Ok (made path)

abbrev pub by_option : FileOption → List ℕ → Words → Variables → Said Tool
by_option file.Exists command args vars = about (testing (codes "-e")) args vars
by_option file.Readable command args vars = about (testing (codes "-r")) args vars
by_option file.Writable command args vars = about (testing (codes "-w")) args vars
by_option file.Executable command args vars = about (testing (codes "-x")) args vars
by_option file.IsFile command args vars = about (testing (codes "-f")) args vars
by_option file.IsDirectory command args vars = about (testing (codes "-d")) args vars
by_option file.Size command args vars = about (λ path. stating (arg 0 args) path (job.Field 8)) args vars
by_option file.Mtime command args vars = about (λ path. stating (arg 0 args) path (job.Field 6)) args vars
by_option file.Stat command args vars = about (λ path. stating (arg 0 args) path (job.Stat (arg 1 args))) args vars
by_option file.Delete command args vars = deleting command args vars
by_option file.Copy command args vars = copying command args vars

abbrev pub file_by : List ℕ → List ℕ → Option FileOption → Words → Variables → Said Tool
file_by command word None args vars = Err (bad_option word)
file_by command word (Some option) args vars =
    if fits (file_count option) (length args) then by_option option command args vars else Err (wrong_args command)

abbrev pub behind_option : Words → Words
behind_option [] = []
behind_option (option ∷ args) = args

abbrev pub by_file : List ℕ → Words → Variables → Said Tool
by_file name args vars = arguments command.File name args >>= λ f. file_by name (arg 0 f.1) (file_option (arg 0 f.1)) (behind_option f.1) vars

-- ---- pwd, pid

abbrev pub by_pwd : List ℕ → Words → Said Tool
by_pwd name args = arguments command.Pwd name args >>= λ f. Ok (plain_tool (shell (codes "pwd -P") []) job.Line)

abbrev pub by_pid : List ℕ → Words → Said Tool
by_pid name args = arguments command.Pid name args >>= λ f. Ok (plain_tool (shell (codes "echo $PPID") []) job.Line)

-- ---- Standard error

-- The program that writes to standard error what it reads.
abbrev pub complaining : List ℕ → Tool
complaining text = tool (shell (codes "exec cat >&2") []) (not_opened (codes "stderr")) (job.Complainer text)
