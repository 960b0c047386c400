-- The words of a command that starts a program in a terminal of the system.
use Rattle.std.specs.Prelude.{ℕ, List, [], ◌∷◌, ◌++◌, codes}
use Rattle.sh_words.specs.declared.changes.EnvironmentChange.{EnvironmentChange}
use Rattle.sh_words.specs.Quoting.{quoted_words}
use Rattle.sh_words.specs.Changes.{changes_text, change_commands}

-- The program and its arguments, and other lists of words.
abbrev pub Words : Type 0
Words = List (List ℕ)

abbrev pub program_of : Words → List ℕ
program_of [] = []
program_of (program ∷ arguments) = program

-- The command stty(1), if there are settings.
abbrev pub settings_text : Words → List ℕ
settings_text [] = []
settings_text (setting ∷ settings) = codes "stty " ++ quoted_words (setting ∷ settings) ++ codes "; "

abbrev pub settings_commands : Words → List Words
settings_commands [] = []
settings_commands (setting ∷ settings) = (codes "stty" ∷ setting ∷ settings) ∷ []

-- The text of the commands that run in the terminal: the settings, the changes of the environment, and the program in
-- place of the shell.
abbrev pub command_text : Words → Words → List EnvironmentChange → List ℕ
command_text words settings changes = settings_text settings ++ changes_text changes ++ codes "exec " ++ quoted_words words

-- These commands.
abbrev pub commands : Words → Words → List EnvironmentChange → List Words
commands words settings changes = settings_commands settings ++ change_commands changes ++ (codes "exec" ∷ words) ∷ []

-- A script of three arguments: commands, a program and changes of the environment. If the program is there after the
-- changes, it writes a newline and runs the commands in a terminal by script(1), with cat(1) for the input. When the
-- commands end, cat(1) ends, and the script has their exit status. When the input ends, all ends.
unfoldable pub terminal_script : List ℕ
terminal_script = codes "exec 2>/dev/null; (eval \"$3\"; command -v -- \"$2\") >/dev/null || exit 127; echo; trap : TERM; { cat; kill -KILL 0; } | { SHELL=/bin/sh script -qefc \"$1\" /dev/null; s=$?; trap \"\" TERM; kill -TERM 0; exit $s; }"

-- The script in a session of its own, by setsid(1).
abbrev pub terminal_words : Words → Words → List EnvironmentChange → Words
terminal_words words settings changes =
    codes "setsid"
    ∷ codes "-w"
    ∷ codes "sh"
    ∷ codes "-c"
    ∷ terminal_script
    ∷ codes "sh"
    ∷ command_text words settings changes
    ∷ program_of words
    ∷ changes_text changes
    ∷ []
