-- Changes of the environment, as the shell's commands `unset` and `export`.
use Rattle.std.specs.Prelude.{◌≡◌, ℕ, true, List, [], ◌∷◌, ◌++◌, map, codes}
use Rattle.std.specs.List.{flat_map}
use Rattle.tcl_words.specs.Bytes as ascii
use Rattle.sh_words.specs.declared.changes.EnvironmentChange.{EnvironmentChange}
use Rattle.sh_words.specs.declared.changes.EnvironmentChange.TheVariants.{Removed, Set}
use Rattle.sh_words.specs.Quoting.{quote}
use Rattle.sh_words.specs.Reading.{is_name}

-- NAME=VALUE
abbrev pub assignment : List ℕ → List ℕ → List ℕ
assignment name value = name ++ ascii.equals ∷ value

-- The text of the command that makes a change.
abbrev pub change_text : EnvironmentChange → List ℕ
change_text (Removed name) = codes "unset " ++ name ++ codes "; "
change_text (Set name value) = codes "export " ++ quote (assignment name value) ++ codes "; "

abbrev pub changes_text : List EnvironmentChange → List ℕ
changes_text changes = flat_map change_text changes

-- The words of the command that makes a change.
abbrev pub change_command : EnvironmentChange → List (List ℕ)
change_command (Removed name) = codes "unset" ∷ name ∷ []
change_command (Set name value) = codes "export" ∷ assignment name value ∷ []

abbrev pub change_commands : List EnvironmentChange → List (List (List ℕ))
change_commands changes = map change_command changes

-- Each removed variable has a name.
abbrev pub AreNamed : List EnvironmentChange → Type 0
AreNamed [] = Unit {0}
AreNamed (Removed name ∷ changes) = (is_name name ≡ true) × AreNamed changes
AreNamed (Set name value ∷ changes) = AreNamed changes
