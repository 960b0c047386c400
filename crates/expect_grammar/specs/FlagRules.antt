-- The flags of commands other than `expect`, as in expect(1), rule by rule. Flags precede the arguments of a command.
use Rattle.std.specs.Prelude.{◌≡◌, ℕ, Bool, true, false, List, [], ◌∷◌, Some, codes}
use Rattle.tcl_words.specs.Bytes.{minus}
use Rattle.tcl_words.specs.Lists.{begins_with}
use Rattle.tcl_results.specs.Texts.{wrong_args}
use Rattle.expect_core.specs.Flags.{no_flags, bad_flag, showing}
use Rattle.expect_core.specs.declared.flags.Flags.{Flags}
use Rattle.command_table.specs.declared.flags.Own.{Own}
use Rattle.command_table.specs.declared.flags.Own.TheVariants as switch
use Rattle.command_table.specs.declared.flags.Flags.{Flags as Takes}

-- ---- One flag

-- The form of a command's own flag.
pub data IsSwitch : List ℕ → Own → Type 0 where
  -- Of `spawn`: the command isn't shown.
  noecho : IsSwitch (codes "-noecho") switch.Spawn
  -- Of `exec`: the last newline of the output stays.
  keepnewline : IsSwitch (codes "-keepnewline") switch.Exec
  -- Of `match_max` and `remove_nulls`: the setting applies to processes started later.
  default : IsSwitch (codes "-d") switch.Default
  -- Of `exp_continue`: the time limit of `expect` doesn't start anew.
  continue_timer : IsSwitch (codes "-continue_timer") switch.Timer
  -- Of `wait`: it doesn't wait for the end of the process.
  nowait : IsSwitch (codes "-nowait") switch.Wait

-- One of two flags of which the last counts.
pub data IsChoice : List ℕ → Bool → Own → Type 0 where
  -- Of `spawn`: the process is on a terminal of the system, or it isn't.
  tty : IsChoice (codes "-tty") true switch.Spawn
  notty : IsChoice (codes "-notty") false switch.Spawn
  -- Of `send`: the text goes out byte by byte, or in pieces.
  human : IsChoice (codes "-h") true switch.Send
  slow : IsChoice (codes "-s") false switch.Send

-- A flag that changes nothing here. The line of a `spawn` shows it.
pub data IsShown : List ℕ → Own → Type 0 where
  -- Of `spawn`: the modes of the terminal aren't copied from that of the user.
  nottycopy : IsShown (codes "-nottycopy") switch.Spawn
  -- Of `spawn`: the modes of the terminal aren't set to sane ones.
  nottyinit : IsShown (codes "-nottyinit") switch.Spawn
  -- Of `exec`: standard error makes no error.
  ignorestderr : IsShown (codes "-ignorestderr") switch.Exec

-- A flag that the command accepts.
pub data IsFlag (takes : Takes) : List ℕ → Type 0 where
  -- Its own flag. A command has at most one.
  own : (word : List ℕ) (s : Own) → takes.own ≡ s → IsSwitch word s → IsFlag takes word
  -- The flag for a spawn id, which must follow.
  id : takes.id ≡ true → IsFlag takes (codes "-i")
  -- The flag for the end of flags.
  end : takes.end ≡ true → IsFlag takes (codes "--")
  -- One of two flags.
  choice : (word : List ℕ) (on : Bool) (s : Own) → takes.own ≡ s → IsChoice word on s → IsFlag takes word
  -- A flag that changes nothing.
  shown : (word : List ℕ) (s : Own) → takes.own ≡ s → IsShown word s → IsFlag takes word
  -- The flag of `spawn` for a signal that the process ignores, which must follow.
  ignore : takes.own ≡ switch.Spawn → IsFlag takes (codes "-ignore")

-- ---- All flags

-- `Stand takes f words g behind`: the words begin with flags, and `behind` is the rest. Together with the flags before
-- them, which mean f, they mean g.
pub data Stand (takes : Takes) : Flags → List (List ℕ) → Flags → List (List ℕ) → Type 0 where
  -- No flag.
  none : (f : Flags) (words : List (List ℕ)) → Stand takes f words f words
  -- The command's own flag, and more flags.
  own : (f g : Flags) (word : List ℕ) (rest behind : List (List ℕ)) (s : Own) → takes.own ≡ s → IsSwitch word s
      → Stand takes (record f { on = true }) rest g behind → Stand takes f (word ∷ rest) g behind
  -- `-i` with a spawn id, whatever word that is, and more flags. The last spawn id counts.
  id : (f g : Flags) (word : List ℕ) (rest behind : List (List ℕ)) → takes.id ≡ true
      → Stand takes (record f { id = Some word }) rest g behind → Stand takes f (codes "-i" ∷ word ∷ rest) g behind
  -- One of two flags, and more flags. The last of the two counts.
  choice : (f g : Flags) (word : List ℕ) (rest behind : List (List ℕ)) (on : Bool) (s : Own) → takes.own ≡ s → IsChoice word on s
      → Stand takes (record f { choice = Some on }) rest g behind → Stand takes f (word ∷ rest) g behind
  -- A flag that changes nothing, and more flags.
  shown : (f g : Flags) (word : List ℕ) (rest behind : List (List ℕ)) (s : Own) → takes.own ≡ s → IsShown word s
      → Stand takes (showing word f) rest g behind → Stand takes f (word ∷ rest) g behind
  -- `-ignore` of `spawn` with a signal, whatever word that is, and more flags. Both words are shown.
  ignore : (f g : Flags) (word : List ℕ) (rest behind : List (List ℕ)) → takes.own ≡ switch.Spawn
      → Stand takes (showing word (showing (codes "-ignore") f)) rest g behind → Stand takes f (codes "-ignore" ∷ word ∷ rest) g behind

-- `End takes behind rest`: the words after the flags end them, and `rest` is left as arguments.
pub data End (takes : Takes) : List (List ℕ) → List (List ℕ) → Type 0 where
  -- No further word.
  over : End takes [] []
  -- A word that doesn't begin with a minus. It is the first argument.
  argument : (word : List ℕ) (rest : List (List ℕ)) → begins_with minus word ≡ false → End takes (word ∷ rest) (word ∷ rest)
  -- `--`, if the command accepts it. The arguments after it may begin with a minus.
  last : (rest : List (List ℕ)) → takes.end ≡ true → End takes (codes "--" ∷ rest) rest

-- `Wrong name takes behind text`: the word after the flags is wrong, and the command with this name fails with this
-- text.
pub data Wrong (name : List ℕ) (takes : Takes) : List (List ℕ) → List ℕ → Type 0 where
  -- A word that begins with a minus and is no flag of the command.
  unknown : (word : List ℕ) (rest : List (List ℕ)) → begins_with minus word ≡ true → ¬ IsFlag takes word → Wrong name takes (word ∷ rest) (bad_flag word)
  -- `-i` with no word after it.
  no_id : takes.id ≡ true → Wrong name takes (codes "-i" ∷ []) (wrong_args name)
  -- `-ignore` with no word after it.
  no_signal : takes.own ≡ switch.Spawn → Wrong name takes (codes "-ignore" ∷ []) (wrong_args name)

-- The flags at the front of these words mean f, and `rest` is left as arguments.
abbrev pub Say : Takes → List (List ℕ) → Flags → List (List ℕ) → Type 0
Say takes words f rest = (behind : List (List ℕ)) × Stand takes no_flags words f behind × End takes behind rest

-- The command with this name fails with this text, because of the first error in the flags at the front of these words.
abbrev pub Fail : List ℕ → Takes → List (List ℕ) → List ℕ → Type 0
Fail name takes words text = (f : Flags) × (behind : List (List ℕ)) × Stand takes no_flags words f behind × Wrong name takes behind text
