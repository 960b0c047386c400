-- `puts`, `send_user` and `log_user` (expect(1)).
use Rattle.std.specs.Prelude.{ℕ, ◌==◌, List, [], ◌∷◌, ◌++◌, codes, length, Bool, true, false, if◌then◌else◌, Option, Some, None, Ok, Err}
use Rattle.std.specs.Str.{bytes_eq}
use Rattle.tcl_words.specs.Bytes as ascii
use Rattle.command_table.specs.declared.commands.ExpectCommand.TheVariants as command
use Rattle.command_table.specs.Flags.{begins_with_minus}
use Rattle.tcl_results.specs.Given.{arg}
use Rattle.tcl_results.specs.Said.{Said, ◌>>=◌}
use Rattle.tcl_results.specs.Texts.{wrong_args, bad_option}
use Rattle.expect_core.specs.declared.effect.Effect.{Effect}
use Rattle.expect_core.specs.declared.effect.Effect.TheVariants.{Tell, LogUser}
use Rattle.expect_core.specs.declared.turn.Deed.{Deed}
use Rattle.expect_core.specs.declared.turn.Deed.TheVariants.{Alone}
use Rattle.expect_core.specs.declared.own.Own.{Own}
use Rattle.expect_core.specs.Flags.{bad_flag, arguments}
use Rattle.expect_core.specs.Texts.{bit}
use Rattle.expect_core.specs.Opened.{channel_of}
use Rattle.expect_core.specs.Channels.{written_to, putting_to, putting}
use Rattle.expect_core.specs.Tools.{tooling}
use Rattle.expect_core.specs.Programs.{complaining}
use Rattle.expect_core.specs.Turns.{done}

-- puts ?-nonewline? ?channelId? text

-- A text, with a newline if `line`.
abbrev pub ended : Bool → List ℕ → List ℕ
ended line text = if line then text ++ ascii.newline ∷ [] else text

-- The channel and what is written to it, given a text, or a channel and a text.
abbrev pub put_to : List ℕ → Bool → List (List ℕ) → Said (List ℕ × List ℕ)
put_to name line (text ∷ []) = Ok (codes "stdout", ended line text)
put_to name line (channel ∷ text ∷ []) = Ok (channel, ended line text)
put_to name line other = Err (wrong_args name)

-- The first word may be `-nonewline` if others follow.
abbrev pub put_words : List ℕ → List (List ℕ) → Said (List ℕ × List ℕ)
put_words name (w ∷ next ∷ more) = if bytes_eq w (codes "-nonewline") then put_to name false (next ∷ more) else put_to name true (w ∷ next ∷ more)
put_words name args = put_to name true args

-- The channel and what is written to it.
abbrev pub put_of : List ℕ → List (List ℕ) → Said (List ℕ × List ℕ)
put_of name args = arguments command.Puts name args >>= λ f. put_words name f.1

-- The first text for standard error, which a program writes. An empty one is not written.
abbrev pub complain_first : List ℕ → Own → Said Deed
complain_first text o = if length text == 0 then Ok (Alone [] (done [])) else tooling (complaining text) o

abbrev pub complain : Option ℕ → List ℕ → Own → Said Deed
complain None text o = complain_first text o
complain (Some i) text o = Ok (putting_to i text)

abbrev pub put_by : List ℕ → List ℕ → Own → Said Deed
put_by channel text o =
    if bytes_eq channel (codes "stdout") then Ok (Alone (Tell text ∷ []) (done []))
    else if bytes_eq channel (codes "stderr") then complain o.errors text o
    else if begins_with_minus channel then Err (bad_flag channel)
    else putting channel text o

abbrev pub puts : List ℕ → List (List ℕ) → Own → Said Deed
puts name args o = put_of name args >>= λ p. put_by p.0 p.1 o

-- The child that takes a text for a channel.

abbrev pub complained_to : Option ℕ → Said ℕ
complained_to None = Err []
complained_to (Some i) = Ok i

abbrev pub put_child : List ℕ → Own → Said ℕ
put_child channel o =
    if bytes_eq channel (codes "stderr") then complained_to o.errors
    else written_to channel o >>= λ n. Ok (channel_of n o).child

abbrev pub writing : Said (List ℕ) → Said Deed
writing said = said >>= λ text. Ok (Alone (Tell text ∷ []) (done []))

-- send_user ?--? text

abbrev pub to_user : List ℕ → List (List ℕ) → Said (List ℕ)
to_user name args = arguments command.SendUser name args >>= λ f. Ok (arg 0 f.1)

-- send_error ?--? string

abbrev pub complaint_of : List ℕ → List (List ℕ) → Said (List ℕ)
complaint_of name args = arguments command.SendError name args >>= λ f. Ok (arg 0 f.1)

abbrev pub sending_error : List ℕ → List (List ℕ) → Own → Said Deed
sending_error name args o = complaint_of name args >>= λ text. complain o.errors text o

-- log_user 0, 1 or -info

-- Whether output goes to the transcript from now on, or `None` for `-info`.
abbrev pub log_word : List ℕ → Said (Option Bool)
log_word w =
    if bytes_eq w (codes "0") then Ok (Some false)
    else if bytes_eq w (codes "1") then Ok (Some true)
    else if bytes_eq w (codes "-info") then Ok None
    else Err (bad_option w)

abbrev pub log_set : Option Bool → List Effect
log_set None = []
log_set (Some on) = LogUser on ∷ []

abbrev pub log_told : Option Bool → Own → List ℕ
log_told None o = bit o.log_user
log_told (Some on) o = []

abbrev pub logging : List ℕ → List (List ℕ) → Own → Said Deed
logging name args o = arguments command.LogUser name args >>= λ f. log_word (arg 0 f.1) >>= λ on. Ok (Alone (log_set on) (done (log_told on o)))
