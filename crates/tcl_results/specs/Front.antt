-- Flags at the front of the arguments. A word is a flag if it begins with `-` and at least `tail` words follow. The word
-- after a flag with a value is its value. `--` is the end of the flags, if the command has it.
use Rattle.std.specs.Prelude.{◌≡◌, ◌≢◌, ℕ, nat_lt, Bool, true, false, ◌&&◌, List, [], ◌∷◌, length, take, drop, codes, bytes_eq, Option, Some, None, Result, Ok, Err, if◌then◌else◌}
use Rattle.std.specs.List.{list_any}
use Rattle.command_table.specs.declared.switches.Switch.{Switch}
use Rattle.command_table.specs.declared.switches.Switches.{Switches}
use Rattle.command_table.specs.Flags.{begins_with_minus}
use Rattle.command_table.specs.Switches.{switch_of, takes_value, is_end, words_behind}
use Rattle.tcl_results.specs.declared.complaint.Complaint.{Complaint}
use Rattle.tcl_results.specs.declared.complaint.Complaint.TheVariants.{Memory}
use Rattle.tcl_results.specs.Given.{if_fits}
use Rattle.tcl_results.specs.Texts.{bad_flag}
use Rattle.tcl_results.specs.Says.{text_of}
use Rattle.tcl_results.specs.Said.{Said, ◌>>=◌}

-- Flags with their values, and the arguments after them.
abbrev pub Front : Type 0
Front = List (List ℕ) × List (List ℕ)

abbrev pub with_flag : List ℕ → Front → Front
with_flag w p = (w ∷ p.0, p.1)

-- `on` gives the words after this flag; its argument tells whether the next word is the flag's value.
abbrev pub at_flag : List ℕ → Option Switch → List (List ℕ) → (Bool → Said Front) → Said Front
at_flag w None ws on = Err (bad_flag w)
at_flag w (Some x) ws on = if is_end x then Ok ([], ws) else (on (takes_value x) >>= λ p. Ok (with_flag w p))

-- `due` is true if the next word is the value of a flag.
abbrev pub front_from : Switches → ℕ → Bool → List (List ℕ) → Said Front
front_from s tail due [] = Ok ([], [])
front_from s tail true (w ∷ ws) = front_from s tail false ws >>= λ p. Ok (with_flag w p)
front_from s tail false (w ∷ ws) =
    if nat_lt tail (length (w ∷ ws)) && begins_with_minus w then at_flag w (switch_of s w) ws (λ due. front_from s tail due ws)
    else Ok ([], w ∷ ws)

abbrev pub front : Switches → ℕ → List (List ℕ) → Said Front
front s tail args = front_from s tail false args

-- The same, if so many words follow as the command allows.
abbrev pub front_of : Switches → List ℕ → List (List ℕ) → Said Front
front_of s command args = front s 0 args >>= λ p. if_fits (words_behind s) command p.1 (Ok p)

-- The first `p.0` arguments are the flags. The arguments from `p.1` on follow them.
abbrev pub SaysFront : List (List ℕ) → Result (ℕ × ℕ) Complaint → Said Front → Type 0
SaysFront args (Ok p) meant = meant ≡ Ok (take p.0 args, drop p.1 args)
SaysFront args (Err c) meant = c ≢ Memory → meant ≡ Err (text_of c)

-- The flag is given.
abbrev pub has_flag : List ℕ → List (List ℕ) → Bool
has_flag flag flags = list_any (λ f. bytes_eq f flag) flags

-- The value of the last `-start` among flags, or the text `last` if there is none. `due` is true if the next word is one.
abbrev pub start_word : Bool → List ℕ → List (List ℕ) → List ℕ
start_word due last [] = last
start_word true last (w ∷ ws) = start_word false w ws
start_word false last (w ∷ ws) = start_word (bytes_eq w (codes "-start")) last ws
