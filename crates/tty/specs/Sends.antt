-- The input side of a terminal, and how a send changes it.
use Rattle.std.specs.Prelude.{◌≡◌, ℕ, ◌==◌, List, [], ◌∷◌, ◌++◌, Bool, not, ◌||◌}
use Rattle.std.specs.List.{list_all, concat}
use Rattle.tcl_words.specs.Bytes as ascii
use Rattle.tty.specs.declared.modes.Modes.{Modes}
use Rattle.tty.specs.declared.action.Action.{Action}
use Rattle.tty.specs.Editing.{ends_line}
use Rattle.tty.specs.Handed.{Handed, handed}
use Rattle.tty.specs.Echo.{echo_text}

-- The modes, the text of the unfinished line, and whether the input has ended.
pub record Waits : Type 0 where
  pub modes : Modes
  pub waiting : List ℕ
  pub ended : Bool

-- A byte that neither ends a line nor edits it.
abbrev pub is_plain : ℕ → Bool
is_plain b = not (ends_line b || b == ascii.kill || b == ascii.delete)

abbrev pub all_plain : List ℕ → Bool
all_plain t = list_all is_plain t

-- What a send of these bytes hands over.
abbrev pub handed_by : Waits → List ℕ → Handed
handed_by l x = handed l.modes l.waiting l.ended x

-- The line after this send.
abbrev pub line_after : Waits → List ℕ → Waits
line_after l x = record l { waiting = (handed_by l x).waiting; ended = (handed_by l x).ended }

abbrev pub echo_of : Waits → List ℕ → List ℕ
echo_of l x = echo_text l.modes l.waiting x

-- The line after several sends, one after another.
abbrev pub line_after_all : Waits → List (List ℕ) → Waits
line_after_all l [] = l
line_after_all l (x ∷ xs) = line_after_all (line_after l x) xs

abbrev pub actions_of_all : Waits → List (List ℕ) → List Action
actions_of_all l [] = []
actions_of_all l (x ∷ xs) = (handed_by l x).actions ++ actions_of_all (line_after l x) xs

abbrev pub echo_of_all : Waits → List (List ℕ) → List ℕ
echo_of_all l [] = []
echo_of_all l (x ∷ xs) = echo_of l x ++ echo_of_all (line_after l x) xs

-- Several sends are equivalent to one send of all their bytes.
pub record SameAsJoined (l : Waits) (xs : List (List ℕ)) : Type 0 where
  pub actions : actions_of_all l xs ≡ (handed_by l (concat xs)).actions
  pub echo : echo_of_all l xs ≡ echo_of l (concat xs)
  pub line : line_after_all l xs ≡ line_after l (concat xs)
