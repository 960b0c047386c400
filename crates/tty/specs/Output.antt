-- How the terminal changes a program's output (POSIX.1-2017, XBD 11.2.3: OPOST, ONLCR).
use Rattle.std.specs.Prelude.{◌≡◌, ℕ, ◌==◌, List, [], ◌∷◌, Bool, true, not, ◌&&◌, ◌||◌, if◌then◌else◌}
use Rattle.std.specs.List.{filter, AllByRecursion}
use Rattle.tcl_words.specs.Bytes as ascii
use Rattle.tty.specs.declared.modes.Modes.{Modes}

-- The bytes, each NL replaced by CR NL.
abbrev pub with_returns : List ℕ → List ℕ
with_returns [] = []
with_returns (b ∷ bs) = if b == ascii.newline then ascii.carriage_return ∷ ascii.newline ∷ with_returns bs else b ∷ with_returns bs

abbrev pub maps_newlines : Modes → Bool
maps_newlines m = m.opost && m.onlcr

abbrev pub mapped : Modes → List ℕ → List ℕ
mapped m s = if maps_newlines m then with_returns s else s

abbrev pub without_nul : List ℕ → List ℕ
without_nul s = filter (λ b. not (b == 0)) s

-- The visible output of a program. NUL bytes are removed unless `remove` is false. Then newlines are mapped.
abbrev pub convert : Bool → Modes → List ℕ → List ℕ
convert remove m s = mapped m (if remove then without_nul s else s)

-- A byte that no mode changes.
abbrev pub is_plain : ℕ → Bool
is_plain b = not (b == ascii.newline || b == 0)

abbrev pub ArePlain : List ℕ → Type 0
ArePlain = AllByRecursion (λ b. is_plain b ≡ true)
