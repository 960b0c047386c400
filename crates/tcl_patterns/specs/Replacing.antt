-- Replacing with regular patterns (regsub(n)).
use Rattle.std.specs.Prelude.{ℕ, ◌-◌, ◌==◌, nat_le, Bool, ◌&&◌, ◌||◌, List, [], ◌∷◌, ◌++◌, length, take, drop, Ok, if◌then◌else◌}
use Rattle.tcl_words.specs.Bytes as ascii
use Rattle.command_table.specs.declared.switches.Switches.TheVariants as switches
use Rattle.tcl_subst.specs.Variables.{Variables, with_value}
use Rattle.tcl_subst.specs.Writes.{set_to}
use Rattle.tcl_results.specs.Front.{front_of}
use Rattle.tcl_results.specs.Given.{arg}
use Rattle.tcl_results.specs.Ways.{Match}
use Rattle.tcl_patterns.specs.Matches.{group, bounds, part, sought, all_of}
use Rattle.tcl_results.specs.Said.{Said, ◌>>=◌, Outcome, told, on_said, on_changed, limited}
use Rattle.tcl_results.specs.Values.{count_text}
use Rattle.tcl_results.specs.Texts.{not_set}

abbrev pub is_digit : ℕ → Bool
is_digit c = nat_le ascii.digit_0 c && nat_le c ascii.digit_9

-- A backslash before the byte has a meaning.
abbrev pub is_marked : ℕ → Bool
is_marked c = c == ascii.ampersand || c == ascii.backslash || is_digit c

-- The text of a byte after a backslash: a digit stands for a group, another byte for itself.
abbrev pub marked : List ℕ → Match → ℕ → List ℕ
marked text m c = if is_digit c then part (group (c - ascii.digit_0) m) text else c ∷ []

-- The text of a byte without a backslash: `&` stands for the match, another byte for itself.
abbrev pub unmarked : List ℕ → Match → ℕ → List ℕ
unmarked text m c = if c == ascii.ampersand then part (group 0 m) text else c ∷ []

-- The text that replaces a match.
abbrev pub replacement : List ℕ → Match → List ℕ → List ℕ
replacement text m [] = []
replacement text m (c ∷ []) = unmarked text m c
replacement text m (c ∷ d ∷ by) =
    if c == ascii.backslash && is_marked d then marked text m d ++ replacement text m by
    else unmarked text m c ++ replacement text m (d ∷ by)

-- A text from a place on, with its matches replaced.
abbrev pub replaced_from : List ℕ → List ℕ → ℕ → List Match → List ℕ
replaced_from text by at [] = drop at text
replaced_from text by at (m ∷ ms) = (drop at (take (bounds m).0 text) ++ replacement text m by) ++ replaced_from text by (bounds m).1 ms

-- A text that isn't too long, and a number.
abbrev pub numbered : List ℕ → ℕ → Said (List ℕ × ℕ)
numbered text n = limited text >>= λ t. Ok (t, n)

-- The text with its matches replaced, and the number of matches.
abbrev pub replaced : List ℕ → List ℕ → List Match → Said (List ℕ × ℕ)
replaced text by ms = numbered (replaced_from text by 0 ms) (length ms)

abbrev pub substituted : List (List ℕ) → List ℕ → List ℕ → List ℕ → Said (List ℕ × ℕ)
substituted flags pattern text by = sought flags pattern text >>= λ p. replaced text by (all_of flags text p)

-- The value is the text. With a name, the variable gets the text, and the value is the number of matches.
abbrev pub kept : List (List ℕ) → List ℕ × ℕ → Variables → Outcome
kept [] p vars = told (Ok p.0) vars
kept (name ∷ names) p vars = on_changed vars (not_set name) (with_value (set_to p.0) name vars) (λ new. told (Ok (count_text p.1)) new)

abbrev pub changed : List (List ℕ) → List (List ℕ) → Variables → Outcome
changed flags words vars = on_said (substituted flags (arg 0 words) (arg 1 words) (arg 2 words)) vars (λ p. kept (drop 3 words) p vars)

-- regsub ?-all? ?-lineanchor? ?-nocase? ?-start index? ?--? exp string subSpec ?varName?
abbrev pub regsub : List ℕ → List (List ℕ) → Variables → Outcome
regsub command args vars = on_said (front_of switches.Replace command args) vars (λ p. changed p.0 p.1 vars)
