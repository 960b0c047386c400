-- How `regex` parses the translated text of a regular pattern.
use Rattle.std.specs.Prelude.{ℕ, ◌≤◌, Bool, List, IsSomeAnd, chars}
use Rattle.regex_syntax.specs.Grammar.{read}
use Rattle.exp_match.specs.Translation.{translated}
use Rattle.exp_match.specs.Written.{config_of}

-- With or without case and line anchors, it parses the text, and the text nests no deeper than it allows.
abbrev pub IsRead : Bool → Bool → List ℕ → Type 0
IsRead nocase lines text = IsSomeAnd (read (config_of nocase lines) (translated (chars text))) (λ p. p.0.depth ≤ (config_of nocase lines).nest_limit)
