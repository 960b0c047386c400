-- Patterns that match whole texts, as `string match` does (string(n)). `^` and `$` in them are ordinary bytes.
use Rattle.std.specs.Prelude.{ℕ, Bool, true, List, [], ◌∷◌, ◌++◌, length, map}
use Rattle.tcl_words.specs.Bytes as ascii
use Rattle.exp_glob.specs.declared.element.Element.{Element}
use Rattle.exp_glob.specs.declared.element.Element.TheVariants.{Star, One, End}
use Rattle.exp_glob.specs.declared.element.Single.TheVariants.{Byte}
use Rattle.exp_glob.specs.declared.pattern.Glob.{Glob}
use Rattle.exp_glob.specs.Elements.{elements_of}
use Rattle.exp_glob.specs.Search.{spans}

-- A `$` at the end of a pattern is the byte.
abbrev pub plain : Element → Element
plain Star = Star
plain (One single) = One single
plain End = One (Byte ascii.dollar)

abbrev pub plain_elements : List ℕ → List Element
plain_elements pattern = map plain (elements_of pattern)

-- The pattern matches the whole text.
unfoldable pub matches : Bool → List ℕ → List ℕ → Bool
matches nocase pattern text = spans nocase (plain_elements pattern) text 0 (length text)

-- The pattern that a search finds if the whole text matches.
abbrev pub whole_of : List ℕ → Glob
whole_of pattern = record { anchored = true; elements = plain_elements pattern ++ End ∷ [] }
