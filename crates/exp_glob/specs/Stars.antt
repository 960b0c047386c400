-- The end of the first run.
use Rattle.std.specs.Prelude.{Bool, true, false, List, [], ◌∷◌, Option, Some, None}
use Rattle.exp_glob.specs.declared.element.Element.{Element}
use Rattle.exp_glob.specs.declared.element.Element.TheVariants.{Star, One, End}

abbrev pub is_star : Element → Bool
is_star Star = true
is_star (One single) = false
is_star End = false

-- The elements after the first star, or `None` if there is no star.
abbrev pub behind_star : List Element → Option (List Element)
behind_star [] = None
behind_star (Star ∷ es) = Some es
behind_star (One single ∷ es) = behind_star es
behind_star (End ∷ es) = behind_star es
