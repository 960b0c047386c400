-- What was read already, before what is left to be read.
use Rattle.std.proofs.Common.{◌≡◌, List, [], ◌∷◌, ◌++◌, Option, Some, None, option_map, refl, ap, append_assoc}

module _ {X : Type 0} where
  abbrev pub onto : List X → Option (List X) → Option (List X)
  onto made None = None
  onto made (Some xs) = Some (made ++ xs)

  pub onto_pushed : (made : List X) (x : X) (r : Option (List X)) → onto (made ++ x ∷ []) r ≡ onto made (option_map (λ l. x ∷ l) r)
  onto_pushed made x None = refl
  onto_pushed made x (Some xs) = ap Some (append_assoc made (x ∷ []) xs)

  pub onto_nothing : (r : Option (List X)) → onto [] r ≡ r
  onto_nothing None = refl
  onto_nothing (Some xs) = refl
