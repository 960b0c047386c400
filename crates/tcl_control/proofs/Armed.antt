-- The arms that were read already, before those that are left to be read.
use Rattle.std.proofs.Common.{◌≡◌, ℕ, List, [], ◌∷◌, ◌++◌, Option, Some, None, option_map, refl, ap, append_assoc}
use Rattle.tcl_control.specs.Arms.{Arms, with_arm}

abbrev pub onto_arms : List (List ℕ × List ℕ) → Option Arms → Option Arms
onto_arms made None = None
onto_arms made (Some arms) = Some (made ++ arms.0, arms.1)

pub onto_arms_pushed : (made : List (List ℕ × List ℕ)) (t b : List ℕ) (r : Option Arms) → onto_arms (made ++ (t, b) ∷ []) r ≡ onto_arms made (option_map (with_arm t b) r)
onto_arms_pushed made t b None = refl
onto_arms_pushed made t b (Some arms) = ap (λ l. Some (l, arms.1)) (append_assoc made ((t, b) ∷ []) arms.0)

pub onto_arms_nothing : (r : Option Arms) → onto_arms [] r ≡ r
onto_arms_nothing None = refl
onto_arms_nothing (Some arms) = refl
