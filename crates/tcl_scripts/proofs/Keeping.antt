-- A word whose steps are kept is that word.
use Rattle.std.proofs.Common.{◌≡◌, Bool, List, [], ap, sym, ◌∙◌}
use Rattle.tcl_words.specs.Pieces.{Pieces, Spelled}
use Rattle.tcl_subst.specs.declared.recipe.Step.{Step}
use Rattle.tcl_subst.specs.Recipes.{steps_onto}
use Rattle.tcl_scripts.specs.Kept.{pieces_of, pieces_of-steps}

abbrev pub spelled : Bool → Pieces → Spelled
spelled expand ps = record { expand = expand; pieces = ps }

pub kept_pieces : (steps : List Step) (ps : Pieces) → steps ≡ steps_onto ps [] → pieces_of steps ≡ ps
kept_pieces steps ps e = ap pieces_of e ∙ pieces_of-steps ps

pub kept_steps : (steps : List Step) (ps : Pieces) → steps ≡ steps_onto ps [] → steps ≡ steps_onto (pieces_of steps) []
kept_steps steps ps e = e ∙ ap (λ (q : Pieces). steps_onto q []) (sym (kept_pieces steps ps e))
