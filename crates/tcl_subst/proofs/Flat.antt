-- The steps of a word behind other steps.
use Rattle.std.proofs.Common.{◌≡◌, ℕ, List, [], ◌∷◌, ◌++◌, refl, sym, ap, ◌∙◌, append_assoc}
use Rattle.tcl_words.specs.declared.shapes.Part.{Part}
use Rattle.tcl_words.specs.Pieces.{Piece, Pieces, literal, variable, member, script, no_pieces, piece, part_view, parts_view}
use Rattle.tcl_subst.specs.declared.recipe.Step.{Step}
use Rattle.tcl_subst.specs.declared.recipe.Step.TheVariants.{Open, Close}
use Rattle.tcl_subst.specs.Recipes.{piece_onto, steps_onto}

mutual
  pub piece_behind : (p : Piece) (left : List Step) → piece_onto p left ≡ piece_onto p [] ++ left
  piece_behind (literal text) left = refl
  piece_behind (variable name) left = refl
  piece_behind (member array index) left =
      ap (λ s. Open ∷ s) (steps_behind index (Close array ∷ left) ∙ sym (append_assoc (steps_onto index []) (Close array ∷ []) left)
      ∙ ap (λ s. s ++ left) (sym (steps_behind index (Close array ∷ []))))
  piece_behind (script text) left = refl

  pub steps_behind : (ps : Pieces) (left : List Step) → steps_onto ps left ≡ steps_onto ps [] ++ left
  steps_behind no_pieces left = refl
  steps_behind (piece p more) left =
      piece_behind p (steps_onto more left) ∙ ap (λ s. piece_onto p [] ++ s) (steps_behind more left)
      ∙ sym (append_assoc (piece_onto p []) (steps_onto more []) left) ∙ ap (λ s. s ++ left) (sym (piece_behind p (steps_onto more [])))

-- what stands for an element of an array, pushed in three turns
pub member_pushed : (steps s1 s2 s3 : List Step) (index : Pieces) (array copy : List ℕ) → s1 ≡ steps ++ Open ∷ [] → s2 ≡ s1 ++ steps_onto index [] → s3 ≡ s2 ++ Close copy ∷ [] → copy ≡ array
    → s3 ≡ steps ++ piece_onto (member array index) []
member_pushed steps s1 s2 s3 index array copy first second third alike =
    third ∙ ap (λ a. s2 ++ Close a ∷ []) alike ∙ ap (λ s. s ++ Close array ∷ []) (second ∙ ap (λ s. s ++ steps_onto index []) first)
    ∙ append_assoc (steps ++ Open ∷ []) (steps_onto index []) (Close array ∷ []) ∙ append_assoc steps (Open ∷ []) (steps_onto index [] ++ Close array ∷ [])
    ∙ ap (λ s. steps ++ Open ∷ s) (sym (steps_behind index (Close array ∷ [])))

-- one part more
pub part_pushed : (old new total : List Step) (part : Part) (parts rest : List Part) → parts ≡ part ∷ rest → new ≡ old ++ piece_onto (part_view part) [] → old ++ steps_onto (parts_view parts) [] ≡ total
    → new ++ steps_onto (parts_view rest) [] ≡ total
part_pushed old new total part parts rest first pushed whole =
    ap (λ s. s ++ steps_onto (parts_view rest) []) pushed ∙ append_assoc old (piece_onto (part_view part) []) (steps_onto (parts_view rest) [])
    ∙ ap (λ s. old ++ s) (sym (piece_behind (part_view part) (steps_onto (parts_view rest) []))) ∙ ap (λ ps. old ++ steps_onto (parts_view ps) []) (sym first) ∙ whole
