-- The word whose steps form a given list.
use Rattle.std.specs.Prelude.{◌≡◌, ℕ, List, [], ◌∷◌, refl}
use Rattle.std.proofs.Common.{ap}
use Rattle.tcl_words.specs.Pieces.{Piece, Pieces, literal, variable, member, script, no_pieces, piece}
use Rattle.tcl_subst.specs.declared.recipe.Step.{Step}
use Rattle.tcl_subst.specs.declared.recipe.Step.TheVariants.{Text, Variable, Script, Open, Close}
use Rattle.tcl_subst.specs.Recipes.{piece_onto, steps_onto}

-- Pieces read backwards. The open indexes follow, each with its array's name and the pieces after it.
abbrev pub Behind : Type 0
Behind = Pieces × List (List ℕ × Pieces)

abbrev pub opened : Behind → Behind
opened (ps, []) = (ps, [])
opened (ps, a ∷ outer) = (piece (member a.0 ps) a.1, outer)

-- Adds a step before those that were read.
abbrev pub seen : Step → Behind → Behind
seen (Text text) b = (piece (literal text) b.0, b.1)
seen (Variable name) b = (piece (variable name) b.0, b.1)
seen (Script text) b = (piece (script text) b.0, b.1)
seen Open b = opened b
seen (Close array) b = (no_pieces, (array, b.0) ∷ b.1)

abbrev pub read_back : List Step → Behind
read_back [] = (no_pieces, [])
read_back (s ∷ steps) = seen s (read_back steps)

-- The pieces whose steps these are.
unfoldable pub pieces_of : List Step → Pieces
pieces_of steps = (read_back steps).0

mutual
  piece_back : (p : Piece) (left : List Step) (b : Behind) → read_back left ≡ b → read_back (piece_onto p left) ≡ (piece p b.0, b.1)
  piece_back (literal text) left b e = ap (seen (Text text)) e
  piece_back (variable name) left b e = ap (seen (Variable name)) e
  piece_back (member array index) left b e = ap opened (steps_back index (Close array ∷ left) ((array, b.0) ∷ b.1) (ap (seen (Close array)) e))
  piece_back (script text) left b e = ap (seen (Script text)) e

  steps_back : (ps : Pieces) (left : List Step) (outer : List (List ℕ × Pieces)) → read_back left ≡ (no_pieces, outer) → read_back (steps_onto ps left) ≡ (ps, outer)
  steps_back no_pieces left outer e = e
  steps_back (piece p more) left outer e = piece_back p (steps_onto more left) (more, outer) (steps_back more left outer e)

-- The steps of a word determine its pieces.
pub pieces_of-steps : (ps : Pieces) → pieces_of (steps_onto ps []) ≡ ps
unfolding pieces_of
pieces_of-steps ps = ap (λ (b : Behind). b.0) (steps_back ps [] [] refl)
