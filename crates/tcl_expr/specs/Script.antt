-- Whether the substitution of a word may run a command.
use Rattle.std.specs.Prelude.{Bool, true, false, ◌||◌}
use Rattle.tcl_words.specs.Pieces.{Piece, literal, variable, member, script, Pieces, no_pieces, piece}

abbrev mutual
  -- The part contains a script, possibly inside an index.
  pub is_scripted : Piece → Bool
  is_scripted (literal text) = false
  is_scripted (variable name) = false
  is_scripted (member name index) = has_script index
  is_scripted (script text) = true

  pub has_script : Pieces → Bool
  has_script no_pieces = false
  has_script (piece p ps) = is_scripted p || has_script ps
