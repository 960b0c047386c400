-- Scripts among the parts of a word.
use Rattle.std.specs.Prelude.{Bool, true, false, ◌||◌}
use Rattle.tcl_words.specs.Pieces.{Piece, Pieces, literal, variable, member, script, no_pieces, piece}

abbrev mutual
  pub is_scripted : Piece → Bool
  is_scripted (literal text) = false
  is_scripted (variable name) = false
  is_scripted (member name index) = has_script index
  is_scripted (script text) = true

  -- One of the parts is a script, or has one in its index.
  pub has_script : Pieces → Bool
  has_script no_pieces = false
  has_script (piece p more) = is_scripted p || has_script more
