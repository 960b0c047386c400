-- Words that are one literal or one variable.
use Rattle.std.specs.Prelude.{◌≡◌, ◌≢◌, ℕ, Bool, true, false, List, Option, Some, None}
use Rattle.tcl_words.specs.Pieces.{Piece, Pieces, literal, variable, member, script, no_pieces, piece}
use Rattle.tcl_subst.specs.Filling.{Fill, Full}

abbrev pub is_plain_piece : Piece → Bool
is_plain_piece (literal text) = true
is_plain_piece (variable name) = true
is_plain_piece (member array index) = false
is_plain_piece (script text) = false

-- The word is one literal or one variable.
abbrev pub is_plain : Pieces → Bool
is_plain no_pieces = false
is_plain (piece p no_pieces) = is_plain_piece p
is_plain (piece p (piece q more)) = false

-- A value is the substitution of the word. `None` means that the word isn't plain, or that its substitution fails.
abbrev pub TellsValue : Option (List ℕ) → Bool → Fill → Type 0
TellsValue (Some value) plain f = f ≡ Full value
TellsValue None plain f = plain ≡ true → (value : List ℕ) → f ≢ Full value
