-- The value of a word (Tcl(n): variable substitution, command substitution).
use Rattle.std.specs.Prelude.{ℕ, List, [], ◌∷◌, ◌++◌, length, Result, Ok, Err, if◌then◌else◌}
use Rattle.tcl_words.specs.Bytes as ascii
use Rattle.tcl_words.specs.Pieces.{Piece, Pieces, literal, variable, member, script, no_pieces, piece}
use Rattle.tcl_subst.specs.declared.faults.SubstFault.{SubstFault}
use Rattle.tcl_subst.specs.declared.faults.SubstFault.TheVariants.{TooLong}
use Rattle.tcl_subst.specs.Faults.{is_too_long}
use Rattle.tcl_subst.specs.Variables.{Variables, value_of, member_of}

-- The result of the substitution of a word.
pub data Fill : Type 0 where
  -- The value.
  Full : List ℕ → Fill
  -- A script to evaluate, and the rest of the substitution, given its value and the variables after it.
  Asks : List ℕ → (List ℕ → Variables → Fill) → Fill
  -- An error, and the name of the variable that caused it.
  Failed : SubstFault → List ℕ → Fill

-- The rest of a substitution after a value.
abbrev pub Next : Type 0
Next = List ℕ → Variables → Fill

abbrev pub element_name : List ℕ → List ℕ → List ℕ
element_name array index = array ++ (ascii.open_paren ∷ (index ++ ascii.close_paren ∷ []))

-- Appends a value to the text so far.
abbrev pub behind : List ℕ → List ℕ → (List ℕ → Fill) → Fill
behind text value k = if is_too_long (length (text ++ value)) then Failed TooLong [] else k (text ++ value)

abbrev pub where_read : Result (List ℕ) SubstFault → List ℕ → Next → Variables → Fill
where_read (Ok value) name k vars = k value vars
where_read (Err f) name k vars = Failed f name

abbrev mutual
  pub fill_piece : Piece → Next → Variables → Fill
  fill_piece (literal text) k vars = k text vars
  fill_piece (variable name) k vars = where_read (value_of name vars) name k vars
  fill_piece (member array index) k vars =
      fill_pieces index [] (λ i vars. where_read (member_of array i vars) (element_name array i) k vars) vars
  fill_piece (script text) k vars = Asks text k

  -- The values of the pieces after a text, each read or evaluated in order.
  pub fill_pieces : Pieces → List ℕ → Next → Variables → Fill
  fill_pieces no_pieces text k vars = k text vars
  fill_pieces (piece p more) text k vars = fill_piece p (λ value vars. behind text value (λ text. fill_pieces more text k vars)) vars

-- The substitution of a word.
abbrev pub fill : Pieces → Variables → Fill
fill pieces vars = fill_pieces pieces [] (λ value vars. Full value) vars
