-- Words and parts can be told apart by a code: the list of their contents, with an end mark after each index.
use Rattle.std.specs.Prelude.{◌≡◌, ℕ, List, [], ◌∷◌, ◌++◌, Bool, ◌==◌, if◌then◌else◌, refl}
use Rattle.std.proofs.Common.{ap, sym, ◌∙◌, append_assoc}
use Rattle.std.specs.Coded.{Coded, code_by, coded_ℕ, coded_bool, coded_list, coded×}
use Rattle.tcl_words.specs.Pieces.{Piece, literal, variable, member, script, Pieces, no_pieces, piece, Spelled}

abbrev pub Mark : Type 0
Mark = ℕ × List ℕ

abbrev mutual
  pub marks_of : Piece → List Mark → List Mark
  marks_of (literal text) rest = (1, text) ∷ rest
  marks_of (variable name) rest = (2, name) ∷ rest
  marks_of (member name index) rest = (4, name) ∷ (marks index ++ ((0, []) ∷ rest))
  marks_of (script text) rest = (3, text) ∷ rest

  pub marks : Pieces → List Mark
  marks no_pieces = []
  marks (piece p ps) = marks_of p (marks ps)

-- A part goes before the later parts.
abbrev pub before : Piece → List Pieces → List Pieces
before p [] = []
before p (ps ∷ s) = piece p ps ∷ s

-- An index that ends becomes part of its element.
abbrev pub closed : List ℕ → List Pieces → List Pieces
closed name [] = []
closed name (index ∷ []) = []
closed name (index ∷ (ps ∷ s)) = piece (member name index) ps ∷ s

-- A mark, read backwards, with what was read so far.
abbrev pub seen : Mark → List Pieces → List Pieces
seen m s =
    if m.0 == 0 then no_pieces ∷ s
    else (if m.0 == 1 then before (literal m.1) s
    else (if m.0 == 2 then before (variable m.1) s
    else (if m.0 == 3 then before (script m.1) s
    else closed m.1 s)))

abbrev pub unmarked : List Mark → List Pieces
unmarked [] = no_pieces ∷ []
unmarked (m ∷ ms) = seen m (unmarked ms)

abbrev pub topmost : List Pieces → Pieces
topmost [] = no_pieces
topmost (ps ∷ s) = ps

mutual
  of_marks : (p : Piece) (ps : Pieces) (ms : List Mark) (s : List Pieces) → unmarked ms ≡ ps ∷ s → unmarked (marks_of p ms) ≡ piece p ps ∷ s
  of_marks (literal text) ps ms s e = ap (before (literal text)) e
  of_marks (variable name) ps ms s e = ap (before (variable name)) e
  of_marks (member name index) ps ms s e = ap (closed name) (unmarked_marks index ((0, []) ∷ ms) (ps ∷ s) (ap (λ r. no_pieces ∷ r) e))
  of_marks (script text) ps ms s e = ap (before (script text)) e

  unmarked_marks : (ps : Pieces) (rest : List Mark) (s : List Pieces) → unmarked rest ≡ no_pieces ∷ s → unmarked (marks ps ++ rest) ≡ ps ∷ s
  unmarked_marks no_pieces rest s e = e
  unmarked_marks (piece p ps) rest s e = ap unmarked (marks_of-append p (marks ps) rest) ∙ of_marks p ps (marks ps ++ rest) s (unmarked_marks ps rest s e)

  marks_of-append : (p : Piece) (ms rest : List Mark) → marks_of p ms ++ rest ≡ marks_of p (ms ++ rest)
  marks_of-append (literal text) ms rest = refl
  marks_of-append (variable name) ms rest = refl
  marks_of-append (member name index) ms rest = ap (λ l. (4, name) ∷ l) (append_assoc (marks index) ((0, []) ∷ ms) rest)
  marks_of-append (script text) ms rest = refl

append_none : (ms : List Mark) → ms ++ [] ≡ ms
append_none [] = refl
append_none (m ∷ ms) = ap (λ l. m ∷ l) (append_none ms)

pub pieces_back : (ps : Pieces) → topmost (unmarked (marks ps)) ≡ ps
pieces_back ps = ap (λ ms. topmost (unmarked ms)) (sym (append_none (marks ps))) ∙ ap topmost (unmarked_marks ps [] [] refl)

abbrev pub coded_pieces : Coded Pieces
coded_pieces = code_by (List Mark) (coded_list (coded× coded_ℕ (coded_list coded_ℕ))) marks (λ ms. topmost (unmarked ms)) pieces_back

abbrev pub coded_spelled : Coded Spelled
coded_spelled = code_by (Bool × Pieces) (coded× coded_bool coded_pieces) (λ w. (w.expand, w.pieces)) (λ p. record { expand = p.0; pieces = p.1 }) (λ _. refl)
