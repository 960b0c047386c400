-- A word without scripts asks for none.
use Rattle.std.proofs.Common.{◌≡◌, ◌≢◌, ℕ, Bool, true, false, ◌||◌, List, [], ◌++◌, length, Result, Ok, Err, refl, cond, true≢false}
use Rattle.tcl_words.specs.Pieces.{Piece, Pieces, literal, variable, member, script, no_pieces, piece}
use Rattle.tcl_words.specs.Scripts.{is_scripted, has_script}
use Rattle.tcl_subst.specs.declared.faults.SubstFault.{SubstFault}
use Rattle.tcl_subst.specs.declared.faults.SubstFault.TheVariants.{TooLong}
use Rattle.tcl_subst.specs.declared.whole.Filled.TheVariants.{Script}
use Rattle.tcl_subst.specs.Faults.{is_too_long}
use Rattle.tcl_subst.specs.Filled.{filled}
use Rattle.tcl_subst.specs.Filling.{Fill, Full, Failed, Next, element_name, behind, where_read, fill_piece, fill_pieces, fill}
use Rattle.tcl_subst.specs.Variables.{Variables, value_of, member_of}

-- no script is asked for
abbrev Unasked : Fill → Type 0
Unasked f = filled f ≢ Script

neither : (a b : Bool) → a || b ≡ false → (a ≡ false) × (b ≡ false)
neither true b is = absurd (true≢false is)
neither false b is = (refl, is)

read_unasked : (r : Result (List ℕ) SubstFault) (name : List ℕ) (k : Next) (vars : Variables) → ((value : List ℕ) (vars : Variables) → Unasked (k value vars)) → Unasked (where_read r name k vars)
read_unasked (Ok value) name k vars more = more value vars
read_unasked (Err f) name k vars more = λ is. absurd (cc)

long_unasked : (b : Bool) (f : Fill) → Unasked f → Unasked (cond b (Failed TooLong []) f)
long_unasked true f h = λ is. absurd (cc)
long_unasked false f h = h

mutual
  piece_unasked : (p : Piece) (k : Next) (vars : Variables) → is_scripted p ≡ false → ((value : List ℕ) (vars : Variables) → Unasked (k value vars)) → Unasked (fill_piece p k vars)
  piece_unasked (literal text) k vars free more = more text vars
  piece_unasked (variable name) k vars free more = read_unasked (value_of name vars) name k vars more
  piece_unasked (member array index) k vars free more =
      pieces_unasked index [] (λ i vars. where_read (member_of array i vars) (element_name array i) k vars) vars free (λ i vars. read_unasked (member_of array i vars) (element_name array i) k vars more)
  piece_unasked (script text) k vars free more = absurd (true≢false free)

  pieces_unasked : (ps : Pieces) (text : List ℕ) (k : Next) (vars : Variables) → has_script ps ≡ false → ((value : List ℕ) (vars : Variables) → Unasked (k value vars)) → Unasked (fill_pieces ps text k vars)
  pieces_unasked no_pieces text k vars free more = more text vars
  pieces_unasked (piece p ps) text k vars free more =
      let each = neither (is_scripted p) (has_script ps) free in
      piece_unasked p (λ value vars. behind text value (λ text. fill_pieces ps text k vars)) vars each.0
      (λ value vars. long_unasked (is_too_long (length (text ++ value))) (fill_pieces ps (text ++ value) k vars) (pieces_unasked ps (text ++ value) k vars each.1 more))

pub fill_unasked : (ps : Pieces) (vars : Variables) → has_script ps ≡ false → Unasked (fill ps vars)
fill_unasked ps vars free = pieces_unasked ps [] (λ value vars. Full value) vars free (λ value vars is. absurd (cc))
