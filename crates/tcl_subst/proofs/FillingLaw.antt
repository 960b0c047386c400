-- What a filler answers is what its word comes to.
use Rattle.std.proofs.Common.{◌≡◌, ℕ, ◌+◌, Bool, true, false, List, [], ◌∷◌, ◌++◌, drop, Option, Some, None, Result, Ok, Err, unwrap_or, if◌then◌else◌, refl, sym, ap, ◌∙◌}
use Rattle.std.proofs.Math.Path.{fun_ext}
use Rattle.tcl_words.specs.Pieces.{Piece, Pieces, literal, variable, member, script, no_pieces, piece}
use Rattle.tcl_subst.specs.declared.faults.SubstFault.{SubstFault}
use Rattle.tcl_subst.specs.declared.faults.SubstFault.TheVariants.{TooLong}
use Rattle.tcl_subst.specs.declared.joined.Joined.{Joined}
use Rattle.tcl_subst.specs.declared.joined.Refusal.{Refusal}
use Rattle.tcl_subst.specs.declared.joined.Refusal.TheVariants as refusal
use Rattle.tcl_subst.specs.declared.recipe.Step.{Step}
use Rattle.tcl_subst.specs.declared.recipe.Step.TheVariants.{Text, Variable, Script, Open, Close}
use Rattle.tcl_subst.specs.Filling.{Fill, Asks, Failed, element_name, behind, where_read, fill_piece, fill_pieces, fill}
use Rattle.tcl_subst.specs.Recipes.{Filling, piece_onto, steps_onto, script_of, nothing, joined, joined_if_read, taken, placed, begun, on_taken, run, filling, given, with_given}
use Rattle.tcl_subst.specs.Rests.{after, rest_of_steps, rest, told}
use Rattle.tcl_subst.specs.Variables.{Variables, value_of, member_of}
use Rattle.tcl_subst.proofs.Steps.{goes_on}

-- the flat steps of a word come to what the word does

if_long : (b : Bool) (j : Joined) (k : Joined → Variables → Fill) (vars : Variables) → after (if b then Err refusal.TooLong else Ok j) k vars ≡ (if b then Failed TooLong [] else k j vars)
if_long true j k vars = refl
if_long false j k vars = refl

after_joined : (value : List ℕ) (j : Joined) (k : Joined → Variables → Fill) (vars : Variables) → after (joined value j) k vars ≡ behind j.current value (λ text. k (record { current = text; outer = j.outer }) vars)
after_joined value j k vars = if_long _ (record { current = j.current ++ value; outer = j.outer }) k vars

after_read : (read : Result (List ℕ) SubstFault) (name : List ℕ) (j : Joined) (k : Joined → Variables → Fill) (vars : Variables)
    → after (joined_if_read read name j) k vars ≡ where_read read name (λ value vars. behind j.current value (λ text. k (record { current = text; outer = j.outer }) vars)) vars
after_read (Ok value) name j k vars = after_joined value j k vars
after_read (Err f) name j k vars = refl

mutual
  flat_piece : (p : Piece) (left : List Step) (j : Joined) (vars : Variables)
      → rest_of_steps (piece_onto p left) j vars ≡ fill_piece p (λ value vars. behind j.current value (λ text. rest_of_steps left (record { current = text; outer = j.outer }) vars)) vars
  flat_piece (literal text) left j vars = after_joined text j (rest_of_steps left) vars
  flat_piece (variable name) left j vars = after_read (value_of name vars) name j (rest_of_steps left) vars
  flat_piece (member array index) left j vars =
      flat_pieces index (Close array ∷ left) (record { current = []; outer = j.current ∷ j.outer }) vars
      ∙ ap (λ k. fill_pieces index [] k vars) (fun_ext (λ i. fun_ext (λ vars. after_read (member_of array i vars) (element_name array i) j (rest_of_steps left) vars)))
  flat_piece (script text) left j vars = ap (λ k. Asks text k) (fun_ext (λ value. fun_ext (λ vars. after_joined value j (rest_of_steps left) vars)))

  flat_pieces : (ps : Pieces) (left : List Step) (j : Joined) (vars : Variables)
      → rest_of_steps (steps_onto ps left) j vars ≡ fill_pieces ps j.current (λ text vars. rest_of_steps left (record { current = text; outer = j.outer }) vars) vars
  flat_pieces no_pieces left j vars = refl
  flat_pieces (piece p more) left j vars =
      flat_piece p (steps_onto more left) j vars
      ∙ ap (λ k. fill_piece p k vars) (fun_ext (λ value. fun_ext (λ vars. ap (λ k. behind j.current value k) (fun_ext (λ text. flat_pieces more left (record { current = text; outer = j.outer }) vars)))))

pub begun_comes_to : (ps : Pieces) (vars : Variables) → rest (begun (steps_onto ps [])) vars ≡ fill ps vars
begun_comes_to ps vars = flat_pieces ps [] nothing vars

-- what is answered comes to the rest

told_taken : (steps : List Step) (at : ℕ) (left : List Step) (vars : Variables) (r : Result Joined Refusal) → ((j : Joined) → told (run steps (at + 1) left j vars) ≡ rest_of_steps left j vars)
    → told (on_taken steps at r (λ j. run steps (at + 1) left j vars)) ≡ after r (rest_of_steps left) vars
told_taken steps at left vars (Ok j) on = on j
told_taken steps at left vars (Err r) on = refl

told_given : (steps : List Step) (at : ℕ) (left : List Step) (j : Joined) (vars : Variables) (r : Result Joined Refusal) → left ≡ drop at steps
    → rest (with_given None (placed steps at j) r) vars ≡ after r (rest_of_steps left) vars
told_given steps at left j vars (Ok next) is = ap (λ l. rest_of_steps l next vars) (sym is)
told_given steps at left j vars (Err r) is = refl

told_run : (steps : List Step) (at : ℕ) (left : List Step) (j : Joined) (vars : Variables) → left ≡ drop at steps → told (run steps at left j vars) ≡ rest_of_steps left j vars
told_run steps at [] j vars is = refl
told_run steps at (Text text ∷ left) j vars is = told_taken steps at left vars (taken (Text text) j vars) (λ j. told_run steps (at + 1) left j vars (goes_on steps at (Text text) left is).1)
told_run steps at (Variable name ∷ left) j vars is = told_taken steps at left vars (taken (Variable name) j vars) (λ j. told_run steps (at + 1) left j vars (goes_on steps at (Variable name) left is).1)
told_run steps at (Script text ∷ left) j vars is =
    ap (λ s. Asks (unwrap_or (script_of s) []) (λ value vars. rest (given value (placed steps (at + 1) j)) vars)) (goes_on steps at (Script text) left is).0
    ∙ ap (λ k. Asks text k) (fun_ext (λ value. fun_ext (λ vars. told_given steps (at + 1) left j vars (joined value j) (goes_on steps at (Script text) left is).1)))
told_run steps at (Open ∷ left) j vars is = told_taken steps at left vars (taken Open j vars) (λ j. told_run steps (at + 1) left j vars (goes_on steps at Open left is).1)
told_run steps at (Close array ∷ left) j vars is = told_taken steps at left vars (taken (Close array) j vars) (λ j. told_run steps (at + 1) left j vars (goes_on steps at (Close array) left is).1)

told_by : (steps : List Step) (at : ℕ) (j : Joined) (fault : Option Refusal) (vars : Variables)
    → told (filling (record { steps = steps; at = at; joined = j; fault = fault }) vars) ≡ rest (record { steps = steps; at = at; joined = j; fault = fault }) vars
unfolding filling
told_by steps at j None vars = told_run steps at (drop at steps) j vars refl
told_by steps at j (Some r) vars = refl

pub told_is_rest : (f : Filling) (vars : Variables) → told (filling f vars) ≡ rest f vars
told_is_rest f vars = told_by f.steps f.at f.joined f.fault vars
