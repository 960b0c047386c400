-- What is told of a word that is one literal or one variable.
use Rattle.std.proofs.Common.{◌≡◌, ◌≢◌, ℕ, ◌<◌, ◌≤◌, Bool, true, false, List, [], ◌∷◌, length, get_or, Option, Some, None, Result, Ok, Err, IfOk, IfSome, refl, sym, ap, ◌∙◌, subst, arith}
use Rattle.tcl_words.specs.declared.shapes.Part.{Part}
use Rattle.tcl_words.specs.Pieces.{Piece, Pieces, literal, variable, member, script, no_pieces, piece, parts_view}
use Rattle.tcl_subst.specs.declared.recipe.Step.{Step}
use Rattle.tcl_subst.specs.declared.recipe.Step.TheVariants.{Text, Variable, Script, Open, Close}
use Rattle.tcl_subst.specs.Filling.{Fill, Full, fill}
use Rattle.tcl_subst.specs.Plain.{is_plain, TellsValue}
use Rattle.tcl_subst.specs.Recipes.{piece_onto, steps_onto, begun, nothing}
use Rattle.tcl_subst.specs.Rests.{rest, rest_of_steps}
use Rattle.tcl_subst.specs.Variables.{Variables}
use Rattle.tcl_subst.proofs.FillingLaw.{begun_comes_to}

abbrev is_plain_step : Step → Bool
is_plain_step (Text text) = true
is_plain_step (Variable name) = true
is_plain_step (Script text) = false
is_plain_step Open = false
is_plain_step (Close array) = false

-- the steps of a plain word
abbrev pub are_plain : List Step → Bool
are_plain [] = false
are_plain (s ∷ []) = is_plain_step s
are_plain (s ∷ t ∷ more) = false

two_not : (s : Step) (q : Piece) (left : List Step) → are_plain (s ∷ piece_onto q left) ≡ false
two_not s (literal text) left = refl
two_not s (variable name) left = refl
two_not s (member array index) left = refl
two_not s (script text) left = refl

open_not : (left : List Step) → are_plain (Open ∷ left) ≡ false
open_not [] = refl
open_not (s ∷ left) = refl

-- a word is plain where its steps are
plain_steps : (ps : Pieces) → are_plain (steps_onto ps []) ≡ is_plain ps
plain_steps no_pieces = refl
plain_steps (piece (literal text) no_pieces) = refl
plain_steps (piece (variable name) no_pieces) = refl
plain_steps (piece (member array index) no_pieces) = open_not (steps_onto index (Close array ∷ []))
plain_steps (piece (script text) no_pieces) = refl
plain_steps (piece (literal text) (piece q more)) = two_not (Text text) q (steps_onto more [])
plain_steps (piece (variable name) (piece q more)) = two_not (Variable name) q (steps_onto more [])
plain_steps (piece (member array index) (piece q more)) = open_not (steps_onto index (Close array ∷ piece_onto q (steps_onto more [])))
plain_steps (piece (script text) (piece q more)) = two_not (Script text) q (steps_onto more [])

-- words with the same steps are told alike
pub told_alike : (o : Option (List ℕ)) (ps one : Pieces) (vars : Variables) → steps_onto ps [] ≡ steps_onto one [] → TellsValue o (is_plain one) (fill one vars) → TellsValue o (is_plain ps) (fill ps vars)
told_alike o ps one vars same t =
    let plain : is_plain one ≡ is_plain ps = sym (plain_steps one) ∙ ap are_plain (sym same) ∙ plain_steps ps in
    let comes : fill one vars ≡ fill ps vars = sym (begun_comes_to one vars) ∙ ap (λ (s : List Step). rest (begun s) vars) (sym same) ∙ begun_comes_to ps vars in
    subst (λ (b : Bool). TellsValue o b (fill ps vars)) plain (subst (λ (f : Fill). TellsValue o (is_plain one) f) comes t)

pub told_alike_if : {E : Type 0} (r : Result (Option (List ℕ)) E) (ps one : Pieces) (vars : Variables) → steps_onto ps [] ≡ steps_onto one [] → IfOk r (λ o. TellsValue o (is_plain one) (fill one vars)) → IfOk r (λ o. TellsValue o (is_plain ps) (fill ps vars))
told_alike_if (Ok o) ps one vars same t = told_alike o ps one vars same t
told_alike_if (Err e) ps one vars same t = tt

-- what is told of a literal is so, whatever the variables are
pub always_told : (o : Option (List ℕ)) (ps one : Pieces) → steps_onto ps [] ≡ steps_onto one [] → ((vars : Variables) → TellsValue o (is_plain one) (fill one vars)) → IfSome o (λ value. (vars : Variables) → fill ps vars ≡ Full value)
always_told None ps one same t = tt
always_told (Some value) ps one same t = λ vars. told_alike (Some value) ps one vars same (t vars)

-- words with the same steps come to the same
pub fills_alike : (ps one : Pieces) (vars : Variables) → steps_onto ps [] ≡ steps_onto one [] → fill ps vars ≡ fill one vars
fills_alike ps one vars same = sym (begun_comes_to ps vars) ∙ ap (λ (s : List Step). rest (begun s) vars) same ∙ begun_comes_to one vars

-- the only one of a list
pub only_item : {X : Type 0} (xs : List X) (x : X) → x ≡ get_or xs 0 x → 0 < length xs → length xs < 2 → xs ≡ x ∷ []
only_item [] x is some few = absurd (omega arith)
only_item (y ∷ []) x is some few = ap (λ z. z ∷ []) (sym is)
only_item (y ∷ z ∷ more) x is some few = absurd (omega arith)

not_told : (plain : Bool) (f : Fill) → plain ≡ false → TellsValue None plain f
not_told true f e = absurd cc
not_told false f e = λ (t : false ≡ true) v is. absurd cc

-- nothing is told of a word that hasn't one part
pub no_part : (parts : List Part) (f : Fill) → length parts < 1 → TellsValue None (is_plain (parts_view parts)) f
no_part [] f few = not_told false f refl
no_part (p ∷ more) f few = absurd (omega arith)

pub several_parts : (parts : List Part) (f : Fill) → 2 ≤ length parts → TellsValue None (is_plain (parts_view parts)) f
several_parts [] f many = absurd (omega arith)
several_parts (p ∷ []) f many = absurd (omega arith)
several_parts (p ∷ q ∷ more) f many = not_told false f refl

-- steps that aren't one
pub not_one : (steps : List Step) → length steps ≢ 1 → are_plain steps ≡ false
not_one [] n = refl
not_one (s ∷ []) n = absurd (n refl)
not_one (s ∷ t ∷ more) n = refl

-- what the steps of a word are joined to that hasn't one part is the word's value
joined_told : (o : Option (List ℕ)) (ps : Pieces) (steps : List Step) (vars : Variables) → steps ≡ steps_onto ps [] → are_plain steps ≡ false → IfSome o (λ value. rest_of_steps steps nothing vars ≡ Full value) → TellsValue o (is_plain ps) (fill ps vars)
joined_told None ps steps vars same several t = not_told (is_plain ps) (fill ps vars) (sym (plain_steps ps) ∙ ap are_plain (sym same) ∙ several)
joined_told (Some value) ps steps vars same several t = sym (begun_comes_to ps vars) ∙ ap (λ (s : List Step). rest (begun s) vars) (sym same) ∙ t

pub joined_told_if : {E : Type 0} (r : Result (Option (List ℕ)) E) (ps : Pieces) (steps : List Step) (vars : Variables) → steps ≡ steps_onto ps [] → are_plain steps ≡ false → IfOk r (λ o. IfSome o (λ value. rest_of_steps steps nothing vars ≡ Full value)) → IfOk r (λ o. TellsValue o (is_plain ps) (fill ps vars))
joined_told_if (Ok o) ps steps vars same several t = joined_told o ps steps vars same several t
joined_told_if (Err e) ps steps vars same several t = tt

-- the item of a list that has one
pub one_item : {X : Type 0} (xs : List X) (x : X) → x ≡ get_or xs 0 x → length xs ≡ 1 → xs ≡ x ∷ []
one_item xs x is one = only_item xs x is (omega (arith, one)) (omega (arith, one))
