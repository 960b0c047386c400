-- What a new filler gives is what its word comes to.
use Rattle.std.proofs.Common.{◌≡◌, [], Option, Some, None, refl, ap, ◌∙◌}
use Rattle.tcl_words.specs.Pieces.{Pieces}
use Rattle.tcl_subst.specs.declared.faults.SubstFault.{SubstFault}
use Rattle.tcl_subst.specs.declared.fill_step.FillStep.{FillStep}
use Rattle.tcl_subst.specs.declared.joined.Refusal.{Refusal}
use Rattle.tcl_subst.specs.Filling.{Failed, fill}
use Rattle.tcl_subst.specs.Recipes.{Filling, steps_onto, begun, filling, refused_name}
use Rattle.tcl_subst.specs.Rests.{rest, told, failure}
use Rattle.tcl_subst.specs.Variables.{Variables}
use Rattle.tcl_subst.proofs.FillingLaw.{begun_comes_to, told_is_rest}

pub failure_is : (f : SubstFault) (o : Option Refusal) → failure f o ≡ Failed f (refused_name o)
failure_is f None = refl
failure_is f (Some r) = refl

pub begun_told : (ps : Pieces) (vars : Variables) (f : Filling) (p : FillStep × Filling) → f ≡ begun (steps_onto ps []) → p ≡ filling f vars → told p ≡ fill ps vars
begun_told ps vars f p is ran = ap told ran ∙ told_is_rest f vars ∙ ap (λ g. rest g vars) is ∙ begun_comes_to ps vars
