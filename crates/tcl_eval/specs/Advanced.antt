-- What a step of an evaluation says about its expression.
use Rattle.std.specs.Prelude.{◌≡◌}
use Rattle.tcl_words.specs.Pieces.{Spelled}
use Rattle.tcl_expr.specs.Value.{outcome, known, faulty, needs}
use Rattle.tcl_subst.specs.declared.fill_step.FillStep.TheVariants as step
use Rattle.tcl_subst.specs.Filling.{Fill, fill, Full as Filled}
use Rattle.tcl_subst.specs.Recipes.{Filling}
use Rattle.tcl_subst.specs.Rests.{rest, told}
use Rattle.tcl_subst.specs.Variables.{Variables}
use Rattle.tcl_eval.specs.declared.advance.Advance.{Advance}
use Rattle.tcl_eval.specs.declared.advance.Advance.TheVariants.{Value, Operand, Fault}
use Rattle.tcl_eval.specs.declared.begun.Begun.{Begun}
use Rattle.tcl_eval.specs.declared.begun.Begun.TheVariants.{Full, Alone, Script, Failed}
use Rattle.tcl_eval.specs.Alone.{asks_alone}
use Rattle.tcl_eval.specs.Evaluated.{Evaluated}

-- A new filler performs the substitution of the word.
abbrev pub Fills : Filling → Spelled → Type 0
Fills f w = (vars : Variables) → rest f vars ≡ fill w.pieces vars

-- The substitution of a word after its first step.
abbrev pub begun_fill : Begun → Fill
begun_fill (Full value) = Filled value
begun_fill (Alone script) = asks_alone script
begun_fill (Script f number) = told (step.NeedScript number, f.value)
begun_fill (Failed f fault) = told (step.Fault fault, f.value)

-- The operand that is needed, and its substitution.
pub record NeedsFilled (vars : Variables) (p : Fill) (e : Evaluated) : Type 0 where
  pub word : Spelled
  pub is : outcome e.tree e.given ≡ needs word
  pub fills : p ≡ fill word.pieces vars

abbrev pub IsTold : Variables → Advance → Evaluated → Type 0
IsTold vars (Value text) e = outcome e.tree e.given ≡ known text
IsTold vars (Operand b) e = NeedsFilled vars (begun_fill b) e
IsTold vars (Fault f) e = outcome e.tree e.given ≡ faulty f
