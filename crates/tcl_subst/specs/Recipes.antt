-- A word as a list of steps, and the result of running them.
use Rattle.std.specs.Prelude.{◌≡◌, ◌≢◌, ℕ, ◌+◌, ◌<◌, ◌≤◌, Bool, true, false, List, [], ◌∷◌, ◌++◌, length, drop, slice_get, Option, Some, None, Result, Ok, Err, if◌then◌else◌}
use Rattle.tcl_words.specs.Pieces.{Piece, Pieces, literal, variable, member, script, no_pieces, piece}
use Rattle.tcl_subst.specs.declared.faults.SubstFault.{SubstFault}
use Rattle.tcl_subst.specs.declared.faults.SubstFault.TheVariants as fault
use Rattle.tcl_subst.specs.declared.fill_step.FillStep.{FillStep}
use Rattle.tcl_subst.specs.declared.fill_step.FillStep.TheVariants.{Value, NeedScript, Fault}
use Rattle.tcl_subst.specs.declared.joined.Joined.{Joined}
use Rattle.tcl_subst.specs.declared.joined.Refusal.{Refusal}
use Rattle.tcl_subst.specs.declared.joined.Refusal.TheVariants as refusal
use Rattle.tcl_subst.specs.declared.recipe.Step.{Step}
use Rattle.tcl_subst.specs.declared.recipe.Step.TheVariants.{Text, Variable, Script, Open, Close}
use Rattle.tcl_subst.specs.Faults.{is_too_long}
use Rattle.tcl_subst.specs.Filling.{element_name}
use Rattle.tcl_subst.specs.Variables.{Variables, value_of, member_of}

abbrev mutual
  pub piece_onto : Piece → List Step → List Step
  piece_onto (literal text) left = Text text ∷ left
  piece_onto (variable name) left = Variable name ∷ left
  piece_onto (member array index) left = Open ∷ steps_onto index (Close array ∷ left)
  piece_onto (script text) left = Script text ∷ left

  -- The steps of pieces, followed by other steps.
  pub steps_onto : Pieces → List Step → List Step
  steps_onto no_pieces left = left
  steps_onto (piece p more) left = piece_onto p (steps_onto more left)

-- The script of a step, or `None`.
abbrev pub script_of : Option Step → Option (List ℕ)
script_of None = None
script_of (Some (Text text)) = None
script_of (Some (Variable name)) = None
script_of (Some (Script text)) = Some text
script_of (Some Open) = None
script_of (Some (Close array)) = None

abbrev pub script_at : ℕ → List Step → Option (List ℕ)
script_at n steps = script_of (slice_get steps n)

abbrev pub is_script : Step → Bool
is_script (Text text) = false
is_script (Variable name) = false
is_script (Script text) = true
is_script Open = false
is_script (Close array) = false

abbrev pub fault_of : Refusal → SubstFault
fault_of refusal.Memory = fault.Memory
fault_of refusal.TooLong = fault.TooLong
fault_of (refusal.Unread f name) = f

-- The name of the variable that caused the error.
abbrev pub name_of : Refusal → List ℕ
name_of refusal.Memory = []
name_of refusal.TooLong = []
name_of (refusal.Unread f name) = name

abbrev pub nothing : Joined
nothing = record { current = []; outer = [] }

abbrev pub joined : List ℕ → Joined → Result Joined Refusal
joined value j = if is_too_long (length (j.current ++ value)) then Err refusal.TooLong else Ok (record { current = j.current ++ value; outer = j.outer })

abbrev pub joined_if_read : Result (List ℕ) SubstFault → List ℕ → Joined → Result Joined Refusal
joined_if_read (Ok value) name j = joined value j
joined_if_read (Err f) name j = Err (refusal.Unread f name)

-- The text around an index after the index is closed.
abbrev pub around : List (List ℕ) → Joined
around [] = nothing
around (text ∷ outer) = record { current = text; outer = outer }

-- The effect of a step that is no script.
abbrev pub taken : Step → Joined → Variables → Result Joined Refusal
taken (Text text) j vars = joined text j
taken (Variable name) j vars = joined_if_read (value_of name vars) name j
taken (Script text) j vars = Ok j
taken Open j vars = Ok (record { current = []; outer = j.current ∷ j.outer })
taken (Close array) j vars = joined_if_read (member_of array j.current vars) (element_name array j.current) (around j.outer)

-- The steps of a word, the index of the next step, the text so far, and the error that ended the substitution.
pub record Filling : Type 0 where
  pub steps : List Step
  pub at : ℕ
  pub joined : Joined
  pub fault : Option Refusal

-- The state at a step.
abbrev pub placed : List Step → ℕ → Joined → Filling
placed steps at j = record { steps = steps; at = at; joined = j; fault = None }

abbrev pub begun : List Step → Filling
begun steps = placed steps 0 nothing

abbrev pub failed : List Step → ℕ → Refusal → FillStep × Filling
failed steps at r = (Fault (fault_of r), record { steps = steps; at = at; joined = nothing; fault = Some r })

abbrev pub on_taken : List Step → ℕ → Result Joined Refusal → (Joined → FillStep × Filling) → FillStep × Filling
on_taken steps at (Ok j) k = k j
on_taken steps at (Err r) k = failed steps at r

-- Runs the steps left, up to the first script.
abbrev pub run : List Step → ℕ → List Step → Joined → Variables → FillStep × Filling
run steps at [] j vars = (Value j.current, placed steps at nothing)
run steps at (s ∷ left) j vars =
    if is_script s then (NeedScript at, placed steps (at + 1) j)
    else on_taken steps at (taken s j vars) (λ j. run steps (at + 1) left j vars)

abbrev pub run_on : Filling → Variables → FillStep × Filling
run_on f vars = run f.steps f.at (drop f.at f.steps) f.joined vars

abbrev pub unless_failed : Option Refusal → Filling → FillStep × Filling → FillStep × Filling
unless_failed None f r = r
unless_failed (Some r) f _ = (Fault (fault_of r), f)

-- The result of a filler with these variables, and its state afterwards.
unfoldable pub filling : Filling → Variables → FillStep × Filling
filling f vars = unless_failed f.fault f (run_on f vars)

-- A filler that asks for a script is past it afterwards.
abbrev pub IsOnward : Filling → FillStep × Filling → Type 0
IsOnward f r = (n : ℕ) → r.0 ≡ NeedScript n → (f.at ≤ n) × (r.1.at ≡ n + 1)

abbrev pub with_given : Option Refusal → Filling → Result Joined Refusal → Filling
with_given None f (Ok j) = placed f.steps f.at j
with_given None f (Err r) = record { steps = f.steps; at = f.at; joined = nothing; fault = Some r }
with_given (Some refused) f r = f

-- The state with the value of the script that was asked for.
abbrev pub given : List ℕ → Filling → Filling
given value f = with_given f.fault f (joined value f.joined)

-- The step had the meant effect, or returned the meant error. If memory is refused, nothing is claimed.
abbrev pub Takes : {Y : Type 0} → Result Y Refusal → Result Joined Refusal → Joined → Type 0
Takes (Ok y) meant new = meant ≡ Ok new
Takes (Err r) meant new = r ≢ refusal.Memory → meant ≡ Err r

abbrev pub is_fault : FillStep → Bool
is_fault (Value value) = false
is_fault (NeedScript n) = false
is_fault (Fault f) = true

-- The effect of one step: on to the next step, a result, or an error. If memory is refused, nothing is claimed.
abbrev pub Steps : Result (Option FillStep) Refusal → Filling → Filling → Variables → Type 0
Steps (Ok None) old new vars = (run_on old vars ≡ run_on new vars) × (new.steps ≡ old.steps) × (new.fault ≡ None) × (new.at ≡ old.at + 1) × (old.at < length old.steps)
Steps (Ok (Some step)) old new vars = run_on old vars ≡ (step, new)
Steps (Err r) old new vars = (new.steps ≡ old.steps) × (r ≢ refusal.Memory → run_on old vars ≡ failed new.steps new.at r)

-- The effect of all steps up to a result.
abbrev pub Runs : Result FillStep Refusal → Filling → Filling → Variables → Type 0
Runs (Ok step) old new vars = run_on old vars ≡ (step, new)
Runs (Err r) old new vars = (new.steps ≡ old.steps) × (r ≢ refusal.Memory → run_on old vars ≡ failed new.steps new.at r)

-- The name of the variable that caused the last error.
abbrev pub refused_name : Option Refusal → List ℕ
refused_name None = []
refused_name (Some r) = name_of r
