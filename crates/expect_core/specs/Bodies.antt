-- The scripts that commands evaluate.
use Rattle.std.specs.Prelude.{List, [], ◌∷◌, Option, Some, None}
use Rattle.expect_core.specs.declared.body.Body.{Body}
use Rattle.expect_core.specs.declared.body.Body.TheVariants.{Action, Source}
use Rattle.expect_core.specs.declared.plan.Plan.{Plan}

-- The `expect` whose action is the innermost script.
abbrev pub acting_in : List Body → Option Plan
acting_in [] = None
acting_in (Action p ∷ bodies) = Some p
acting_in (Source ∷ bodies) = None
