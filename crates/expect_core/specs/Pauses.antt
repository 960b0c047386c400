-- A wait that no child takes part in.
use Rattle.std.specs.Prelude.{ℕ, List, [], Option, None}
use Rattle.expect_core.specs.declared.plan.Plan.{Plan}
use Rattle.expect_core.specs.declared.plan.Span.TheVariants.{Never}
use Rattle.expect_core.specs.declared.spread.Spread.{Spread}

-- After this moment, what is pending is sent.
abbrev pub nothing_until : Option ℕ → Option (ℕ × Spread) → Plan
nothing_until last pending = record { sides = []; ids = []; list = record { entries = []; ids = []; timeout = None }; span = Never; deadline = last; met = None; pending = pending }
