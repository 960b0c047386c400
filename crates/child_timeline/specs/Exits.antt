-- How children end, as a wait for them reports it.
use Rattle.std.specs.Prelude.{ℕ, List, [], ◌∷◌, ◌==◌, if◌then◌else◌, Option, Some, None}
use Rattle.child_events.specs.declared.event.Answer.{Answer}
use Rattle.child_events.specs.declared.event.Answer.TheVariants as answer
use Rattle.child_timeline.specs.declared.exits.Exit.{Exit}

-- The answer given for a child, or `None`.
abbrev pub exit_told : ℕ → List Exit → Option Answer
exit_told c [] = None
exit_told c (e ∷ es) = if e.child == c then Some e.answer else exit_told c es

abbrev pub or_well : Option Answer → Answer
or_well (Some a) = a
or_well None = answer.Exit 0

-- The answer to a wait for a child. Without a given answer, it is exit status 0.
abbrev pub exit_of : ℕ → List Exit → Answer
exit_of c es = or_well (exit_told c es)
