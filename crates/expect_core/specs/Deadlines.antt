-- How long a waiting call goes on waiting if only time passes.
use Rattle.std.specs.Prelude.{ℕ, ◌≤◌, min, List, [], ◌∷◌, Option, Some, None}
use Rattle.expect_core.specs.declared.lanes.Lane.{Lane}
use Rattle.expect_core.specs.declared.phase.Phase.{Phase}
use Rattle.expect_core.specs.declared.phase.Phase.TheVariants.{At}
use Rattle.expect_core.specs.declared.turn.Want.TheVariants.{Output}
use Rattle.expect_core.specs.declared.dialogue.Dialogue.{Dialogue}
use Rattle.expect_core.specs.Heard.{watched, heads}

-- No later than a moment. `None` is later than every moment.
abbrev pub IsWithin : ℕ → Option ℕ → Type 0
IsWithin m None = Unit {0}
IsWithin m (Some last) = m ≤ last

-- The lesser of two moments. `None` is later than every moment.
abbrev pub sooner : Option ℕ → Option ℕ → Option ℕ
sooner None last = last
sooner (Some m) None = Some m
sooner (Some m) (Some n) = Some (min m n)

-- A deadline above the greatest moment of 64 bits counts as that.
abbrev pub as_moment : Option ℕ → Option ℕ
as_moment None = None
as_moment (Some d) = Some (min d 18446744073709551615)

-- The least of a moment and several others.
abbrev pub soonest : Option ℕ → List (Option ℕ) → Option ℕ
soonest first [] = first
soonest first (m ∷ ms) = soonest (sooner first m) ms

-- The deadline of the call that waits. An `expect` has its own, and the moments of its children's next items. It takes
-- such an item once time is past it, because no other child can have an earlier one then. A wait for an answer or
-- for the start of a child has none.
abbrev pub deadline_under : Phase → List Lane → Option ℕ
deadline_under (At n (Output p)) lanes = soonest (as_moment p.deadline) (heads (watched p) lanes)
deadline_under other lanes = None

-- The last moment up to which a waiting call goes on waiting: the lesser of its deadline and the script's last moment.
abbrev pub deadline_of : Dialogue → Option ℕ
deadline_of st = sooner (deadline_under st.phase st.lanes) st.limit
