-- How long the scripts of a hall wait if only time passes.
use Rattle.std.specs.Prelude.{ℕ, List, [], ◌∷◌, Option, None, IsTrue}
use Rattle.expect_core.specs.Deadlines.{sooner}
use Rattle.session.specs.Left.{Kept}
use Rattle.session.specs.Quiet.{waits_until, QuietUntil}

-- The earliest moment up to which a script waits.
abbrev pub soonest : List Kept → Option ℕ
soonest [] = None
soonest (k ∷ ks) = sooner (waits_until k) (soonest ks)

-- A tick no later than `last` changes no script.
abbrev pub AllQuietUntil : List Kept → Option ℕ → Type 0
AllQuietUntil [] last = Unit {0}
AllQuietUntil (k ∷ ks) last = (IsTrue k.lives → QuietUntil k last) × AllQuietUntil ks last
