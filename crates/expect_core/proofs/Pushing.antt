-- An item that is no earlier than all before it is pushed as it is.
use Rattle.std.proofs.Common.{◌≡◌, ℕ, ◌≤◌, List, [], ◌∷◌, ◌++◌, Bool, true, false, max, ap, arith}
use Rattle.std.specs.Prelude.{if◌then◌else◌}
use Rattle.child_events.specs.declared.event.Item.{Item}
use Rattle.child_events.specs.Queue.{Queued, came, last_moment, pushed}
use Rattle.expect_core.specs.Good.{ItemsBy}

pick_by : (h m n : ℕ) (b : Bool) → m ≤ h → n ≤ h → (if b then m else n) ≤ h
pick_by h m n true le le' = le
pick_by h m n false le le' = le'

last_by : (h m : ℕ) (qs : List Queued) → m ≤ h → ItemsBy h qs → last_moment m qs ≤ h
last_by h m [] le b = le
last_by h m (q ∷ qs) le b = last_by h (if q.echoed then m else q.moment) qs (pick_by h m q.moment q.echoed le b.0) b.1

pub pushed_behind : (m : ℕ) (i : Item) (qs : List Queued) → ItemsBy m qs → pushed m i qs ≡ qs ++ came (m, i) ∷ []
pushed_behind m i qs b =
    ap (λ (n : ℕ). qs ++ came (n, i) ∷ []) (let le : last_moment 0 qs ≤ m = last_by m 0 qs (omega arith) b in let same : max (last_moment 0 qs) m ≡ m = omega arith in same)
