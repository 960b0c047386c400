-- The result of a call of the host.
use Rattle.std.specs.Prelude.{◌≡◌, ℕ, suc, ◌<◌, List, [], ◌∷◌, Bool, true, false, IsTrue}
use Rattle.tcl_host.specs.declared.host.HostStep.TheVariants.{Wait}
use Rattle.tcl_eval.specs.declared.frame.Asked.{Asked}
use Rattle.tcl_eval.specs.declared.frame.Mode.{Mode}
use Rattle.tcl_eval.specs.declared.frame.Mode.TheVariants.{Give, Run, Call as CallHost, Ended}
use Rattle.tcl_host.specs.Calls.{Reply, Stepped, Known}

-- No outcome is to be passed to a frame, and no script is to be begun.
abbrev pub is_settled : Mode → Bool
is_settled (Give c v) = false
is_settled (Run script depth) = false
is_settled _ = true

abbrev pub IsSettled : Mode → Type 0
IsSettled mode = IsTrue (is_settled mode)

abbrev pub IsWait : Reply → Type 0
IsWait (Stepped step vars) = step ≡ Wait
IsWait (Known b) = ⊥

abbrev pub WaitsAt : Asked → Reply → Type 0
WaitsAt a r = a.paused ≡ true → IsWait r

abbrev pub GoesDown : Asked → ℕ → ℕ → Type 0
GoesDown a new old = a.paused ≡ false → new < old

-- The last reply is `Wait`.
abbrev pub EndsInWait : List Reply → Type 0
EndsInWait [] = ⊥
EndsInWait (r ∷ []) = IsWait r
EndsInWait (r ∷ s ∷ rs) = EndsInWait (s ∷ rs)

-- The machine waits in a call.
abbrev pub IsAsking : Mode → Type 0
IsAsking (CallHost call depth resumed) = Unit {0}
IsAsking _ = ⊥

-- The run has ended, or it waits in a call and the last reply was `Wait`.
abbrev pub PausesAt : Mode → List Reply → Type 0
PausesAt (Ended end) rs = Unit {0}
PausesAt mode rs = EndsInWait rs × IsAsking mode

abbrev pub IsOverOrAsking : Mode → Type 0
IsOverOrAsking (Ended end) = Unit {0}
IsOverOrAsking mode = IsAsking mode

-- A paused machine waits in a call, or its run has ended.
abbrev pub IsAskingOnPause : Asked → Type 0
IsAskingOnPause a = a.paused ≡ true → IsOverOrAsking a.mode

abbrev pub OnPause : Asked → List Reply → Type 0
OnPause a rs = a.paused ≡ true → PausesAt a.mode rs

-- A bound of the potential if no outcome is to be passed on.
abbrev pub Falls : Mode → ℕ → ℕ
Falls (Give c v) n = suc n
Falls (Run script depth) n = suc n
Falls _ n = n
