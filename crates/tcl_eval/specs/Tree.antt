-- The meaning of a script: a tree of the host's calls that it needs, one after another.
use Rattle.std.specs.Prelude.{◌≡◌, ℕ, List, [], ◌∷◌}
use Rattle.tcl_subst.specs.Entries.{Entries}
use Rattle.tcl_subst.specs.Variables.{Variables}
use Rattle.tcl_host.specs.declared.host.HostStep.{HostStep}
use Rattle.tcl_host.specs.declared.host.HostStep.TheVariants.{Done, Fail, Body, Words, Wait, Stop, Unknown, Memory}
use Rattle.tcl_host.specs.Calls.{Call, Resume, Reply, Stepped, Known}
use Rattle.tcl_eval.specs.declared.frame.End.{End}
use Rattle.tcl_eval.specs.declared.procedure.Procedure.{Procedure}
use Rattle.tcl_eval.specs.declared.trail.Origin.{Origin}

-- The variables, the procedures, the steps left, and the trail of the current error, the innermost origin first.
pub record State : Type 0 where
  pub vars : Variables
  pub procs : Entries Procedure
  pub left : ℕ
  pub trail : List Origin

-- `Over`: the run has ended so, in this state. `Ask`: this call is needed, with this number of steps left, and the rest
-- depends on the reply.
pub data Tree : Type 0 where
  Over : End → State → Tree
  Ask : Call → ℕ → (Reply → Tree) → Tree

-- The number of steps left when a call is needed or the run has ended.
abbrev pub left_at : Tree → ℕ
left_at (Over end st) = st.left
left_at (Ask call left go) = left

-- `Wait` leaves the call open: the next call is `resume`.
abbrev pub answered : HostStep → Variables → ℕ → (Reply → Tree) → Tree
answered Wait vars left go = Ask (Resume vars) left go
answered (Done code value) vars left go = go (Stepped (Done code value) vars)
answered (Fail text) vars left go = go (Stepped (Fail text) vars)
answered (Body text) vars left go = go (Stepped (Body text) vars)
answered (Words text) vars left go = go (Stepped (Words text) vars)
answered (Stop ending) vars left go = go (Stepped (Stop ending) vars)
answered Unknown vars left go = go (Stepped Unknown vars)
answered Memory vars left go = go (Stepped Memory vars)

abbrev pub with_reply : Reply → ℕ → (Reply → Tree) → Tree
with_reply (Stepped step vars) left go = answered step vars left go
with_reply (Known b) left go = go (Known b)

-- The rest after a reply.
abbrev pub follow : Tree → Reply → Tree
follow (Over end st) r = Over end st
follow (Ask call left go) r = with_reply r left go

-- The host may give this reply to the call that the tree needs.
abbrev pub Answers : {H : Type 0} → (H → Call → Reply → H → Type 0) → Tree → H → Reply → H → Type 0
Answers answers (Over end st) old r new = ⊥
Answers answers (Ask call left go) old r new = answers old call r new

-- The replies, one to each call that the tree needs in turn. They lead from the host's old state to its new one, and
-- from the old tree to the new one.
abbrev pub Leads : {H : Type 0} → (H → Call → Reply → H → Type 0) → List Reply → Tree → H → Tree → H → Type 0
Leads answers [] tree old tree' new = (tree ≡ tree') × (old ≡ new)
Leads {H} answers (r ∷ rs) tree old tree' new =
    (mid : H) × Answers answers tree old r mid × Leads answers rs (follow tree r) mid tree' new
