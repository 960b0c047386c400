use Rattle.std.proofs.Common.{rules, Some, None}
use Rattle.child_events.proofs.Nexts.{is_next}
use Rattle.child_events.proofs.next.pick.Goals as goal

pub returns-in_err-at-clause-value : goal.returns-in_err-at-clause-value
returns-in_err-at-clause-value c = search rules

pub returns-in_err-at-clause-next : goal.returns-in_err-at-clause-next
returns-in_err-at-clause-next c = is_next c.args.heads.now c.args.horizon c.from_residual.result (returns-in_err-at-clause-value c)

pub returns-then-all_there-clause-value : goal.returns-then-all_there-clause-value
returns-then-all_there-clause-value c = search rules

pub returns-then-all_there-clause-next : goal.returns-then-all_there-clause-next
returns-then-all_there-clause-next c = is_next c.args.heads.now c.args.horizon (Some c.in_ok-at.at) (returns-then-all_there-clause-value c)

pub returns-else-all_there-clause-value : goal.returns-else-all_there-clause-value
returns-else-all_there-clause-value c = search rules

pub returns-else-all_there-clause-next : goal.returns-else-all_there-clause-next
returns-else-all_there-clause-next c = is_next c.args.heads.now c.args.horizon None (returns-else-all_there-clause-value c)
