use Rattle.std.proofs.Common.{◌≡◌, subst, arith}
use Rattle.std.specs.Prelude.{IfOk}
use Rattle.feed_rings.specs.Ends.{SameIn}
use Rattle.child_serve.specs.Teams.{IsWork}
use Rattle.child_serve.proofs.Teaming.{served_next, served_all}
use Rattle.child_serve.proofs.Taking.{logs_next, logs_all}
use Rattle.child_serve.proofs.serving.join_all.Goals as goal

pub loop-handle-preserved : goal.loop-handle-preserved
loop-handle-preserved g c =
    let was = c.loop-handle in
    let h = c.in-Some.handle in
    record {
      served = λ none n teams a.
          let j = c.join_one.ensures none in
          let is = subst (λ r. IfOk r (λ p. IsWork g.K.Keeper.told g.K.Keeper.gives g.K.Keeper.named g.K.Keeper.made h.promise.workers h.promise.worker h.promise.team.value p × SameIn h.promise.log.value p.log)) j.1.1 c.join-outcome.ensures in
          served_next g.K.Keeper.told g.K.Keeper.gives g.K.Keeper.named g.K.Keeper.made n teams was.handle-iterator.rest.items c.next.new.self.rest.items was.joined.parts.items c.join_one.new.joined.parts.items
          was.joined.logs.items c.join_one.new.joined.logs.items h j.1.0 c.in-Some.ensures.steps.0 j.1.2.parts j.1.2.logs (was.invariant.served j.0 n teams a) is.0;
      logs = λ none.
          let j = c.join_one.ensures none in
          let is = subst (λ r. IfOk r (λ p. IsWork g.K.Keeper.told g.K.Keeper.gives g.K.Keeper.named g.K.Keeper.made h.promise.workers h.promise.worker h.promise.team.value p × SameIn h.promise.log.value p.log)) j.1.1 c.join-outcome.ensures in
          logs_next c.args.handles.items was.handle-iterator.rest.items c.next.new.self.rest.items was.joined.logs.items c.join_one.new.joined.logs.items h j.1.0.log c.in-Some.ensures.steps.0 j.1.2.logs is.1 (was.invariant.logs j.0);
    }

pub returns-in-None-fault-clause-served : goal.returns-in-None-fault-clause-served
returns-in-None-fault-clause-served g c n teams a =
    let rest = c.loop-handle.handle-iterator.rest in
    served_all g.K.Keeper.told g.K.Keeper.gives g.K.Keeper.named g.K.Keeper.made n teams rest.items c.loop-handle.joined.parts.items c.loop-handle.joined.logs.items (omega (arith, rest.ok.0, c.in-None.ensures.steps.0)) (c.loop-handle.invariant.served c.in-None-fault.is n teams a)

pub returns-in-None-fault-clause-logs : goal.returns-in-None-fault-clause-logs
returns-in-None-fault-clause-logs g c =
    let rest = c.loop-handle.handle-iterator.rest in
    logs_all c.args.handles.items rest.items c.loop-handle.joined.logs.items (omega (arith, rest.ok.0, c.in-None.ensures.steps.0)) (c.loop-handle.invariant.logs c.in-None-fault.is)
