use Rattle.std.proofs.Common.{ap, length, map, arith}
use Rattle.child_serve.specs.declared.worker.Team.{Team}
use Rattle.child_serve.proofs.Deals.{snoc_count}
use Rattle.child_serve.proofs.Formed.{one_team}
use Rattle.child_serve.proofs.dealing.teams_of.Goals as goal

pub loop-clock-preserved : goal.loop-clock-preserved
loop-clock-preserved g c =
    let rest = ap length c.in-Some.ensures.steps.0 in
    let keepers = ap length c.take_first.ensures in
    let scripts = ap length c.take_first-in-loop-clock.ensures in
    let teams = ap length c.in-Ok.ensures.items in
    let team : Team g.row.K.Denot g.row.C.Denot = record { keepers = c.take_first.result; scripts = c.take_first-in-loop-clock.result; clock = c.in-Some.clock } in
    let more = snoc_count c.loop-clock.teams.items team in
    record {
      scripts = omega (arith, rest, scripts, c.loop-clock.invariant.scripts);
      keepers = omega (arith, rest, keepers, c.loop-clock.invariant.keepers);
      count = omega (arith, rest, teams, more, c.loop-clock.invariant.count);
      teams = one_team _ _ _ _ _ _ c.loop-clock.teams.items c.push.new.self.items team (ap (map (λ v. v.items)) c.take_first-in-loop-clock.ensures) (ap (map (λ v. v.items)) c.take_first.ensures) c.in-Ok.ensures.items c.loop-clock.invariant.teams;
    }
