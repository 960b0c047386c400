use Rattle.std.proofs.Common.{◌≡◌, ◌++◌, ◌∷◌, [], length, ap, subst, sym, ◌∙◌, arith}
use Rattle.run_records.specs.Merged.{AreFresh, IsFresh}
use Rattle.child_serve.specs.Teams.{AreRingsOf, IsRingOf}
use Rattle.child_serve.proofs.Pairs.{paired_more, all_more, long_one}
use Rattle.child_serve.proofs.Teaming.{next_is_team, started_next}
use Rattle.child_serve.proofs.serving.start_all.Goals as goal

pub start_at-requires-after_bounds : goal.start_at-requires-after_bounds
start_at-requires-after_bounds g c κs within =
    let all : c.len-workers.result ≡ length c.args.teams.items = omega arith in
    next_is_team c.len-workers.result c.loop-team.worker c.loop-team.handles.items c.loop-team.team-iterator.rest.items c.next.new.self.rest.items c.args.teams.items c.in-Some.team all c.requires.teams c.loop-team.invariant.started c.in-Some.ensures.steps.0

pub loop-team-preserved : goal.loop-team-preserved
loop-team-preserved g c =
    let was = c.loop-team in
    let h = c.in_ok-handle.handle in
    let reel = c.in_ok-handle.reel in
    let is = c.in_ok-handle.ensures in
    let put = c.push_reserved.ensures.items ∙ ap (λ xs. xs ++ h ∷ []) c.in_ok-reserve.ensures.items in
    let rolled = c.push_reserved-in-loop-team.ensures.items ∙ ap (λ xs. xs ++ reel ∷ []) c.in_ok-reserve-2.ensures.items in
    record {
      started = started_next c.len-workers.result was.worker was.handles.items c.push_reserved.new.self.items was.team-iterator.rest.items c.next.new.self.rest.items c.args.teams.items h c.in-Some.team
          c.in-Some.ensures.steps.0 put was.invariant.started is.0.0 is.0.1 is.0.2;
      rings = subst (λ xs. AreRingsOf xs c.push_reserved-in-loop-team.new.self.items) (sym put) (subst (AreRingsOf (was.handles.items ++ h ∷ [])) (sym rolled)
          (paired_more (λ w x r. IsRingOf x r) 0 was.handles.items was.reels.items h reel was.invariant.rings is.1));
      fresh = subst AreFresh (sym rolled) (all_more IsFresh was.reels.items reel was.invariant.fresh is.2);
      count = let n = ap length rolled in let m = was.invariant.count in let one = long_one was.reels.items reel in omega (arith, n, m, one);
    }
