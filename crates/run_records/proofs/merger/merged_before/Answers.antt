use Rattle.std.proofs.Common.{get_or, sym, ap, subst, ◌∙◌, rules, arith}
use Rattle.std.proofs.lemmas.List.Sorted.{IsNonDecreasingBy-from_sort_by_key}
use Rattle.std.proofs.lemmas.Fn.{always_returns_same}
use Rattle.child_hands.specs.Record.{moment_in}
use Rattle.run_records.specs.Joined.{at_moment}
use Rattle.run_records.proofs.Sorting.{sorted_ascends, stable_at}
use Rattle.run_records.proofs.Parting.{ring_at, rings_same, rings_put, out_kept}
use Rattle.run_records.proofs.Moving.{MergedTo, merged_first, merged_next, moved_all, all_of_gone}
use Rattle.run_records.proofs.merger.merged_before.Goals as goal

pub loop-worker-init : goal.loop-worker-init
loop-worker-init c = record { rings = rings_same c.args.reels.now; merged = subst (MergedTo c.args.bound _ 0 c.args.reels.now c.args.reels.now) (sym c.new-all.ensures) (merged_first c.args.bound _ c.args.reels.now) }

pub returns-in_err-move_before-clause-rings : goal.returns-in_err-move_before-clause-rings
returns-in_err-move_before-clause-rings c =
    let news = c.loop-worker.reels in
    let x = get_or news c.loop-worker.worker c.index-reels-worker.result in
    let at = ring_at c.args.reels.now news c.loop-worker.worker c.index-reels-worker.result c.loop-worker.invariant.rings c.loop-worker-test.true in
    rings_put c.args.reels.now news c.loop-worker.worker x c.move_before.new.self at (out_kept x.out c.move_before.new.self.out c.move_before.ensures.out) c.loop-worker.invariant.rings

pub loop-worker-preserved : goal.loop-worker-preserved
loop-worker-preserved c =
    let news = c.loop-worker.reels in
    let x = get_or news c.loop-worker.worker c.index-reels-worker.result in
    let at = ring_at c.args.reels.now news c.loop-worker.worker c.index-reels-worker.result c.loop-worker.invariant.rings c.loop-worker-test.true in
    record {
      rings = rings_put c.args.reels.now news c.loop-worker.worker x c.move_before.new.self at (out_kept x.out c.move_before.new.self.out c.move_before.ensures.out) c.loop-worker.invariant.rings;
      merged = merged_next c.args.bound _ c.loop-worker.worker c.args.reels.now news c.loop-worker.all c.move_before.new.all x c.move_before.new.self c.loop-worker.invariant.merged at c.in_ok-move_before.ensures.moves;
    }

pub returns-clause-moves : goal.returns-clause-moves
returns-clause-moves c = record {
  moves = moved_all c.args.bound _ c.loop-worker.worker c.args.reels.now c.loop-worker.reels c.loop-worker.all (omega (arith, c.loop-worker-test.false)) c.loop-worker.invariant.merged;
  joined = λ good. record {
    ascends = sorted_ascends _ (IsNonDecreasingBy-from_sort_by_key moment_in _ c.in_ok-sort_by_key.ensures.sorted (λ a r q k. search rules));
    ties = λ m. stable_at _ _ (c.in_ok-sort_by_key.ensures.stable moment_in (always_returns_same _ _ _ (λ a r q k. search rules))) m ∙ ap (at_moment m) (c.all-2.view_is ∙ c.loop-worker.invariant.merged.behind good ∙ all_of_gone c.args.reels.now c.loop-worker.reels c.loop-worker.invariant.rings);
  };
}
