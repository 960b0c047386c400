use Rattle.std.proofs.Common.{◌≡◌, ℕ, ◌+◌, ◌++◌, ◌∷◌, [], length, Some, sym, ap, subst, ◌∙◌, arith}
use Rattle.std.specs.Prelude.{slice_get}
use Rattle.run_records.specs.Joined.{script_of}
use Rattle.child_serve.specs.Opened.{IsOpened}
use Rattle.child_serve.proofs.Opening.{rest_first, rest_next, one_longer, one_opened}
use Rattle.child_serve.proofs.worker.open_all.Goals as goal

pub loop-keeper-preserved : goal.loop-keeper-preserved
loop-keeper-preserved g c =
    let workers = c.args.place.workers in
    let worker = c.args.place.worker in
    let keepers = c.args.keepers.items in
    let keeper = c.in-Some.keeper in
    let e = c.in_ok-ends.ends in
    let hand = c.in_ok-ends.hand in
    let was = c.loop-keeper.opened in
    let rest = c.loop-keeper.keeper-iterator.rest.items in
    let step = c.in-Some.ensures.steps.0 in
    let less = ap length step in
    let size = c.loop-keeper.invariant.count in
    let count = c.loop-keeper.invariant.hands in
    let ends_are = c.push_reserved.ensures.items ∙ ap (λ l. l ++ e ∷ []) c.in_ok-reserve.ensures.items in
    let hands_are = c.push_reserved-in-loop-keeper.ensures.items ∙ ap (λ l. l ++ hand ∷ []) c.in_ok-reserve-2.ensures.items in
    let mine = rest_first keepers c.loop-keeper.index rest c.next.new.self.rest.items keeper c.loop-keeper.invariant.rest step in
    let opened = subst (λ (n : ℕ). IsOpened n keeper e hand) c.number_of-number.ensures c.in_ok-ends.ensures in
    record {
      rest = rest_next keepers c.loop-keeper.index rest c.next.new.self.rest.items keeper c.loop-keeper.invariant.rest step;
      count = omega (arith, size, less);
      hands = ap length hands_are ∙ one_longer was.hands.items hand ∙ ap (λ (n : ℕ). n + 1) count;
      opened = one_opened workers worker keepers was.ends.items c.push_reserved.new.self.items was.hands.items c.push_reserved-in-loop-keeper.new.self.items keeper e hand ends_are hands_are
          (subst (λ (n : ℕ). slice_get keepers n ≡ Some keeper) (sym count) mine) (subst (λ (n : ℕ). IsOpened (script_of workers worker (n + 1)) keeper e hand) (sym count) opened) c.loop-keeper.invariant.opened;
    }
