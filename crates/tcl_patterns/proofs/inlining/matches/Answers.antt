use Rattle.std.proofs.Common.{◌≡◌, ℕ, ◌+◌, ◌-◌, ◌++◌, List, Some, sym, ap, subst, ◌∙◌}
use Rattle.std.specs.List.{flat_map}
use Rattle.exp_match.specs.Written.{Written, find_from}
use Rattle.tcl_patterns.specs.Inlining.{groups_shown}
use Rattle.tcl_patterns.specs.Matches.{in_turn}
use Rattle.tcl_patterns.proofs.Inlined.{list_next}
use Rattle.tcl_patterns.proofs.inlining.matches.Goals as goal

pub loop-turn-preserved : goal.loop-turn-preserved
loop-turn-preserved c =
    let w = c.args.searcher.now in
    let text = c.args.text.now in
    let turn = c.loop-turn.turn in
    let spans = c.next_match.new.spans in
    let whole : List (List ℕ) = flat_map (groups_shown c.args.indexed text c.args.count) (in_turn c.args.most w text c.args.start) in
    let found : find_from w text c.loop-turn.at ≡ Some spans = subst (λ (v : Written). find_from v text c.loop-turn.at ≡ Some spans) c.loop-turn.invariant.same c.in-Some.ensures.found.0 in
    record {
      same = c.next_match.ensures.same ∙ c.loop-turn.invariant.same;
      list = ap (λ (next : ℕ). c.push_groups.new.made ++ flat_map (groups_shown c.args.indexed text c.args.count) (in_turn (c.args.most - (turn + 1)) w text next)) c.in-Some.ensures.found.1
          ∙ list_next w text c.args.indexed c.args.count c.args.most turn c.loop-turn.at c.loop-turn.made whole c.loop-turn.invariant.list spans c.push_groups.new.made c.loop-turn-test.true found c.in_ok-push_groups.ensures;
    }
