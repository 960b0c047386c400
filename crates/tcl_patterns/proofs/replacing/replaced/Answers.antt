use Rattle.std.proofs.Common.{◌≡◌, ℕ, ◌+◌, ◌-◌, ◌++◌, List, length, refl, ap, ◌∙◌, arith}
use Rattle.tcl_subst.specs.Faults.{is_too_long}
use Rattle.tcl_patterns.specs.Matches.{in_turn}
use Rattle.tcl_patterns.specs.Replacing.{replaced_from}
use Rattle.tcl_patterns.proofs.replacing.replaced.Goals as goal

pub loop-turn-init : goal.loop-turn-init
unfolding is_too_long
loop-turn-init c =
    let none : c.args.most - 0 ≡ c.args.most = omega arith in
    let all = ap (λ (n : ℕ). length (in_turn n c.args.searcher.now c.args.text.now c.args.start)) none in
    record {
      same = refl;
      text = ap (λ (n : ℕ). c.new-made.result ++ replaced_from c.args.text.now c.args.by.now 0 (in_turn n c.args.searcher.now c.args.text.now c.args.start)) none
          ∙ ap (λ (t : List ℕ). t ++ replaced_from c.args.text.now c.args.by.now 0 (in_turn c.args.most c.args.searcher.now c.args.text.now c.args.start)) c.new-made.ensures;
      count = omega (arith, all);
      short = ap (λ (t : List ℕ). is_too_long (length t)) c.new-made.ensures;
    }
