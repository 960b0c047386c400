use Rattle.std.proofs.Common.{◌≡◌, ◌≤◌, ◌<◌, ◌-◌, List, length, length-drop, Some, None, subst, ap, sym, ◌∙◌, arith}
use Rattle.exp_glob.specs.declared.element.Element.{Element}
use Rattle.exp_glob.specs.Stars.{behind_star}
use Rattle.exp_glob.specs.declared.literal.Literal.{Literal}
use Rattle.exp_glob.specs.Literals.{AreLiterals}
use Rattle.exp_glob.proofs.Made.{later_are}
use Rattle.exp_glob.proofs.Greedy.{greedy_turn, no_run, last_run}
use Rattle.exp_glob.proofs.runs.longest.Goals as goal

pub returns-in_default-least_run : goal.returns-in_default-least_run
returns-in_default-least_run c =
    c.loop-n.invariant.onwards None (no_run c.args.nocase c.args.text.now c.loop-n.left.now c.loop-n.at (λ k ge le. c.in_default-least_run.ensures k ge (omega arith)))

pub loop-n-preserved : goal.loop-n-preserved
loop-n-preserved c =
    let left = c.loop-n.left.now in
    let more = c.after-left.result.now in
    let is : behind_star left ≡ Some more = c.in-Some.ensures.1 ∙ ap (λ (es : List Element). Some es) (sym c.after-left.ensures) in
    let least = c.in-Some-least_run.ensures in
    let within : c.in-Some-least_run.field-0-0 ≤ length c.args.text.now = omega (arith, least.1) in
    record {
      onwards = λ r h.
          c.loop-n.invariant.onwards r (greedy_turn c.args.nocase c.args.text.now left more c.loop-n.at c.in-Some-least_run.field-0-0 c.in-Some-least_run.end is least.0 within least.2 least.3 r h);
      literals =
          subst (λ (ls : List Literal). AreLiterals c.args.nocase more ls) (sym c.later_literals-sought.ensures) (later_are c.args.nocase left more c.loop-n.sought.now c.loop-n.invariant.literals is);
    }

pub returns : goal.returns
returns c =
    c.loop-n.invariant.onwards c.greatest_run.result (last_run c.args.nocase c.args.text.now c.loop-n.left.now c.loop-n.at c.greatest_run.result c.in_default.ensures c.greatest_run.ensures)

pub loop-n-smaller : goal.loop-n-smaller
loop-n-smaller c =
    let left = c.loop-n.left.now in
    let shorter : length c.after-left.result.now ≡ length left - c.in-Some.n = ap (λ (es : List Element). length es) c.after-left.ensures ∙ length-drop c.in-Some.n left in
    let some : 0 < c.in-Some.n = c.in-Some.ensures.2 in
    let within : c.in-Some.n ≤ length left = c.in-Some.ensures.0 in
    omega arith
