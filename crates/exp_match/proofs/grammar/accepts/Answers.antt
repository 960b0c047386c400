use Rattle.std.proofs.Common.{◌≡◌, ◌+◌, ◌≤◌, Some, None, get_or, drop, length, length-drop, sym, ap, ◌∙◌, arith}
use Rattle.exp_match.specs.Scan.{token_at, behind, accepts}
use Rattle.exp_match.proofs.Patterns.{accepts_over, no_token, no_place, next_place}
use Rattle.exp_match.proofs.grammar.accepts.Goals as goal

pub returns-in_default : goal.returns-in_default
returns-in_default c =
    let s = c.args.chars.now in
    let i = c.loop-at.at in
    let is : token_at (get_or s i 0) (drop (i + 1) s) ≡ None = grind arith in
    sym (no_token s i c.loop-at.nesting (omega arith) is) ∙ c.loop-at.invariant.2

pub returns-in_default-behind : goal.returns-in_default-behind
returns-in_default-behind c =
    let s = c.args.chars.now in
    let i = c.loop-at.at in
    let is : token_at (get_or s i 0) (drop (i + 1) s) ≡ Some (c.in-Some.token, c.in-Some.n) = grind arith in
    let bad : behind c.loop-at.nesting c.in-Some.token ≡ None = grind arith in
    sym (no_place s i c.loop-at.nesting (omega arith) (c.in-Some.token, c.in-Some.n) is bad) ∙ c.loop-at.invariant.2

pub loop-at-preserved : goal.loop-at-preserved
loop-at-preserved c =
    let s = c.args.chars.now in
    let i = c.loop-at.at in
    let is : token_at (get_or s i 0) (drop (i + 1) s) ≡ Some (c.in-Some.token, c.in-Some.n) = grind arith in
    let good : behind c.loop-at.nesting c.in-Some.token ≡ Some c.in-Some-behind.next = grind arith in
    let within : c.in-Some.n ≤ length (drop (i + 1) s) = rw (← c.after.ensures) c.in-Some.ensures.within in
    let place : i + (1 + c.in-Some.n) ≡ i + 1 + c.in-Some.n = omega arith in (
      omega (arith, length-drop (i + 1) s),
      omega (arith, c.in-Some-behind.ensures.sum),
      ap (λ k. accepts (drop k s) c.in-Some-behind.next) place ∙ sym (next_place s i c.loop-at.nesting (omega arith) (c.in-Some.token, c.in-Some.n) is c.in-Some-behind.next good) ∙ c.loop-at.invariant.2,
    )

pub returns : goal.returns
returns c = sym (accepts_over c.args.chars.now c.loop-at.at c.loop-at.nesting (omega arith)) ∙ c.loop-at.invariant.2
