use Rattle.std.proofs.Common.{◌≡◌, ◌≤◌, Some, None, drop, length, length-drop, sym, ap, ◌∙◌, arith}
use Rattle.tcl_words.specs.Lists.{plus}
use Rattle.exp_match.specs.Scan.{member}
use Rattle.exp_match.proofs.Classes.{members_over, members_end, members_fail, members_turn}
use Rattle.exp_match.proofs.class.members.Goals as goal

pub returns-in-Some-clause-value : goal.returns-in-Some-clause-value
returns-in-Some-clause-value c =
    let s = c.args.chars.now in
    let i = c.loop-at.at in
    members_end s i _ (omega arith) c.loop-at.invariant.1 (Some c.in-Some.n) (grind arith) (grind arith)

pub returns-in-None-clause-value : goal.returns-in-None-clause-value
returns-in-None-clause-value c =
    let s = c.args.chars.now in
    let i = c.loop-at.at in
    members_end s i _ (omega arith) c.loop-at.invariant.1 None (grind arith) (grind arith)

pub returns-in_default-clause-value : goal.returns-in_default-clause-value
returns-in_default-clause-value c =
    let s = c.args.chars.now in
    let i = c.loop-at.at in
    members_fail s i _ (omega arith) c.loop-at.invariant.1 (grind arith) (grind arith)

pub loop-at-preserved : goal.loop-at-preserved
loop-at-preserved c =
    let s = c.args.chars.now in
    let i = c.loop-at.at in
    let is : member (drop i s) ≡ Some c.in-Some-member.n = grind arith in
    let within : c.in-Some-member.n ≤ length (drop i s) = rw (← c.after-in-loop-at.ensures) c.in-Some-member.ensures.within in
    (omega (arith, length-drop i s), members_turn s i _ (omega arith) c.loop-at.invariant.1 c.in-Some-member.n (grind arith) is (omega (arith, c.in-Some-member.ensures.some)))

pub returns-clause-value : goal.returns-clause-value
returns-clause-value c = sym (ap (plus c.loop-at.at) (members_over c.args.chars.now c.loop-at.at (omega arith))) ∙ c.loop-at.invariant.1
