use Rattle.std.proofs.Common.{◌-◌, take, subst, sym, arith}
use Rattle.exp_glob.specs.Spans.{Spans}
use Rattle.exp_glob.proofs.Endings.{one_off, end_off}
use Rattle.exp_glob.proofs.ending.ends_nowhere.Goals as goal
use Rattle.exp_glob.proofs.ending.ends_nowhere.Goals.{then-at-eq0-via-then-at-eq0, then-at-eq0-via-else-at-eq0+then-not-takes, in-One+else-at-eq0+else-not-takes, in-End}

pub returns-then-at-eq0 : goal.returns-then-at-eq0
returns-then-at-eq0 c = λ _ a h.
    let p = one_off c.args.nocase c.args.text.now c.args.elements.now c.run.left a c.run.at c.index-elements-left.result c.in-One.single
    c.run-test.true c.run.invariant.within c.index-elements-left.is c.in-One.is (c.run.invariant.so_far a h) in
    elim c.then-at-eq0.branch [
      | then-at-eq0-via-then-at-eq0 w ↦ omega (arith, p.0, w.if-at-eq0.true)
      | then-at-eq0-via-else-at-eq0+then-not-takes w ↦ absurd (cc (p.1, w.takes.ensures, w.if-not-takes.true))
    ]

pub run-preserved : goal.run-preserved
run-preserved c = record {
  within = omega (arith, c.run.invariant.within);
  inside = elim c.match-elements-left.branch [
    | in-One+else-at-eq0+else-not-takes w ↦ omega (arith, w.at-is, c.run.invariant.inside)
    | in-End w ↦ omega (arith, w.at-is, c.run.invariant.inside)
  ];
  so_far = λ a h. elim c.match-elements-left.branch [
    | in-One+else-at-eq0+else-not-takes w ↦ subst (λ i. Spans c.args.nocase (take (c.run.left - 1) c.args.elements.now) c.args.text.now a i) (sym w.at-is)
        (one_off c.args.nocase c.args.text.now c.args.elements.now c.run.left a c.run.at c.index-elements-left.result w.in-One.single
        c.run-test.true c.run.invariant.within c.index-elements-left.is w.in-One.is (c.run.invariant.so_far a h)).2
    | in-End w ↦ subst (λ i. Spans c.args.nocase (take (c.run.left - 1) c.args.elements.now) c.args.text.now a i) (sym w.at-is)
        (end_off c.args.nocase c.args.text.now c.args.elements.now c.run.left a c.run.at c.index-elements-left.result
        c.run-test.true c.run.invariant.within c.index-elements-left.is w.in-End.is (c.run.invariant.so_far a h))
  ];
}
