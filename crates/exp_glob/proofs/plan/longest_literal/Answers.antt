use Rattle.std.proofs.Common.{◌≡◌, ◌+◌, drop, sym, subst, ap, ◌∙◌, ◌∷◌, arith}
use Rattle.std.proofs.lemmas.List.{drop_more}
use Rattle.exp_glob.specs.declared.element.Element.{Element}
use Rattle.exp_glob.specs.declared.element.Element.TheVariants.{One}
use Rattle.exp_glob.proofs.Made.{Onwards, onwards_one}
use Rattle.exp_glob.proofs.plan.longest_literal.Goals as goal
use Rattle.exp_glob.proofs.plan.longest_literal.Goals.{then-is_none, else-is_none+then-most-i, else-is_none+else-most-i}

pub loop-i-preserved : goal.loop-i-preserved
loop-i-preserved c =
    let nocase = c.args.nocase in
    let es = c.args.elements.now in
    let i = c.loop-i.i in
    let before = c.loop-i.invariant in
    let here : drop i es ≡ One c.in-One.single ∷ drop (i + 1) es
    = drop_more es i c.index-elements-i.result c.loop-i-test.true ∙ ap (λ (e : Element). e ∷ drop (i + 1) es) (sym c.index-elements-i.is ∙ c.in-One.is) in
    let next : Onwards nocase es (i + 1) = onwards_one nocase es i c.in-One.single here before.onwards in
    elim c.if-is_none.branch [
      | then-is_none w ↦
          record {
            within = omega (arith, before.within, w.best-is);
            begun = omega (arith, w.start-is);
            best = subst (λ n. Onwards nocase es n) (sym w.best-is) before.best;
            start = subst (λ n. Onwards nocase es n) (sym w.start-is) next;
            onwards = next;
          }
      | else-is_none+then-most-i w ↦
          record {
            within = omega (arith, before.begun, w.best-is);
            begun = omega (arith, before.begun, w.start-is);
            best = subst (λ n. Onwards nocase es n) (sym w.best-is) before.start;
            start = subst (λ n. Onwards nocase es n) (sym w.start-is) before.start;
            onwards = next;
          }
      | else-is_none+else-most-i w ↦
          record {
            within = omega (arith, before.within, w.best-is);
            begun = omega (arith, before.begun, w.start-is);
            best = subst (λ n. Onwards nocase es n) (sym w.best-is) before.best;
            start = subst (λ n. Onwards nocase es n) (sym w.start-is) before.start;
            onwards = next;
          }
    ]
