use Rattle.std.proofs.Common.{◌≡◌, ◌-◌, ◌+◌, ◌∷◌, ◌∙◌, List, drop, sym, ap, subst, arith}
use Rattle.std.proofs.Math.Seq.{drop-length}
use Rattle.std.proofs.lemmas.List.{drop_more}
use Rattle.exp_glob.specs.declared.element.Element.{Element}
use Rattle.exp_glob.specs.Endings.{AreStars}
use Rattle.exp_glob.proofs.ending.stars_from.Goals as goal

pub loop-from-init : goal.loop-from-init
loop-from-init c = record {
  within = omega arith;
  so_far = subst (λ (l : List Element). AreStars l) (sym (drop-length c.args.elements.now)) tt;
}

pub loop-from-preserved : goal.loop-from-preserved
loop-from-preserved c =
    let es = c.args.elements.now in
    let from = c.loop-from.from in
    let e = c.index-elements-from.result in
    let before = c.loop-from.invariant in
    let here : drop (from - 1) es ≡ e ∷ drop (from - 1 + 1) es
    = drop_more es (from - 1) e (omega (arith, before.within, c.loop-from-test.true)) ∙ ap (λ (f : Element). f ∷ drop (from - 1 + 1) es) (sym c.index-elements-from.is) in
    let same : from - 1 + 1 ≡ from = omega (arith, c.loop-from-test.true) in
    record {
      within = omega (arith, before.within);
      so_far = subst (λ (l : List Element). AreStars l) (sym here) (sym c.is_star.ensures ∙ c.if-not-is_star.false, subst (λ n. AreStars (drop n es)) (sym same) before.so_far);
    }
