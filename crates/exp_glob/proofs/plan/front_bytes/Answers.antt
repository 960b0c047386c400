use Rattle.std.proofs.Common.{◌≡◌, ◌+◌, [], length, length-append, drop, sym, subst, ap, ◌∙◌, ◌∷◌, List, ℕ, arith}
use Rattle.std.proofs.lemmas.List.{drop_more}
use Rattle.exp_glob.specs.declared.element.Element.{Element}
use Rattle.exp_glob.specs.Literals.{IsLiteral}
use Rattle.exp_glob.proofs.Made.{onwards_byte, literal_more}
use Rattle.exp_glob.proofs.plan.front_bytes.Goals as goal

pub loop-element-preserved : goal.loop-element-preserved
loop-element-preserved c =
    let es = c.args.elements.now in
    let n = c.loop-element.element-index in
    let e = c.element-item.result in
    let b = c.in-Some.byte in
    let before = c.loop-element.invariant in
    let here : drop n es ≡ e ∷ drop (n + 1) es
    = drop_more es n e c.loop-element-test.true ∙ ap (λ (f : Element). f ∷ drop (n + 1) es) (sym c.element-item.is) in
    let byte = sym (c.first_byte.ensures (drop (n + 1) es)) ∙ c.in-Some.is in
    let made = c.in_ok-push.ensures.items in
    record {
      long = ap length made ∙ omega (arith, length-append c.loop-element.bytes.items (b ∷ []), before.long);
      literal =
          subst (λ (l : List ℕ). IsLiteral c.args.nocase es 0 l) (sym made) (literal_more c.args.nocase es n b e c.loop-element.bytes.items here byte before.onwards before.long before.literal);
      onwards = onwards_byte c.args.nocase es n b e here byte before.onwards;
    }
