use Rattle.std.proofs.Common.{◌≡◌, [], ◌++◌, Some, sym, ap, ◌∙◌, rules, arith}
use Rattle.std.proofs.lemmas.Grind.{common_steps}
use Rattle.tcl_words.specs.Pieces.{member, part_view, parts_view}
use Rattle.tcl_words.specs.declared.shapes.Part.{Var, the_lemmas}
use Rattle.tcl_subst.specs.Recipes.{piece_onto}
use Rattle.tcl_subst.proofs.Flat.{member_pushed, part_pushed}
use Rattle.tcl_subst.proofs.recipe.+push.Goals as goal

pub push_part-returns-in_ok-push-in-Some-2 : goal.push_part-returns-in_ok-push-in-Some-2
push_part-returns-in_ok-push-in-Some-2 t c =
    let was : part_view (Var c.in-Var.name (Some c.in-Some.index)) ≡ member c.in-Var.name (parts_view c.in-Some.index.items) = search (rules, the_lemmas) in
    let seen : part_view c.args.part.now ≡ member c.in-Var.name (parts_view c.in-Some.index.items) = ap part_view c.in-Var.is ∙ ap (λ o. part_view (Var c.in-Var.name o)) c.in-Some.is ∙ was in
    member_pushed _ _ _ _ _ _ _ c.in_ok-push-in-Some.ensures.items c.in_ok-push_parts-in-Some.ensures c.in_ok-push-in-Some-2.ensures.items c.in_ok-copied-in-Some.ensures
    ∙ ap (λ ps. c.args.steps.now.items ++ piece_onto (member c.in-Var.name (parts_view ps)) []) c.as_slice-in-Some.ensures.value
    ∙ ap (λ p. c.args.steps.now.items ++ piece_onto p []) (sym seen)

pub push_parts-loop-part-preserved : goal.push_parts-loop-part-preserved
push_parts-loop-part-preserved t c = part_pushed _ _ _ c.part-item.result _ _ (grind (arith, common_steps)) c.in_ok-push_part.ensures c.loop-part.invariant
