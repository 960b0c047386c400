use Rattle.std.proofs.Common.{◌≡◌, Some, ap, ap₂, sym, ◌∙◌, rules}
use Rattle.tcl_words.specs.Pieces.{member, part_view, parts_view}
use Rattle.tcl_words.specs.declared.shapes.Part.{Var, the_lemmas}
use Rattle.tcl_words.proofs.shapes.+copy.Goals as goal

pub copied_part-returns-in_ok-copied_parts-in-Some : goal.copied_part-returns-in_ok-copied_parts-in-Some
copied_part-returns-in_ok-copied_parts-in-Some t c =
    let name = c.in_ok-name-in-Var.name in
    let index = c.in_ok-copied_parts-in-Some.field-0 in
    let made : part_view (Var name (Some index)) ≡ member name (parts_view index.items) = search (rules, the_lemmas) in
    let was : part_view (Var c.in-Var.name (Some c.in-Some.index)) ≡ member c.in-Var.name (parts_view c.in-Some.index.items) = search (rules, the_lemmas) in
    made ∙ ap₂ member c.in_ok-name-in-Var.ensures c.in_ok-copied_parts-in-Some.ensures ∙ ap (λ l. member c.in-Var.name (parts_view l)) c.as_slice.ensures.value ∙ sym was ∙ ap (λ o. part_view (Var c.in-Var.name o)) (sym c.in-Some.is) ∙ ap part_view (sym c.in-Var.is)
