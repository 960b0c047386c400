use Rattle.std.proofs.Common.{ℕ, List, [], Option, unwrap_or, sym, ap, ◌∙◌}
use Rattle.std.proofs.lemmas.Option.{unwrap_or-slice_get}
use Rattle.tcl_control.proofs.choosing.element_value.Goals as goal

pub returns-in-None : goal.returns-in-None
returns-in-None c =
    c.new.ensures ∙ ap (λ (o : Option (List ℕ)). unwrap_or o []) (sym c.in-None.is ∙ c.in_ok-value.ensures)
    ∙ unwrap_or-slice_get c.args.elements.now c.args.at []

pub returns-in-Some : goal.returns-in-Some
returns-in-Some c =
    ap (λ (o : Option (List ℕ)). unwrap_or o []) (sym c.in-Some.is ∙ c.in_ok-value.ensures)
    ∙ unwrap_or-slice_get c.args.elements.now c.args.at []
