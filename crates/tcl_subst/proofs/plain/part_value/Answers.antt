use Rattle.std.proofs.Common.{◌≡◌, ℕ, List, true, rules, sym, ap, subst, ◌∙◌}
use Rattle.tcl_words.specs.declared.shapes.Part.{Lit, the_lemmas}
use Rattle.tcl_words.specs.Pieces.{Piece, literal, no_pieces, piece, part_view}
use Rattle.tcl_subst.specs.Filling.{fill}
use Rattle.tcl_subst.specs.Plain.{is_plain_piece, TellsValue}
use Rattle.tcl_subst.proofs.plain.part_value.Goals as goal

pub returns-in_ok-from_slice-in-Lit-clause-value : goal.returns-in_ok-from_slice-in-Lit-clause-value
returns-in_ok-from_slice-in-Lit-clause-value c =
    let text = c.in-Lit.text in
    let is : part_view (Lit text) ≡ literal text = search (rules, the_lemmas) in
    let seen : part_view c.args.part.now ≡ literal text = ap part_view c.in-Lit.is ∙ is in
    subst (λ (p : Piece). TellsValue c.literal_value.result (is_plain_piece p) (fill (piece p no_pieces) c.args.vars.now)) (sym seen)
    (subst (λ (t : List ℕ). TellsValue c.literal_value.result true (fill (piece (literal t) no_pieces) c.args.vars.now))
    (c.in_ok-from_slice-in-Lit.ensures ∙ c.as_slice.ensures) (c.literal_value.ensures c.args.vars.now))
