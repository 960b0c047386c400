use Rattle.std.proofs.Common.{[], ◌∷◌}
use Rattle.tcl_values.proofs.Bare.{bare_written}
use Rattle.tcl_values.proofs.listed.is_bare.Goals as goal

pub returns : goal.returns
returns c = λ is.
    let text = c.args.text.now in
    bare_written text c.args.elements.now c.requires (c.one_list.ensures.round (text ∷ [])) (c.stands_bare.ensures is)
