use Rattle.std.proofs.Common.{ℕ, List, [], ◌∷◌, Option, unwrap_or, ap, ◌∙◌}
use Rattle.std.proofs.lemmas.Option.{unwrap_or-slice_get}
use Rattle.tcl_words.specs.Bytes as ascii
use Rattle.tcl_commands.proofs.versions.part.Goals as goal

pub returns-in-None : goal.returns-in-None
returns-in-None c =
    ap (λ (o : Option (List ℕ)). unwrap_or o (ascii.digit_0 ∷ [])) c.in-None.ensures ∙ unwrap_or-slice_get c.args.parts.now c.args.n (ascii.digit_0 ∷ [])
