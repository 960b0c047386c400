use Rattle.std.proofs.Common.{◌∙◌}
use Rattle.tcl_subst.proofs.Padded.{as_names_do}
use Rattle.tcl_subst.proofs.short.ShortOrd.cmp.Goals as goal

pub returns : goal.returns
returns c = c.cmp.ensures ∙ as_names_do c.args.self.now.key c.args.other.now.key c.args.self.now.is_key c.args.other.now.is_key
