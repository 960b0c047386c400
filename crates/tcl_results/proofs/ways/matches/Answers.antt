use Rattle.std.proofs.Common.{is_some, ap, ◌∙◌}
use Rattle.exp_glob.specs.declared.pattern.Glob.{Glob}
use Rattle.exp_glob.specs.Search.{first_span}
use Rattle.exp_glob.proofs.Wholes.{whole_is}
use Rattle.tcl_results.proofs.ways.matches.Goals as goal

pub returns : goal.returns
returns c =
    c.is_found.ensures ∙ ap (λ (g : Glob). is_some (first_span g c.args.nocase c.args.text.now)) c.in_ok-glob.ensures
    ∙ whole_is c.args.nocase c.args.text.now c.args.pattern.now
