use Rattle.std.proofs.Common.{ap, ◌∙◌}
use Rattle.tcl_subst.specs.Entries.{find}
use Rattle.tcl_subst.proofs.Sorted.{short_so, long_so, find_short, find_long}
use Rattle.tcl_subst.proofs.names.Names.get.Goals as goal

pub returns-in-Some : goal.returns-in-Some
returns-in-Some g c =
    c.get.ensures
    ∙ ap (λ n. find n c.self.inside.short) c.in-Some.ensures.short.0
    ∙ find_short c.args.name.now c.self.inside.short c.self.inside.long (short_so c.args.name.now c.in-Some.ensures.short.1)
    ∙ ap (find c.args.name.now) c.self.view_is

pub returns-in-None : goal.returns-in-None
returns-in-None g c =
    c.get-in-None.ensures ∙ find_long c.args.name.now c.self.inside.short c.self.inside.long (long_so c.args.name.now c.in-None.ensures.long) ∙ ap (find c.args.name.now) c.self.view_is
