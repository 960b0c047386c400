use Rattle.std.proofs.Common.{sym, ap, ◌∙◌}
use Rattle.tcl_subst.specs.Both.{both}
use Rattle.tcl_subst.specs.Entries.{find, without}
use Rattle.tcl_subst.proofs.Sorted.{short_so, long_so, find_short, find_long, remove_short, remove_long}
use Rattle.tcl_subst.proofs.names.Names.remove.Goals as goal

pub returns-in-Some-clause-found : goal.returns-in-Some-clause-found
returns-in-Some-clause-found g c =
    c.remove.ensures.found
    ∙ ap (λ n. find n c.self.inside.short) c.in-Some.ensures.short.0
    ∙ find_short c.args.name.now c.self.inside.short c.self.inside.long (short_so c.args.name.now c.in-Some.ensures.short.1)
    ∙ ap (find c.args.name.now) c.self.view_is

pub returns-in-Some-clause-removed : goal.returns-in-Some-clause-removed
returns-in-Some-clause-removed g c =
    ap (λ es. both es c.self.inside.long) (c.remove.ensures.removed ∙ ap (λ n. without n c.self.inside.short) c.in-Some.ensures.short.0)
    ∙ sym (remove_short c.args.name.now c.self.inside.short c.self.inside.long (short_so c.args.name.now c.in-Some.ensures.short.1) c.remove.ensures.sorted)
    ∙ ap (without c.args.name.now) c.self.view_is

pub returns-in-None-clause-found : goal.returns-in-None-clause-found
returns-in-None-clause-found g c =
    c.remove-in-None.ensures.found ∙ find_long c.args.name.now c.self.inside.short c.self.inside.long (long_so c.args.name.now c.in-None.ensures.long) ∙ ap (find c.args.name.now) c.self.view_is

pub returns-in-None-clause-removed : goal.returns-in-None-clause-removed
returns-in-None-clause-removed g c =
    ap (both c.self.inside.short) c.remove-in-None.ensures.removed
    ∙ sym (remove_long c.args.name.now c.self.inside.short c.self.inside.long (long_so c.args.name.now c.in-None.ensures.long) c.remove-in-None.ensures.sorted)
    ∙ ap (without c.args.name.now) c.self.view_is
