use Rattle.std.proofs.Common.{sym, ap, ◌∙◌}
use Rattle.tcl_subst.specs.Both.{both}
use Rattle.tcl_subst.specs.Entries.{find, changed}
use Rattle.tcl_subst.proofs.Named.{left_alike}
use Rattle.tcl_subst.proofs.Sorted.{short_so, long_so, find_short, find_long, change_short, change_long}
use Rattle.tcl_subst.proofs.names.Names.get_mut.Goals as goal

pub returns-in-Some : goal.returns-in-Some
returns-in-Some g c =
    let is = short_so c.args.name.now c.in-Some.ensures.short.1 in (
      left_alike _ _ _ _ _
          (λ x. ap (λ n. both (changed n x c.self.inside.short) c.self.inside.long) c.in-Some.ensures.short.0
          ∙ sym (change_short c.args.name.now x c.self.inside.short c.self.inside.long is)
          ∙ ap (changed c.args.name.now x) c.self.view_is)
          c.self.view_is,
      record {
        writes_back = tt;
        value = c.get_mut.ensures.value ∙ ap (λ n. find n c.self.inside.short) c.in-Some.ensures.short.0 ∙ find_short c.args.name.now c.self.inside.short c.self.inside.long is ∙ ap (find c.args.name.now) c.self.view_is;
      },
    )

pub returns-in-None : goal.returns-in-None
returns-in-None g c =
    let is = long_so c.args.name.now c.in-None.ensures.long in (
      left_alike _ _ _ _ _
          (λ x. sym (change_long c.args.name.now x c.self.inside.short c.self.inside.long is) ∙ ap (changed c.args.name.now x) c.self.view_is)
          c.self.view_is,
      record {
        writes_back = tt;
        value = c.get_mut-in-None.ensures.value ∙ find_long c.args.name.now c.self.inside.short c.self.inside.long is ∙ ap (find c.args.name.now) c.self.view_is;
      },
    )
