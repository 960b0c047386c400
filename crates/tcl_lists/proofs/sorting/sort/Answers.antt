use Rattle.std.proofs.Common.{rules, List, ap, ◌∙◌}
use Rattle.tcl_lists.specs.declared.sorting.Entry.{Entry}
use Rattle.tcl_lists.specs.Sorting.{comes_before, in_order}
use Rattle.tcl_lists.proofs.Ordered.{before_order}
use Rattle.tcl_lists.proofs.Sorts.{sorted_by}
use Rattle.tcl_lists.proofs.sorting.sort.Goals as goal

pub returns : goal.returns
returns c =
    sorted_by (comes_before c.args.given) (before_order c.args.given) c.entries.inside.list.items c.sort_by.new.self.items c.in_ok-sort_by.ensures.sorted c.sort_by.ensures.stable
    (λ a r q k. search rules)
    ∙ ap (λ (l : List Entry). in_order (comes_before c.args.given) l) c.entries.view_is
