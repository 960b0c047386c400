use Rattle.std.proofs.Common.{All, sym, ap, subst}
use Rattle.std.specs.Ordering.{nat_cmp}
use Rattle.std.specs.Map.{values_of}
use Rattle.std.proofs.lemmas.Map.Views.{All-values-insert_entry}
use Rattle.tcl_values.specs.Rows.{IsRow}
use Rattle.tcl_values.proofs.rows.Rows.keep_row.Goals as goal

pub returns : goal.returns
returns c es rows is =
    subst (All (IsRow es)) (sym (ap values_of c.in_ok-insert.ensures.entries))
    (All-values-insert_entry nat_cmp c.args.index _ (IsRow es) c.self.inside.rows.entries (subst (All (IsRow es)) (sym c.self.view_is) rows) is)
