use Rattle.std.proofs.Common.{ap, ◌∙◌}
use Rattle.tcl_subst.specs.Entries.{is_name, find, changed}
use Rattle.tcl_subst.proofs.Named.{left_alike, named, lookup_named, set_named}
use Rattle.tcl_subst.proofs.byte_names.ByteNames.get_mut.Goals as goal

pub returns : goal.returns
returns g c = (
  left_alike _ _ _ _ _
      (λ x. ap (named (λ k. k.items)) (c.get_mut.follows.holds x).0 ∙ set_named (λ k. k.items) (is_name c.args.name.now) c.self.inside.tree.entries x ∙ ap (changed c.args.name.now x) c.self.view_is)
      (ap (λ t. named (λ k. k.items) t.entries) c.get_mut.follows.holds-at-none ∙ c.self.view_is),
  record {
    writes_back = tt;
    value = c.get_mut.ensures.value ∙ lookup_named (λ k. k.items) (is_name c.args.name.now) c.self.inside.tree.entries ∙ ap (find c.args.name.now) c.self.view_is;
  },
)
