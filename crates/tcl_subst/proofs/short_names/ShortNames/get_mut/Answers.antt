use Rattle.std.proofs.Common.{ap, ◌∙◌}
use Rattle.tcl_subst.specs.Entries.{is_name, find, changed}
use Rattle.tcl_subst.proofs.Named.{left_alike, named, lookup_named, set_named}
use Rattle.tcl_subst.specs.Shorts.{text_of}
use Rattle.tcl_subst.proofs.short_names.ShortNames.get_mut.Goals as goal

pub returns : goal.returns
returns g c = (
  left_alike _ _ _ _ _
      (λ x. ap (named (λ k. text_of k.key)) (c.get_mut.follows.holds x).0 ∙ set_named (λ k. text_of k.key) (is_name (text_of c.args.name.now.key)) c.self.inside.tree.entries x ∙ ap (changed (text_of c.args.name.now.key) x) c.self.view_is)
      (ap (λ t. named (λ k. text_of k.key) t.entries) c.get_mut.follows.holds-at-none ∙ c.self.view_is),
  record {
    writes_back = tt;
    value = c.get_mut.ensures.value ∙ lookup_named (λ k. text_of k.key) (is_name (text_of c.args.name.now.key)) c.self.inside.tree.entries ∙ ap (find (text_of c.args.name.now.key)) c.self.view_is;
  },
)
