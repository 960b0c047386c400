use Rattle.std.proofs.Common.{List, ℕ, ◌++◌, length, ap}
use Rattle.tcl_subst.specs.Faults.{is_too_long}
use Rattle.tcl_strings.specs.Mapping.{mapped_from}
use Rattle.tcl_strings.proofs.mapping.mapped_text.Goals as goal

pub loop-rest-init : goal.loop-rest-init
unfolding is_too_long
loop-rest-init c = record {
  same = ap (λ (t : List ℕ). t ++ mapped_from c.args.nocase c.args.elements.now 0 c.args.text.now) c.new-made.ensures;
  short = ap (λ (t : List ℕ). is_too_long (length t)) c.new-made.ensures;
}
