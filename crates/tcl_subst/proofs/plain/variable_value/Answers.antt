use Rattle.std.proofs.Common.{ℕ, List, [], true, Result, sym, subst}
use Rattle.tcl_subst.specs.declared.faults.SubstFault.{SubstFault}
use Rattle.tcl_subst.specs.Filling.{Full, behind, where_read}
use Rattle.tcl_subst.specs.Plain.{TellsValue}
use Rattle.tcl_subst.proofs.plain.variable_value.Goals as goal

pub returns-in-Ok-clause-value : goal.returns-in-Ok-clause-value
returns-in-Ok-clause-value c =
    subst (λ (r : Result (List ℕ) SubstFault). TellsValue c.literal_value.result true (where_read r c.args.name.now (λ value vars. behind [] value (λ text. Full text)) c.args.vars.now))
    (sym c.in-Ok.ensures.given) (c.literal_value.ensures c.args.vars.now)
