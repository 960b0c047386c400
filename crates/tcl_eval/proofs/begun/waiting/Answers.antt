use Rattle.std.proofs.Common.{sym, ap, ◌∙◌}
use Rattle.tcl_subst.specs.declared.fill_step.FillStep.{FillStep}
use Rattle.tcl_subst.specs.Rests.{told}
use Rattle.tcl_eval.proofs.First.{waits_alone}
use Rattle.tcl_eval.proofs.begun.waiting.Goals as goal

pub returns-in-NeedScript-clause-waits : goal.returns-in-NeedScript-clause-waits
returns-in-NeedScript-clause-waits c =
    waits_alone c.advanced.new.filler c.in-NeedScript.field-0 c.args.alone.now
    (ap (λ (s : FillStep). told (s, c.advanced.new.filler)) (sym c.in-NeedScript.is) ∙ c.in_ok-advanced.ensures.told ∙ c.in_ok-filler.ensures c.args.vars.now)
