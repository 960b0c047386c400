use Rattle.std.proofs.Common.{◌≡◌, ◌++◌, drop}
use Rattle.report_texts.specs.Report.{vars_lines}
use Rattle.report_texts.proofs.texts.push_vars.Given as goal

abbrev pub invariant-loop-var : goal.invariant-loop-var
invariant-loop-var l = l.text ++ vars_lines (drop l.var-index l.vars) ≡ l.initial.text ++ vars_lines l.vars
