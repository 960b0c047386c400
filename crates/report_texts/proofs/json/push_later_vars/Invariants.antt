use Rattle.std.proofs.Common.{◌≡◌, ◌++◌, drop}
use Rattle.report_texts.specs.Json.{later_vars}
use Rattle.report_texts.proofs.json.push_later_vars.Given as goal

abbrev pub invariant-loop-var : goal.invariant-loop-var
invariant-loop-var l = l.text ++ later_vars (drop l.var-index l.vars) ≡ l.initial.text ++ later_vars l.vars
