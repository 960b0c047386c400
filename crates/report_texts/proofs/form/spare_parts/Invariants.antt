use Rattle.std.proofs.Common.{◌≤◌, vec_capacity}
use Rattle.report_texts.specs.Written.{AreParts}
use Rattle.report_texts.proofs.form.spare_parts.Given as goal

abbrev pub invariant-loop-i : goal.invariant-loop-i
invariant-loop-i l = record {
  parts : AreParts l.form l.i l.parts.items;
  room : l.count ≤ vec_capacity l.parts;
}
