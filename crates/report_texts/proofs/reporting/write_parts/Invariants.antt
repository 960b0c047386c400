use Rattle.std.proofs.Common.{◌≡◌, ◌≤◌, List, take, length, vec_capacity}
use Rattle.std.specs.Io.KnownBytes.{Appends}
use Rattle.session.specs.declared.report.Report.{Report}
use Rattle.report_texts.specs.Report.{all_done}
use Rattle.report_texts.specs.Form.{parts_bytes, endings_of}
use Rattle.report_texts.specs.Written.{AllStandFor}
use Rattle.report_texts.proofs.reporting.write_parts.Given as goal

-- what was told so far
abbrev pub invariant-loop-i : goal.invariant-loop-i
invariant-loop-i g l = record {
  told : List Report;
  stand : AllStandFor (take l.i l.reports) told;
  put : Appends (g.W.Write.contents l.initial.out.device) (g.W.Write.contents l.out.device) (parts_bytes l.form 1 told);
  done : l.well ≡ all_done told;
  ended : l.endings.items ≡ endings_of told;
  room : length l.reports ≤ vec_capacity l.endings;
  failures : l.out.failures ≡ 0;
  calls : l.out.calls ≤ 1099511627776;
}
