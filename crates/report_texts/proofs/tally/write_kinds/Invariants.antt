use Rattle.std.proofs.Common.{◌≡◌, ◌≤◌, take}
use Rattle.std.specs.Io.KnownBytes.{Appends}
use Rattle.report_texts.specs.Line.{kinds_text}
use Rattle.report_texts.proofs.tally.write_kinds.Given as goal

abbrev pub invariant-loop-i : goal.invariant-loop-i
invariant-loop-i g l = record {
  put : Appends (g.W.Write.contents l.initial.out.device) (g.W.Write.contents l.out.device) (kinds_text (take l.i l.kinds) l.endings);
  failures : l.out.failures ≡ 0;
  calls : l.out.calls ≤ 1099511627776;
}
