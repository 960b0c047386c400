use Rattle.std.proofs.Common.{◌≡◌, ◌≤◌, take, length}
use Rattle.std.specs.Io.KnownBytes.{Appends}
use Rattle.report_texts.proofs.devices.write_all.Given as goal

abbrev pub invariant-writes : goal.invariant-writes
invariant-writes g l = record {
  put : Appends (g.W.Write.contents l.initial.writer.device) (g.W.Write.contents l.writer.device) (take l.done l.text);
  within : l.done ≤ length l.text;
  calls : l.writer.calls ≡ l.counter;
  failures : l.writer.failures ≡ 0;
}
