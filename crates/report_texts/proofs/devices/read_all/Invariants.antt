use Rattle.std.proofs.Common.{◌≡◌, ◌<◌, vec_len}
use Rattle.std.specs.Io.KnownBytes.{Consumes}
use Rattle.report_texts.proofs.devices.read_all.Given as goal

abbrev pub invariant-reads : goal.invariant-reads
invariant-reads g l = record {
  took : Consumes (g.R.Read.remaining l.initial.reader.device) (g.R.Read.remaining l.reader.device) l.text;
  calls : l.reader.calls ≡ l.counter;
  failures : l.reader.failures ≡ 0;
  room : 0 < vec_len l.buffer;
}
