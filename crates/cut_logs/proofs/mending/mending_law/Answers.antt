use Rattle.cut_logs.proofs.Ends.{front_mended, whole_stays}
use Rattle.cut_logs.proofs.mending.mending_law.Goals as goal

pub returns : goal.returns
returns c = record {
  front = front_mended;
  whole = whole_stays;
}
