use Rattle.child_events.proofs.Whole.{log_one_text, log_one_written, log_one_list, log_sound, log_complete, counted_meant, counted_said, in_version_2, in_version_3}
use Rattle.child_events.proofs.Fronts.{cut_off}
use Rattle.child_events.proofs.reading.log_laws.Goals as goal

pub returns : goal.returns
returns c = record {
  one_text = log_one_text;
  one_written = log_one_written;
  one_list = log_one_list;
  sound = log_sound;
  complete = log_complete;
  written_reads = counted_meant;
  read_writes = counted_said;
  in_version_2 = in_version_2;
  in_version_3 = in_version_3;
  cut_off = cut_off;
}
