-- The bytes of a short text.
use Rattle.std.specs.Prelude.{ℕ, List, take, slice_index}
use Rattle.tcl_values.specs.declared.few.Few.{Few}

abbrev pub few_bytes : Few → List ℕ
few_bytes f = take (slice_index f.bytes 15) f.bytes
