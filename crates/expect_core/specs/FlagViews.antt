-- Flags that were read, and the index of the first word after them.
use Rattle.std.specs.Prelude.{◌≡◌, ◌≢◌, ◌≤◌, ℕ, List, length, drop, Result, Ok, Err}
use Rattle.tcl_results.specs.declared.complaint.Complaint.{Complaint}
use Rattle.tcl_results.specs.declared.complaint.Complaint.TheVariants.{Memory}
use Rattle.tcl_results.specs.Said.{Said}
use Rattle.tcl_results.specs.Says.{text_of}
use Rattle.expect_core.specs.declared.flags.Flags.{Flags}
use Rattle.expect_core.specs.Flags.{Flagged}

-- The flags are those that the definition gives. If memory is refused, nothing is claimed.
abbrev pub ReadsFlags : Result (Flags × ℕ) Complaint → List (List ℕ) → Flagged → Type 0
ReadsFlags (Ok (f, at)) words meant = (meant ≡ Ok (f, drop at words)) × (at ≤ length words)
ReadsFlags (Err c) words meant = c ≢ Memory → meant ≡ Err (text_of c)

-- The names are those behind this index. If memory is refused, nothing is claimed.
abbrev pub NamesBehind : Result ℕ Complaint → List (List ℕ) → Said (List (List ℕ)) → Type 0
NamesBehind (Ok at) words meant = (meant ≡ Ok (drop at words)) × (at ≤ length words)
NamesBehind (Err c) words meant = c ≢ Memory → meant ≡ Err (text_of c)
