-- Where transcripts are kept.
use Rattle.std.specs.Prelude.{◌≡◌, ℕ, List, ◌++◌, map, Option, Some, None}
use Rattle.session.specs.declared.report.Report.{Report}

-- These transcripts are kept after those already known to be kept, and no others.
abbrev pub Keeps : Option (List (List ℕ)) → Option (List (List ℕ)) → List (List ℕ) → Type 0
Keeps None new ts = Unit {0}
Keeps (Some kept) None ts = ⊥
Keeps (Some kept) (Some kept') ts = kept' ≡ kept ++ ts

-- The transcripts of reports, in order of scripts.
abbrev pub transcripts_of : List Report → List (List ℕ)
transcripts_of rs = map (λ r. r.transcript) rs
