-- The files of transcripts in a folder.
use Rattle.std.specs.Prelude.{ℕ, List, [], ◌∷◌, ◌++◌, nat_lt, ◌&&◌, if◌then◌else◌, unwrap_or}
use Rattle.std.specs.Fmt.{decimal}
use Rattle.std.specs.Path.{path_file_name}
use Rattle.tcl_words.specs.Bytes as ascii

-- The number of one of `count` scripts, if there are fewer than a hundred. It has as many digits as the last number.
abbrev pub number_text : ℕ → ℕ → List ℕ
number_text count n = if nat_lt 9 count && nat_lt n 10 then ascii.digit_0 ∷ decimal n else decimal n

-- The path in a folder for the transcript of script `n`, which has this name, among `count` scripts.
unfoldable pub transcript_path : List ℕ → ℕ → ℕ → List ℕ → List ℕ
transcript_path folder count n name = folder ++ ascii.slash ∷ [] ++ number_text count n ++ ascii.minus ∷ [] ++ unwrap_or (path_file_name name) []
