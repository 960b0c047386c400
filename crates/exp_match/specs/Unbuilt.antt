-- Patterns of the grammar that `regex` doesn't compile, for a reason other than memory.
use Rattle.std.specs.Prelude.{◌≡◌, ◌≢◌, ◌⊎◌, ℕ, Bool, true, false, List, IsSomeAnd, chars}
use Rattle.std.specs.List.{slice_get}
use Rattle.regex.specs.Failures.{IsPattern}
use Rattle.regex.specs.declared.error.Error.{Error}
use Rattle.regex.specs.declared.error.Error.TheVariants as error
use Rattle.regex_syntax.specs.Verdict.{Refuses}
use Rattle.regex_syntax.specs.declared.error.ErrorKind.{ErrorKind}
use Rattle.regex_syntax.specs.declared.error.ErrorKind.TheVariants.{OutOfMemory}
use Rattle.exp_match.specs.Scan.{is_pattern}
use Rattle.exp_match.specs.Translation.{translated}
use Rattle.exp_match.specs.Written.{Written, config_of}
use Rattle.exp_match.specs.declared.faults.PatternFault.{PatternFault}
use Rattle.exp_match.specs.declared.faults.PatternFault.TheVariants as fault
use Rattle.exp_match.specs.declared.faults.RegularFault.{RegularFault}
use Rattle.exp_match.specs.declared.faults.RegularFault.TheVariants as regular

-- The bytes are the text that `regex` gets for a pattern.
abbrev pub IsGivenFor : List ℕ → List ℕ → Type 0
IsGivenFor text given = chars given ≡ translated (chars text)

-- The pattern's program would be too big, or `regex` doesn't accept the text that it gets.
abbrev pub IsUnbuilt : Written → Type 0
IsUnbuilt w =
    (is_pattern w.source ≡ true)
    × (given : List ℕ) × IsGivenFor w.source given
    × (IsPattern (config_of w.nocase w.lines) given ⊎ ((kind : ErrorKind) × (kind ≢ OutOfMemory) × Refuses (config_of w.nocase w.lines) given kind))

-- The meaning of a compile error. `regex` is proved not to return `Internal`.
abbrev pub refusal_of : Error → RegularFault
refusal_of (error.Syntax e) = regular.Refused
refusal_of error.CompiledTooBig = regular.Refused
refusal_of error.Internal = regular.Memory
refusal_of error.OutOfMemory = regular.Memory

-- What an error says of the pattern that a text was to be.
abbrev pub IsOfRegular : Written → RegularFault → Type 0
IsOfRegular w regular.NoPattern = is_pattern w.source ≡ false
IsOfRegular w regular.Refused = IsUnbuilt w
IsOfRegular w regular.Memory = Unit {0}

-- `regex` doesn't compile the pattern of an `expect` with this text, with or without case.
abbrev pub IsUnbuiltWord : List ℕ → Type 0
IsUnbuiltWord word = (nocase : Bool) × IsUnbuilt (record { source = word; nocase = nocase; lines = false })

-- What an error says of one argument.
abbrev pub IsOfWord : List ℕ → PatternFault → Type 0
IsOfWord word (fault.BadFlag at) = Unit {0}
IsOfWord word (fault.BadRegex at) = Unit {0}
IsOfWord word fault.Refused = IsUnbuiltWord word
IsOfWord word fault.Memory = Unit {0}

-- What an error says of the arguments. If compilation was refused, one of the arguments is the reason.
abbrev pub IsOfOne : List (List ℕ) → PatternFault → Type 0
IsOfOne args (fault.BadFlag at) = Unit {0}
IsOfOne args (fault.BadRegex at) = Unit {0}
IsOfOne args fault.Refused = (at : ℕ) × IsSomeAnd (slice_get args at) IsUnbuiltWord
IsOfOne args fault.Memory = Unit {0}
