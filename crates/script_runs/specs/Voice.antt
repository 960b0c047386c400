-- What is kept of scripts' output until it is read.
use Rattle.std.specs.Prelude.{◌≡◌, ◌≤◌, ℕ, ◌+◌, min, List, ◌++◌, length, codes}
use Rattle.script_runs.specs.declared.voice.Speech.{Speech}
use Rattle.report_texts.specs.Report.{labelled}

-- The greatest length of the kept text, in bytes, at which more is kept.
abbrev pub most : ℕ
most = 262144

-- There is room for a text of any length: the kept text is not too long, and no bytes were dropped after it.
abbrev pub HasRoom : Speech → Type 0
HasRoom speech = (speech.lost ≡ 0) × (length speech.text ≤ most)

-- A text is appended to the kept text.
abbrev pub Appended : Speech → List ℕ → Speech → Type 0
Appended old text new = (new.text ≡ old.text ++ text) × (new.lost ≡ old.lost) × (new.line ≡ old.line)

-- The count of dropped bytes, up to 2^64 - 1.
abbrev pub counted : ℕ → ℕ → ℕ
counted lost shown = min (lost + shown) 18446744073709551615

-- `shown` bytes are dropped and counted.
abbrev pub Drops : Speech → ℕ → Speech → Type 0
Drops old shown new = (new.text ≡ old.text) × (new.lost ≡ counted old.lost shown) × (new.line ≡ old.line)

-- The text of `shown` bytes from a script is kept if there is room, and dropped otherwise.
abbrev pub Keeps : Speech → List ℕ → ℕ → Speech → Type 0
Keeps old text shown new = (HasRoom old → Appended old text new) × (¬ (HasRoom old) → Drops old shown new)

-- The line that says how many bytes were dropped.
unfoldable pub notice : ℕ → List ℕ
notice lost = labelled (codes "exprun: ") lost ++ codes " bytes of what scripts showed were not told, since nobody read them\n"
