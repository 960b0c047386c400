-- Devices that failed or were given up.
use Rattle.std.specs.Prelude.{◌≡◌, ℕ, ◌<◌, ◌≤◌, ◌⊎◌, List, take, Option, Result, Ok, Err}
use Rattle.std.specs.Io.KnownBytes.{Appends}
use Rattle.report_texts.specs.declared.devices.Unwritten.{Unwritten}

-- A call failed, or the limit on calls was reached.
abbrev pub GaveUp : ℕ → ℕ → Type 0
GaveUp failures calls = (0 < failures) ⊎ (calls ≡ 1099511627776)

-- The first n bytes of the text were appended to the known bytes, and no others.
abbrev pub WasPut : Option (List ℕ) → Option (List ℕ) → List ℕ → Type 0
WasPut old new text = (n : ℕ) × Appends old new (take n text)

-- The result of writing a text. Either all of it was appended to the known bytes, no call failed, and more may be
-- written. Or its first bytes were appended, and the device is given up.
abbrev pub Writes : {X : Type 0} → List ℕ → Option (List ℕ) → Option (List ℕ) → ℕ → ℕ → Result X Unwritten → Type 0
Writes text old new failures calls (Ok x) = Appends old new text × (failures ≡ 0) × (calls ≤ 1099511627776)
Writes text old new failures calls (Err fault) = WasPut old new text × GaveUp failures calls
