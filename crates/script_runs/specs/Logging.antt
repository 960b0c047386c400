-- The log of a record, as it is written.
use Rattle.std.specs.Prelude.{◌≡◌, ℕ, ◌+◌, ◌≤◌, List, [], ◌++◌, length, Bool, true, false, Option, None, Some}
use Rattle.std.specs.List.{AllByRecursion}
use Rattle.std.specs.Io.KnownBytes.{Appends}
use Rattle.child_events.specs.declared.event.HallEvent.{HallEvent}
use Rattle.child_events.specs.Log.{lines_text, IsOfBytes}
use Rattle.report_texts.specs.Devices.{WasPut, GaveUp}
use Rattle.script_runs.specs.declared.log_writer.LogWriteFault.{LogWriteFault}
use Rattle.script_runs.specs.declared.log_writer.LogWriteFault.TheVariants.{Write, Memory}
use Rattle.script_runs.specs.declared.log_writer.LogWriter.{LogWriter}

-- A text was appended to the known bytes, or a front of it after an error.
abbrev pub PutUpTo : Option LogWriteFault → Option (List ℕ) → Option (List ℕ) → List ℕ → ℕ → ℕ → Type 0
PutUpTo None before now text failures calls = Appends before now text × (failures ≡ 0) × (calls ≤ 1099511627776)
PutUpTo (Some Write) before now text failures calls = WasPut before now text × GaveUp failures calls
PutUpTo (Some Memory) before now text failures calls = WasPut before now text × (failures ≡ 0)

-- The text written for a record, if one is kept.
abbrev pub if_kept : Bool → List ℕ → List ℕ
if_kept true text = text
if_kept false text = []

module _ {L : Type 0} (contents : L → Option (List ℕ)) where
  -- What a writer has appended to these bytes.
  abbrev pub HasPut : Option (List ℕ) → List ℕ → LogWriter L → Type 0
  HasPut before text w = PutUpTo w.fault before (contents w.log.device) text w.log.failures w.log.calls

  -- A writer appends more text.
  abbrev pub PutsOn : List ℕ → LogWriter L → LogWriter L → Type 0
  PutsOn more old new = (before : Option (List ℕ)) (text : List ℕ) → HasPut before text old → HasPut before (text ++ more) new

  -- A writer writes events: it appends their lines, and counts the events unless there was an error.
  pub record Notes (old : LogWriter L) (es : List HallEvent) (new : LogWriter L) : Type 0 where
    pub put : PutsOn (lines_text es) old new
    pub counted : new.fault ≡ None → (old.fault ≡ None) × (new.count ≡ old.count + length es) × AllByRecursion IsOfBytes es
