-- The whole text of reports: what stands before their parts, the parts, and what stands behind them.
use Rattle.std.proofs.Common.{ℕ, List, ◌++◌, length, Bool, Option, Result, Ok, Err, subst}
use Rattle.std.specs.Io.KnownBytes.{Appends}
use Rattle.tcl_host.specs.declared.ending.Ending.{Ending}
use Rattle.session.specs.declared.report.Report.{Report}
use Rattle.dialogue_sched.proofs.Pairing.{Paired-length}
use Rattle.report_texts.specs.declared.devices.Unwritten.{Unwritten}
use Rattle.report_texts.specs.declared.form.Form.{Form}
use Rattle.report_texts.specs.Devices.{Writes}
use Rattle.report_texts.specs.Form.{parts_bytes, opening, closing, endings_of, told_bytes}
use Rattle.report_texts.specs.Written.{StandsFor, AllStandFor, WritesParts, WritesAll}
use Rattle.report_texts.proofs.Writing.{writes_then, gives_up}
use Rattle.report_texts.proofs.Series.{stand_same}

module _ (form : Form) (rs : List Report) (a b : Option (List ℕ)) where
  abbrev pub front : ℕ → List ℕ
  front n = opening form.format n

  abbrev pub back : List Ending → List ℕ
  back es = closing form.format es

  -- what stands before was not written whole
  pub not_opened : (failures calls : ℕ) (fault other : Unwritten) → Writes {X = Unit {0}} (front (length rs)) a b failures calls (Err fault) → WritesAll form rs a b failures calls (Err other)
  not_opened failures calls fault other w = record {
    told = rs;
    stand = stand_same rs;
    writes = gives_up a b (front (length rs)) (parts_bytes form 1 rs ++ back (endings_of rs)) failures calls w;
    done = tt;
  }

  module _ (c : Option (List ℕ)) (put : Appends a b (front (length rs))) where
    put_for : (told : List Report) → AllStandFor rs told → Appends a b (front (length told))
    put_for told stand = subst (λ (n : ℕ). Appends a b (front n)) (Paired-length StandsFor rs told stand) put

    -- the parts were not
    pub not_told : (failures calls : ℕ) (es : List Ending) (fault other : Unwritten) → WritesParts form rs b c failures calls es (Err fault) → WritesAll form rs a c failures calls (Err other)
    not_told failures calls es fault other w = record {
      told = w.told;
      stand = w.stand;
      writes = writes_then Bool a b c (front (length w.told)) (parts_bytes form 1 w.told ++ back (endings_of w.told)) failures calls (Err other)
          (put_for w.told w.stand) (gives_up b c (parts_bytes form 1 w.told) (back (endings_of w.told)) failures calls w.writes);
      done = tt;
    }

    module _ (d : Option (List ℕ)) (failures0 calls0 : ℕ) (es : List Ending) (well : Bool) (w : WritesParts form rs b c failures0 calls0 es (Ok well)) where
      last : {X : Type 0} (failures calls : ℕ) (r : Result X Unwritten) → Writes (back es) c d failures calls r → Writes (told_bytes form w.told) a d failures calls r
      last {X} failures calls r behind =
          writes_then X a b d (front (length w.told)) (parts_bytes form 1 w.told ++ back (endings_of w.told)) failures calls r (put_for w.told w.stand)
          (writes_then X b c d (parts_bytes form 1 w.told) (back (endings_of w.told)) failures calls r w.writes.0
          (subst (λ (z : List Ending). Writes {X = X} (back z) c d failures calls r) w.done.1 behind))

      -- what stands behind was not
      pub not_closed : (failures calls : ℕ) (fault other : Unwritten) → Writes {X = Unit {0}} (back es) c d failures calls (Err fault) → WritesAll form rs a d failures calls (Err other)
      not_closed failures calls fault other behind = record { told = w.told; stand = w.stand; writes = last {X = Unit {0}} failures calls (Err fault) behind; done = tt }

      -- all was
      pub all_told : (failures calls : ℕ) → Writes {X = Unit {0}} (back es) c d failures calls (Ok tt) → WritesAll form rs a d failures calls (Ok well)
      all_told failures calls behind = record { told = w.told; stand = w.stand; writes = last {X = Unit {0}} failures calls (Ok tt) behind; done = w.done.0 }
