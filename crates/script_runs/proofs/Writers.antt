-- Texts that a writer puts one behind another.
use Rattle.std.proofs.Common.{◌≡◌, ◌≢◌, ℕ, zero, suc, ◌+◌, List, [], ◌∷◌, ◌++◌, length, Option, Some, None, Bool, true, false, Result, Ok, Err, refl, sym, ap, subst, ◌∙◌, append_assoc, append-nil, arith}
use Rattle.std.specs.Prelude.{is_some, is_err}
use Rattle.std.specs.List.{AllByRecursion}
use Rattle.std.proofs.lemmas.Grind.{flat_map-append}
use Rattle.std.specs.Io.KnownBytes.{Appends}
use Rattle.std.proofs.Math.Seq.{take-append_seam}
use Rattle.child_events.specs.declared.child_numbers.ChildNumbers.TheVariants.{To16}
use Rattle.child_events.specs.declared.event.HallEvent.{HallEvent}
use Rattle.child_events.specs.Log.{line_of, lines_text, heading, total_line, counted_text, IsOfBytes}
use Rattle.std.proofs.KnownBytes.{Appends-nil}
use Rattle.report_texts.specs.declared.devices.Unwritten.{Unwritten}
use Rattle.report_texts.specs.Devices.{WasPut, GaveUp, Writes}
use Rattle.report_texts.proofs.Writing.{put_front, writes_then}
use Rattle.run_records.specs.Merged.{Handed, nothing as none_handed, more as handed_on}
use Rattle.script_runs.specs.declared.log_writer.LogWriteFault.{LogWriteFault}
use Rattle.script_runs.specs.declared.log_writer.LogWriteFault.TheVariants.{Write, Memory}
use Rattle.script_runs.specs.declared.log_writer.LogWriter.{LogWriter}
use Rattle.script_runs.specs.Logging.{PutUpTo, HasPut, PutsOn, Notes}

-- after a fault, a front of what was to be put is one of that with more behind it
pub stays_put : (fault : LogWriteFault) (before now : Option (List ℕ)) (text more : List ℕ) (failures calls : ℕ) → PutUpTo (Some fault) before now text failures calls → PutUpTo (Some fault) before now (text ++ more) failures calls
stays_put Write before now text more failures calls (put, gave_up) = (put_front before now text more put, gave_up)
stays_put Memory before now text more failures calls (put, unfailed) = (put_front before now text more put, unfailed)

all_both : {X : Type 0} (P : X → Type 0) (xs ys : List X) → AllByRecursion P xs → AllByRecursion P ys → AllByRecursion P (xs ++ ys)
all_both P [] ys a b = b
all_both P (x ∷ xs) ys a b = (a.0, all_both P xs ys a.1 b)

long_both : (xs ys : List HallEvent) → length (xs ++ ys) ≡ length xs + length ys
long_both [] ys = omega arith
long_both (x ∷ xs) ys = let e = long_both xs ys in omega (arith, e)

module _ {L : Type 0} (contents : L → Option (List ℕ)) where
  pub puts_both : (a b c : LogWriter L) (xs ys : List ℕ) → PutsOn contents xs a b → PutsOn contents ys b c → PutsOn contents (xs ++ ys) a c
  puts_both a b c xs ys f g before text has = subst (λ (t : List ℕ). HasPut contents before t c) (append_assoc text xs ys) (g before (text ++ xs) (f before text has))

  pub puts_none : (w : LogWriter L) → PutsOn contents [] w w
  puts_none w before text has = subst (λ (t : List ℕ). HasPut contents before t w) (sym (append-nil text)) has

  -- what was handed call by call is written
  pub handed_noted : (a b : LogWriter L) (es : List HallEvent) → Handed (Notes contents) a es b → Notes contents a es b
  handed_noted a b es (none_handed r) = record { put = puts_none r; counted = λ none. (none, (let e : r.count ≡ r.count + 0 = omega arith in e), tt) }
  handed_noted a b es (handed_on u x v fs gs first last) =
      let before = handed_noted u x fs first in
      record {
        put = subst (λ (t : List ℕ). PutsOn contents t u v) (sym (flat_map-append (λ (e : HallEvent). line_of e ++ 10 ∷ []) fs gs)) (puts_both u x v (lines_text fs) (lines_text gs) before.put last.put);
        counted = λ none.
            let late = last.counted none in
            let early = before.counted late.0 in
            (early.0, (let count : v.count ≡ u.count + length (fs ++ gs) = (let e = late.1 in let f = early.1 in let n = long_both fs gs in omega (arith, e, f, n)) in count), all_both IsOfBytes fs gs early.2 late.2);
      }

  -- what was put is a front of it with more behind it
  pub front_put : (before : Option (List ℕ)) (text more : List ℕ) (w : LogWriter L) → HasPut contents before text w → WasPut before (contents w.log.device) (text ++ more)
  front_put before text more w has = by_fault w.fault has
    where
      by_fault : (fault : Option LogWriteFault) → PutUpTo fault before (contents w.log.device) text w.log.failures w.log.calls → WasPut before (contents w.log.device) (text ++ more)
      by_fault None put = (length text, subst (λ (t : List ℕ). Appends before (contents w.log.device) t) (sym (take-append_seam text more)) put.0)
      by_fault (Some Write) (put, gave_up) = put_front before (contents w.log.device) text more put
      by_fault (Some Memory) (put, unfailed) = put_front before (contents w.log.device) text more put

  -- nothing was put
  pub none_put : (before : Option (List ℕ)) (w : LogWriter L) → HasPut contents before [] w → Appends before (contents w.log.device) []
  none_put before w has = by_fault w.fault has
    where
      of_front : WasPut before (contents w.log.device) [] → Appends before (contents w.log.device) []
      of_front (zero, put) = put
      of_front (suc n, put) = put

      by_fault : (fault : Option LogWriteFault) → PutUpTo fault before (contents w.log.device) [] w.log.failures w.log.calls → Appends before (contents w.log.device) []
      by_fault None put = put.0
      by_fault (Some Write) (put, gave_up) = of_front put
      by_fault (Some Memory) (put, unfailed) = of_front put

  -- all of a record was put, or a front of it
  pub all_put : (before : Option (List ℕ)) (a b c : LogWriter L) (es : List HallEvent) → HasPut contents before (heading To16) a → a.count ≡ 0 → Notes contents a es b → PutsOn contents (total_line b.count) b c → (b.fault ≢ None → c ≡ b) → HasPut contents before (counted_text To16 es) c
  all_put before a b c es first none notes total still = by_fault b.fault refl
    where
      lines : HasPut contents before (heading To16 ++ lines_text es) b
      lines = notes.put before (heading To16) first

      text : (heading To16 ++ lines_text es) ++ total_line (length es) ≡ counted_text To16 es
      text = append_assoc (heading To16) (lines_text es) (total_line (length es))

      by_fault : (fault : Option LogWriteFault) → b.fault ≡ fault → HasPut contents before (counted_text To16 es) c
      by_fault None well =
          let n = (notes.counted well).1 in
          let count : b.count ≡ length es = omega (arith, n, none) in
          subst (λ (t : List ℕ). HasPut contents before t c) (ap (λ (k : ℕ). (heading To16 ++ lines_text es) ++ total_line k) count ∙ text) (total before (heading To16 ++ lines_text es) lines)
      by_fault (Some fault) failed =
          let same : c ≡ b = still (λ well. absurd (let h : ◌≡◌ {A = Option LogWriteFault} (Some fault) None = sym failed ∙ well in cc)) in
          subst (λ (w : LogWriter L). HasPut contents before (counted_text To16 es) w) (sym same)
          (subst (λ (f : Option LogWriteFault). PutUpTo f before (contents b.log.device) (counted_text To16 es) b.log.failures b.log.calls) (sym failed)
          (subst (λ (t : List ℕ). PutUpTo (Some fault) before (contents b.log.device) t b.log.failures b.log.calls) text
          (stays_put fault before (contents b.log.device) (heading To16 ++ lines_text es) (total_line (length es)) b.log.failures b.log.calls
          (subst (λ (f : Option LogWriteFault). PutUpTo f before (contents b.log.device) (heading To16 ++ lines_text es) b.log.failures b.log.calls) failed lines))))

  -- a writer to which nothing was handed
  pub first_put : (w : LogWriter L) → w.fault ≡ None → w.log.failures ≡ 0 → w.log.calls ≡ 0 → HasPut contents (contents w.log.device) [] w
  first_put w well unfailed uncalled =
      subst (λ (f : Option LogWriteFault). PutUpTo f (contents w.log.device) (contents w.log.device) [] w.log.failures w.log.calls) (sym well)
      (Appends-nil (contents w.log.device), unfailed, omega (arith, uncalled))

  -- where a fault came before, nothing more is put
  pub still_put : (before : Option (List ℕ)) (text more : List ℕ) (w : LogWriter L) → is_some w.fault ≡ true → HasPut contents before text w → HasPut contents before (text ++ more) w
  still_put before text more w some has = by_fault w.fault some has
    where
      by_fault : (fault : Option LogWriteFault) → is_some fault ≡ true → PutUpTo fault before (contents w.log.device) text w.log.failures w.log.calls → PutUpTo fault before (contents w.log.device) (text ++ more) w.log.failures w.log.calls
      by_fault None some put = absurd (cc)
      by_fault (Some fault) some put = stays_put fault before (contents w.log.device) text more w.log.failures w.log.calls put

  -- without a fault before, what was put was put whole
  whole_put : (before : Option (List ℕ)) (text : List ℕ) (w : LogWriter L) → is_some w.fault ≡ false → HasPut contents before text w → Appends before (contents w.log.device) text × (w.log.failures ≡ 0)
  whole_put before text w none has = by_fault w.fault none has
    where
      by_fault : (fault : Option LogWriteFault) → is_some fault ≡ false → PutUpTo fault before (contents w.log.device) text w.log.failures w.log.calls → Appends before (contents w.log.device) text × (w.log.failures ≡ 0)
      by_fault None none (put, unfailed, few) = (put, unfailed)
      by_fault (Some fault) none put = absurd (cc)

  -- memory for more was refused
  pub unmade_put : (before : Option (List ℕ)) (text more : List ℕ) (w : LogWriter L) → is_some w.fault ≡ false → HasPut contents before text w → WasPut before (contents w.log.device) (text ++ more) × (w.log.failures ≡ 0)
  unmade_put before text more w none has = (front_put before text more w has, (whole_put before text w none has).1)

  -- more wasn't written whole
  pub failed_put : (before after : Option (List ℕ)) (text more slice : List ℕ) (w : LogWriter L) (failures calls : ℕ) (r : Result (Unit {0}) Unwritten) → is_some w.fault ≡ false → slice ≡ more → is_err r ≡ true →
      Writes slice (contents w.log.device) after failures calls r → HasPut contents before text w → WasPut before after (text ++ more) × GaveUp failures calls
  failed_put before after text more slice w failures calls (Ok done) none same bad writes has = absurd (cc)
  failed_put before after text more slice w failures calls (Err fault) none same bad writes has =
      writes_then (Unit {0}) before (contents w.log.device) after text more failures calls (Err fault) (whole_put before text w none has).0 (subst (λ (t : List ℕ). Writes {X = Unit {0}} t (contents w.log.device) after failures calls (Err fault)) same writes)
