-- What is told of a run over a log, where memory that is refused for one report's text costs that one alone.
use Rattle.std.proofs.Common.{◌≡◌, ℕ, suc, ◌+◌, List, [], ◌∷◌, length, Bool, Option, Some, None, Ok, Err, refl, ap, subst}
use Rattle.std.specs.Prelude.{IfSome}
use Rattle.child_events.specs.declared.event.HallEvent.{HallEvent}
use Rattle.session.specs.declared.report.Report.{Report}
use Rattle.dialogue_sched.specs.declared.script.Script.{Script}
use Rattle.dialogue_sched.specs.Run.{AllMean}
use Rattle.report_texts.specs.declared.devices.Unwritten.{Unwritten}
use Rattle.script_runs.specs.declared.fault.ReplayFault.TheVariants.{Write}
use Rattle.script_runs.specs.Replay.{RunOver, Replays}
use Rattle.script_runs.specs.Shelf.{Keeps, transcripts_of}
use Rattle.report_texts.specs.Masked.{AllMasked}
use Rattle.report_texts.specs.Written.{AllStandFor, WritesAll}
use Rattle.report_texts.specs.declared.form.Form.{Form}

pub as_many : (n : ℕ) (es : List HallEvent) (ss : List Script) (rs : List Report) → AllMean n es ss rs → length rs ≡ length ss
as_many n es [] [] mean = refl
as_many n es [] (r ∷ rs) mean = absurd mean
as_many n es (s ∷ ss) [] mean = absurd mean
as_many n es (s ∷ ss) (r ∷ rs) mean = ap suc (as_many (n + 1) es ss rs mean.1)

-- transcripts that were kept of a slice, which are those of its reports
pub keeps_as : (slice rs : List Report) (kept kept' : Option (List (List ℕ))) → slice ≡ rs → Keeps kept kept' (transcripts_of slice) → Keeps kept kept' (transcripts_of rs)
keeps_as slice rs kept kept' is keeps = subst (λ (z : List Report). Keeps kept kept' (transcripts_of z)) is keeps

module _ (scripts : List Script) (form : Form) (known : Option (List ℕ)) (slice shown rs : List Report) (kept kept' : Option (List (List ℕ))) (old new : Option (List ℕ)) (failures calls : ℕ) (is : slice ≡ shown) (masks : AllMasked form.secrets rs shown) (keeps : Keeps kept kept' (transcripts_of shown)) where
  stand_as : (told : List Report) → AllStandFor slice told → AllStandFor shown told
  stand_as told stand = subst (λ (z : List Report). AllStandFor z told) is stand

  -- what is written where the reports of a log's events are
  pub replayed : (well : Bool) → IfSome known (λ bytes. RunOver scripts bytes (Ok rs)) → WritesAll form slice old new failures calls (Ok well) → IfSome known (λ bytes. Replays scripts form bytes kept kept' old new (Ok well))
  replayed well over w = of_known known over
    where
      of_known : (known : Option (List ℕ)) → IfSome known (λ bytes. RunOver scripts bytes (Ok rs)) → IfSome known (λ bytes. Replays scripts form bytes kept kept' old new (Ok well))
      of_known None over = tt
      of_known (Some bytes) over = record {
        reports = rs;
        printed = w.told;
        run = over;
        shown = shown;
        masks = masks;
        keeps = keeps;
        stand = stand_as w.told w.stand;
        done = w.done;
        written = w.writes.0;
      }

  pub part_replayed : (fault : Unwritten) → IfSome known (λ bytes. RunOver scripts bytes (Ok rs)) → WritesAll form slice old new failures calls (Err fault) → IfSome known (λ bytes. Replays scripts form bytes kept kept' old new (Err Write))
  part_replayed fault over w = of_known known over
    where
      of_known : (known : Option (List ℕ)) → IfSome known (λ bytes. RunOver scripts bytes (Ok rs)) → IfSome known (λ bytes. Replays scripts form bytes kept kept' old new (Err Write))
      of_known None over = tt
      of_known (Some bytes) over = record {
        reports = rs;
        printed = w.told;
        run = over;
        shown = shown;
        masks = masks;
        keeps = keeps;
        stand = stand_as w.told w.stand;
        written = w.writes.0;
      }
