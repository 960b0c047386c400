-- What came of all scripts, from what came of those of each worker.
use Rattle.std.proofs.Common.{◌≡◌, ℕ, ◌<◌, List, [], ◌∷◌, map, length, Bool, true, false, Option, None, Result, Ok, Err, refl, sym, ap, subst, ◌∙◌, arith}
use Rattle.std.specs.Prelude.{IsTrue, IfOk}
use mathlib.Core.List.{map-map}
use Rattle.std.proofs.lemmas.List.Folds.{flat_map-map}
use Rattle.child_events.specs.declared.event.Answer.{Answer}
use Rattle.child_events.specs.declared.event.HallEvent.{HallEvent}
use Rattle.expect_core.specs.declared.request.Request.{Request}
use Rattle.session.specs.declared.report.Report.{Report}
use Rattle.dialogue_sched.specs.declared.script.Script.{Script}
use Rattle.child_desk.specs.Book.{ring_log}
use Rattle.child_desk.specs.Line.{Keeping}
use Rattle.feed_rings.specs.Ends.{put_items}
use Rattle.feed_rings.specs.declared.feed.FeedIn.{FeedIn}
use Rattle.child_hands.specs.declared.log_item.LogItem.{LogItem}
use Rattle.dialogue_sched.specs.Hall.{opening_fault}
use Rattle.run_records.specs.Joined.{AllFits, AllFitFrom, IsJoined}
use Rattle.run_records.specs.Merged.{AllSoundFrom, Handed, HasOne, IsMerging, WasHanded}
use Rattle.run_records.specs.declared.merger.Merger.{Merger}
use Rattle.run_records.proofs.Merging.{merged_from, all_ascend, all_at, joined_sees, joined_fit}
use Rattle.child_serve.specs.declared.served.WorkerResult.{WorkerResult}
use Rattle.child_serve.specs.declared.served.Served.{Served}
use Rattle.child_serve.specs.declared.serving.Joined.{Joined}
use Rattle.child_serve.specs.declared.serving.ServeFault.{ServeFault}
use Rattle.child_serve.specs.declared.serving.ServeFault.TheVariants as serve
use Rattle.child_serve.specs.declared.worker.Team.{Team}
use Rattle.child_serve.specs.declared.worker.WorkFault.{WorkFault}
use Rattle.child_serve.specs.declared.worker.WorkFault.TheVariants as work
use Rattle.child_serve.specs.Teams.{AreDealt, HaveServed}
use Rattle.child_serve.specs.Whole.{IsServing, Gathers, fault_of}
use Rattle.child_serve.specs.Turns.{in_turn}
use Rattle.child_serve.specs.Served.{AreParts, IsAssembled, IsWhole, is_any, records_of}
use Rattle.child_serve.proofs.Wholes.{map_length, all_served}
use Rattle.child_serve.proofs.Accepting.{whole_taken}
use Rattle.child_serve.proofs.Teaming.{work_count, work_fits, work_sound, are_parts}

-- records can be joined
joins : (records : List (List HallEvent)) → AllFits records → (es : List HallEvent) × IsJoined records es
joins records fits = (merged_from (length records) 0 records, record { ascends = all_ascend (length records) 0 records fits; ties = λ m. all_at m (length records) 0 records fits })

-- the record of a run: the one that a recorder was handed, where it was handed one, or else any
module _ {R : Type 0} (notes : R → List HallEvent → R → Type 0) (first last : R) where
  pub the_record : (keeps : Bool) (parts : List WorkerResult) (logs : List (FeedIn LogItem)) → logs ≡ map (λ (p : WorkerResult). p.log) parts → AllFits (records_of parts) → AllSoundFrom put_items (length logs) 0 logs →
      (IsTrue keeps → HasOne notes first logs last) → (es : List HallEvent) × IsJoined (records_of parts) es × (IsTrue keeps → Handed notes first es last)
  the_record true parts logs are fits sound has =
      let one = has refl in
      (one.es, subst (λ (rs : List (List HallEvent)). IsJoined rs one.es) (ap (map ring_log) are ∙ map-map ring_log (λ (p : WorkerResult). p.log) parts) (one.joined sound), λ t. one.handed)
  the_record false parts logs are fits sound has = let j = joins (records_of parts) fits in (j.0, j.1, λ t. absurd (cc))

module _ (told : ℕ → ℕ → Request → Answer → Type 0) (gives : ℕ → ℕ → Option (List ℕ) → Type 0) where
  pub is_whole : (keepers : List Keeping) (scripts : List Script) (parts : List WorkerResult) (es : List HallEvent) (s : Served) → 0 < length parts → AllFits (records_of parts) → IsJoined (records_of parts) es → AreParts told gives keepers scripts parts →
      IsAssembled (length scripts) (map (λ (p : WorkerResult). p.served) parts) s → IsWhole told gives (length parts) keepers scripts es s
  is_whole keepers scripts parts es s some fits joined are a = record {
    served = all_served told gives keepers scripts parts es s some are joined.ascends (joined_sees (records_of parts) es fits joined)
        (a.reports ∙ ap (in_turn (length scripts)) (map-map (λ (x : Served). x.reports) (λ (p : WorkerResult). p.served) parts))
        (a.unsettled ∙ flat_map-map (λ (x : Served). x.unsettled.items) (λ (p : WorkerResult). p.served) parts)
        (a.stopped ∙ ap is_any (map-map (λ (x : Served). x.stopped) (λ (p : WorkerResult). p.served) parts));
    records = records_of parts;
    each = map_length (λ (p : WorkerResult). ring_log p.log) parts;
    joined = joined;
    fits = joined_fit (records_of parts) es fits joined;
    taken = whole_taken told gives keepers scripts parts es fits joined are;
  }

  -- workers that couldn't all be started
  pub none_started : (workers : ℕ) (keepers : List Keeping) (scripts : List Script) {R : Type 0} (notes : R → List HallEvent → R → Type 0) (first last : R) (keeps : Bool) (fault : WorkFault) (e : ServeFault) → e ≡ fault_of fault → WasHanded notes first last →
      IsServing told gives workers keepers scripts notes first keeps (Err e) last
  none_started workers keepers scripts notes first last keeps fault e is handed = subst (λ (f : ServeFault). IsServing told gives workers keepers scripts notes first keeps (Err f) last) (sym is) (of_fault fault)
    where
      of_fault : (fault : WorkFault) → IsServing told gives workers keepers scripts notes first keeps (Err (fault_of fault)) last
      of_fault work.Memory = handed
      of_fault work.NoThread = handed

-- workers that were joined
module _ (told : ℕ → ℕ → Request → Answer → Type 0) (gives : ℕ → ℕ → Option (List ℕ) → Type 0) {K C R : Type 0} (named made : K → ℕ) (notes : R → List HallEvent → R → Type 0) (first last : R) (keeps : Bool) (workers : ℕ) (teams : List (Team K C)) (keepers : List Keeping) (scripts : List Script) (count : ℕ)
    (opens : opening_fault scripts ≡ None) (as_many : count ≡ length scripts) (each : length teams ≡ workers) (some : 0 < workers) (dealt : AreDealt named made keepers scripts teams) where
  served_by : (j : Joined) (s : Served) → HaveServed told gives named made (length teams) teams j.parts.items j.logs.items → (IsTrue keeps → HasOne notes first j.logs.items last) → IsAssembled count j.parts.items s → IsServing told gives workers keepers scripts notes first keeps (Ok s) last
  served_by j s have one assembled = (record_of.0, record { opens = opens; whole = whole }, record_of.2)
    where
      parts : List WorkerResult
      parts = have.parts

      counted : length parts ≡ length teams
      counted = work_count told gives named made (length teams) 0 parts teams have.work

      fits : AllFits (records_of parts)
      fits = subst (λ (n : ℕ). AllFitFrom n 0 (records_of parts)) (sym (map_length (λ (p : WorkerResult). ring_log p.log) parts ∙ counted)) (work_fits told gives named made (length teams) 0 parts teams have.work)

      sound : AllSoundFrom put_items (length j.logs.items) 0 j.logs.items
      sound = subst (λ (ls : List (FeedIn LogItem)). AllSoundFrom put_items (length ls) 0 ls) (sym have.rings)
          (subst (λ (n : ℕ). AllSoundFrom put_items n 0 (map (λ (p : WorkerResult). p.log) parts)) (sym (map_length (λ (p : WorkerResult). p.log) parts ∙ counted)) (work_sound told gives named made (length teams) 0 parts teams have.work))

      record_of : (es : List HallEvent) × IsJoined (records_of parts) es × (IsTrue keeps → Handed notes first es last)
      record_of = the_record notes first last keeps parts j.logs.items have.rings fits sound one

      within : 0 < length parts
      within = omega (arith, counted, each, some)

      whole : IsWhole told gives workers keepers scripts record_of.0 s
      whole = subst (λ (n : ℕ). IsWhole told gives n keepers scripts record_of.0 s) (counted ∙ each)
          (is_whole told gives keepers scripts parts record_of.0 s within fits record_of.1 (are_parts told gives named made keepers scripts parts teams have.work dealt)
          (subst (λ (n : ℕ). IsAssembled n (map (λ (p : WorkerResult). p.served) parts) s) as_many (subst (λ (ss : List Served). IsAssembled count ss s) have.are assembled)))

  pub all_gathered : (joined : Result Joined WorkFault) (m : Merger R) (r : Result Served ServeFault) → IfOk joined (λ j. HaveServed told gives named made (length teams) teams j.parts.items j.logs.items) → m.keeps ≡ keeps → IsMerging notes first m → WasHanded notes first last →
      Gathers notes count joined m r last → IsServing told gives workers keepers scripts notes first keeps r last
  all_gathered (Ok j) m (Ok s) have keep merging handed (assembled, one) = served_by j s have (λ t. one first (keep ∙ t) merging) assembled
  all_gathered (Err f) m (Ok s) have keep merging handed gathers = absurd gathers
  all_gathered (Ok j) m (Err (serve.New fault)) have keep merging handed gathers = absurd gathers
  all_gathered (Err f) m (Err (serve.New fault)) have keep merging handed gathers = absurd gathers
  all_gathered joined m (Err serve.Memory) have keep merging handed gathers = handed
  all_gathered joined m (Err serve.NoThread) have keep merging handed gathers = handed
