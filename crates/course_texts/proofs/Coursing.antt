-- How a course is told, event by event, and courses script by script.
use Rattle.std.proofs.Common.{◌≡◌, ℕ, suc, ◌+◌, ◌-◌, ◌<◌, Bool, true, false, List, [], ◌∷◌, ◌++◌, length, take, drop, ◌==◌, Option, Some, None, Result, Ok, Err, slice_index_or, refl, sym, ap, subst, ◌∙◌, arith, append_assoc, append-nil}
use Rattle.std.specs.Prelude.{if◌then◌else◌, IfSome, IsTrue}
use Rattle.std.specs.List.{slice_get}
use Rattle.std.specs.Io.KnownBytes.{Appends}
use Rattle.child_events.specs.declared.event.Event.{Event}
use Rattle.child_events.specs.declared.event.HallEvent.{HallEvent}
use Rattle.child_events.specs.Log.{LogText}
use Rattle.child_events.specs.World.{own_of}
use Rattle.tcl_host.specs.declared.ending.Ending.{Ending}
use Rattle.expect_core.specs.declared.request.Request.{Request}
use Rattle.session.specs.declared.report.Report.{Report}
use Rattle.session.specs.Left.{Kept, left, Fed, HasAsked, HasBegun}
use Rattle.session.specs.Watching.{Sights, met_from, met_over}
use Rattle.dialogue_sched.specs.declared.script.Script.{Script}
use Rattle.dialogue_sched.specs.Hall.{Begins}
use Rattle.course_texts.specs.declared.explaining.ExplainFault.{ExplainFault}
use Rattle.course_texts.specs.declared.explaining.ExplainFault.TheVariants.{Read, Log, TooManyScripts, SourceTooLong, Write, Memory}
use Rattle.report_texts.specs.Devices.{WasPut}
use Rattle.course_texts.specs.Explain.{Told, Explained, no_script, others, own, silent, told, StepOf, StepTold, OwnTold, TellsBehind, is_quiet, line_behind, step_text, heading, Starts, is_told, Course, Courses, Explains, Tells, TellsOne}
use Rattle.course_texts.specs.declared.meetings.Teller.{Teller}
use Rattle.secret_words.specs.declared.secrets.Secret.{Secret}
use Rattle.course_texts.specs.Shown.{event_line}
use Rattle.course_texts.specs.Closing.{is_closed}
use Rattle.course_texts.specs.Waits.{request_lines, wait_lines}
use Rattle.course_texts.specs.Meetings.{course_text, Writes}
use Rattle.report_texts.proofs.Carried.{carried}
use Rattle.course_texts.proofs.Meeting.{writes_all}
use Rattle.report_texts.proofs.Series.{take_more}

-- what writing a text leaves
abbrev pub Writing : Option (List ℕ) → Option (List ℕ) → List ℕ → Result (Unit {0}) ExplainFault → Type 0
Writing old new text (Ok done) = Appends old new text
Writing old new text (Err Write) = WasPut old new text
Writing old new text (Err _) = ⊥

-- the line of an event, by the script's requests and ending as they stood
pub line_is : (ss : List Secret) (old : Kept) (e : HallEvent) (asked : List Request) (how : Ending) (closed : Bool) (text put : List ℕ)
    → IsTrue old.lives → HasAsked old asked → (IsTrue old.lives → how ≡ (left old []).ending) → closed ≡ is_closed asked how e
    → put ≡ text ++ event_line ss closed e → put ≡ text ++ line_behind ss (left old []) e
line_is ss old e asked how closed text put alive asks ends is line =
    let so_far : Report = left old [] in
    let decided : closed ≡ is_closed so_far.requests so_far.ending e =
    is ∙ ap (λ (rs : List Request). is_closed rs how e) (asks.lives alive) ∙ ap (λ (h : Ending). is_closed so_far.requests h e) (ends alive) in
    line ∙ ap (λ (b : Bool). text ++ event_line ss b e) decided

-- what is told of a script's own event
pub own_told : (ss : List Secret) (e : HallEvent) (event : Event) (old new : Kept) (text put written text' : List ℕ) (a b : Teller) (before after : List Request) (begun steps : ℕ) (quiet : Bool)
    → HasAsked old before → HasBegun old begun → Fed old (event ∷ []) new → HasBegun new steps
    → put ≡ text ++ line_behind ss (left old []) e → a.text ≡ put → a.told ≡ length before → a.secrets ≡ ss
    → Sights Writes (λ later. met_from old (event ∷ later)) a (met_from new) b → b.refused ≡ false → HasAsked new after → written ≡ b.text ++ request_lines ss (drop b.told after)
    → quiet ≡ is_quiet e (begun == steps) → text' ≡ written ++ (if quiet then [] else wait_lines ss new) → OwnTold ss e event old new text text'
own_told ss e event old new text put written text' a b before after begun steps quiet asked began fed begins line front count kept saw well asks wrote is behind =
    let c : List ℕ = course_text ss (length before) saw.met after in
    let w : List ℕ = (if is_quiet e (begun == steps) then [] else wait_lines ss new) in
    let its : List ℕ = line_behind ss (left old []) e in
    record {
      before = before;
      after = after;
      met = saw.met;
      begun = begun;
      steps = steps;
      asked = asked;
      began = began;
      fed = fed;
      asks = asks;
      begins = begins;
      meets = saw.each;
      told =
          behind
          ∙ ap (λ (q : Bool). written ++ (if q then [] else wait_lines ss new)) is
          ∙ ap (λ (t : List ℕ). t ++ w) (
          wrote ∙ (writes_all ss saw.met a b after saw.seen well kept).1 ∙ ap (λ (n : ℕ). a.text ++ course_text ss n saw.met after) count ∙ ap (λ (t : List ℕ). t ++ c) (front ∙ line)
          )
          ∙ append_assoc (text ++ its) c w
          ∙ append_assoc text its (c ++ w);
    }

-- how a course begins
pub started : (ss : List Secret) (n : ℕ) (script : Script) (k : Kept) (front written text : List ℕ) (a b : Teller) (asked : List Request)
    → Begins script k → front ≡ heading n → a.text ≡ front → a.told ≡ 0 → a.secrets ≡ ss
    → Sights Writes (met_over script.source script.settings) a (met_from k) b → b.refused ≡ false → HasAsked k asked → written ≡ b.text ++ request_lines ss (drop b.told asked)
    → text ≡ written ++ wait_lines ss k → Starts ss n script k text
started ss n script k front written text a b asked begins head at count kept saw well asks wrote behind =
    let c : List ℕ = course_text ss 0 saw.met asked in
    record {
      asked = asked;
      met = saw.met;
      begins = begins;
      asks = asks;
      meets = saw.each;
      is =
          behind
          ∙ ap (λ (t : List ℕ). t ++ wait_lines ss k) (
          wrote ∙ (writes_all ss saw.met a b asked saw.seen well kept).1 ∙ ap (λ (m : ℕ). a.text ++ course_text ss m saw.met asked) count ∙ ap (λ (t : List ℕ). t ++ c) (at ∙ head)
          )
          ∙ append_assoc (heading n) c (wait_lines ss k);
    }

by_own : (ss : List Secret) (n : ℕ) (first k l : Kept) (es : List HallEvent) (e : HallEvent) (before text text' : List ℕ) (o : Option Event)
    → own_of n e ≡ o → StepOf ss o e k l text text' → TellsBehind ss n first es before k text → TellsBehind ss n first (es ++ e ∷ []) before l text'
by_own ss n first k l es e before text text' None is (same, still) (so_far, goes, at) =
    (so_far, subst (λ (m : Kept). Told ss n first (es ++ e ∷ []) so_far m) (sym same) (others es so_far k e is goes), still ∙ at)
by_own ss n first k l es e before text text' (Some event) is step (so_far, goes, at) =
    let more = step_text ss (left k []) e (length step.before) step.met step.after (step.begun == step.steps) l in (
      so_far ++ more,
      own es so_far k l e event step.before step.after step.met step.begun step.steps is step.asked step.began step.fed step.asks step.begins step.meets goes,
      step.told ∙ ap (λ (t : List ℕ). t ++ more) at ∙ append_assoc before so_far more,
    )

-- one event more
pub one_more : (ss : List Secret) (n : ℕ) (first k l : Kept) (es : List HallEvent) (i : ℕ) (e : HallEvent) (before text text' : List ℕ)
    → i < length es → e ≡ slice_index_or es i e → StepTold ss n e k l text text'
    → TellsBehind ss n first (take i es) before k text → TellsBehind ss n first (take (i + 1) es) before l text'
one_more ss n first k l es i e before text text' within at step goes =
    let next : i + 1 ≡ suc i = omega arith in
    subst (λ (zs : List HallEvent). TellsBehind ss n first zs before l text') (sym (ap (λ (j : ℕ). take j es) next ∙ take_more i es e within at))
    (by_own ss n first k l (take i es) e before text text' (own_of n e) refl step goes)

-- The courses of the first scripts were told.
pub record SoFar (ss : List Secret) (only : Option ℕ) (events : List HallEvent) (all rest : List Script) (text : List ℕ) (number : ℕ) : Type 0 where
  pub done : List Script
  pub whole : done ++ rest ≡ all
  pub count : number ≡ length done
  pub courses : Explained ss only events done text

length_more : (ss : List Script) (s : Script) → length ss + 1 ≡ length (ss ++ s ∷ [])
length_more [] s = refl
length_more (x ∷ ss) s = let more = length_more ss s in omega (arith, more)

at_end : (ss : List Script) (s : Script) (more : List Script) → slice_get (ss ++ s ∷ more) (length ss) ≡ Some s
at_end [] s more = refl
at_end (x ∷ ss) s more = at_end ss s more

module _ (secrets : List Secret) (only : Option ℕ) (events : List HallEvent) (all rest : List Script) where
  pub none_yet : rest ≡ all → SoFar secrets only events all rest [] 0
  none_yet is = record { done = []; whole = is; count = refl; courses = no_script }

  module _ (text : List ℕ) (number : ℕ) (o : SoFar secrets only events all rest text number) where
    pub all_told : rest ≡ [] → Explained secrets only events all text
    all_told over =
        subst (λ (ss : List Script). Explained secrets only events ss text) (sym (append-nil o.done) ∙ ap (λ (ss : List Script). o.done ++ ss) (sym over) ∙ o.whole) o.courses

    module _ (s : Script) (more : List Script) (is : rest ≡ s ∷ more) where
      split : o.done ++ s ∷ more ≡ all
      split = ap (λ (ss : List Script). o.done ++ ss) (sym is) ∙ o.whole

      next : (n : ℕ) → n ≡ number + 1 → n ≡ length o.done + 1
      next n at = at ∙ ap (λ (k : ℕ). k + 1) o.count

      behind : (n : ℕ) (text' : List ℕ) → n ≡ number + 1 → Explained secrets only events (o.done ++ s ∷ []) text' → SoFar secrets only events all more text' n
      behind n text' at courses = record {
        done = o.done ++ s ∷ [];
        whole = append_assoc o.done (s ∷ []) more ∙ split;
        count = next n at ∙ length_more o.done s;
        courses = courses;
      }

      -- the next one is told too, or not
      pub told_more : (n : ℕ) (course text' : List ℕ) → n ≡ number + 1 → is_told only n ≡ true → Course secrets n s events course → text' ≡ text ++ course → SoFar secrets only events all more text' n
      told_more n course text' at shown c put =
          behind n text' at (subst (λ (t : List ℕ). Explained secrets only events (o.done ++ s ∷ []) t) (sym put)
          (told o.done text course s (subst (λ (k : ℕ). is_told only k ≡ true) (next n at) shown) (subst (λ (k : ℕ). Course secrets k s events course) (next n at) c) o.courses))

      pub silent_more : (n : ℕ) → n ≡ number + 1 → is_told only n ≡ false → SoFar secrets only events all more text n
      silent_more n at hidden = behind n text at (silent o.done text s (subst (λ (k : ℕ). is_told only k ≡ false) (next n at) hidden) o.courses)

      -- the next one has no course
      pub tells_not : (n : ℕ) (f : ExplainFault) → n ≡ number + 1 → TellsOne secrets n s events (Err f) → Tells secrets only events all (Err f)
      tells_not n Read at t = t
      tells_not n (Log f) at t = t
      tells_not n TooManyScripts at t = t
      tells_not n (SourceTooLong m) at (is_n, long) =
          let place : m - 1 ≡ length o.done = let k = next n at in omega (arith, is_n, k) in
          let found : slice_get all (m - 1) ≡ Some s = ap (λ (k : ℕ). slice_get all k) place ∙ ap (λ (ss : List Script). slice_get ss (length o.done)) (sym split) ∙ at_end o.done s more in
          rw (found) long
      tells_not n Write at t = t
      tells_not n Memory at t = tt

-- what was told of a log is told of the bytes that a reader had left, where they are known
pub explained : (ss : List Secret) (only : Option ℕ) (scripts : List Script) (known : Option (List ℕ)) (read slice text : List ℕ) (events : List HallEvent) (old new : Option (List ℕ)) (r : Result (Unit {0}) ExplainFault) →
    IfSome known (λ bytes. read ≡ bytes) → slice ≡ read → LogText slice events → Explained ss only events scripts text → Writing old new text r → IfSome known (λ bytes. Explains ss only scripts bytes old new r)
explained ss only scripts known read slice text events old new r is same log courses put = carried (λ (bytes : List ℕ). Explains ss only scripts bytes old new r) known read slice is same (by_cases r put)
  where
    all : Courses ss only scripts slice text
    all = record { events = events; log = log; courses = courses }

    by_cases : (r : Result (Unit {0}) ExplainFault) → Writing old new text r → Explains ss only scripts slice old new r
    by_cases (Ok done) p = (text, all, p)
    by_cases (Err Write) p = (text, all, p)
    by_cases (Err Read) p = absurd p
    by_cases (Err (Log f)) p = absurd p
    by_cases (Err TooManyScripts) p = absurd p
    by_cases (Err (SourceTooLong n)) p = absurd p
    by_cases (Err Memory) p = absurd p
