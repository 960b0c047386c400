-- A script's line.
use Rattle.std.specs.Prelude.{◌≡◌, ◌≢◌, ◌⊎◌, ℕ, ◌+◌, List, [], ◌∷◌, ◌++◌, length, map, take, slice_get, Bool, true, false, IsTrue, is_some, if◌then◌else◌, Option, Some, None}
use Rattle.std.specs.declared.io.traits.Read.{Ghosts as ReadGhosts}
use Rattle.child_events.specs.declared.event.Answer.{Answer}
use Rattle.child_events.specs.declared.event.Event.{Event}
use Rattle.child_events.specs.declared.event.HallEvent.{HallEvent}
use Rattle.child_events.specs.declared.event.HallEvent.TheVariants as hall
use Rattle.child_events.specs.declared.event.What.TheVariants as what
use Rattle.child_events.specs.World.{own}
use Rattle.tcl_host.specs.declared.ending.Ending.{Ending}
use Rattle.tcl_host.specs.declared.ending.Ending.TheVariants.{Waiting}
use Rattle.expect_core.specs.declared.request.Request.{Request}
use Rattle.session.specs.declared.report.Report.{Report}
use Rattle.session.specs.Meaning.{meaning}
use Rattle.session.specs.Left.{Kept, left}
use Rattle.session.specs.Spent.{memory_report}
use Rattle.dialogue_sched.specs.declared.script.Script.{Script}
use Rattle.child_hands.specs.declared.keeper.Keeper.{Ghosts}
use Rattle.child_hands.specs.declared.items.RingItem.{RingItem}
use Rattle.feed_rings.specs.Ends.{taken_items, SameIn, SameOut, IsFinishedOf}
use Rattle.feed_rings.specs.declared.feed.Finished.{Finished}
use Rattle.child_desk.specs.Told.{answers_in, replies_in, AreAmong, AreOf, Asks, Stops, Rings, asked_of_hand, rings_of}
use Rattle.child_desk.specs.Book.{IsRecord, logged}
use Rattle.child_desk.specs.declared.book.Book.{Book}
use Rattle.child_desk.specs.declared.line.ScriptState.{ScriptState}
use Rattle.child_desk.specs.declared.ends.Ends.{Ends}

-- A keeper before its script is served: its name, and its number of calls.
pub record Keeping : Type 0 where
  pub name : ℕ
  pub made : ℕ

-- The event of an answer. `at` is the script's index.
abbrev pub answer_at : ℕ → ℕ → ℕ → Answer → HallEvent
answer_at at child moment a = hall.Child (at + 1) child moment (what.Answer a)

-- The line of a script with session `k`, part `es` of the record, and these rings. The calls of its keeper answered its
-- requests, in order. Each answer names the child of its request. Unless the session was refused memory, its report is
-- the script's meaning over `es` and later events. The awaited request is the first one without an answer. The hand was
-- sent the requests with answers, in order, and then the awaited one if `sent`. After these it was sent the stop if
-- `over`. If `over`, the script has an ending, unless memory was refused.
pub record IsInLine (rings : Rings) (keeper : Keeping) (script : Script) (line : ScriptState) (k : Kept) (es : List Event) : Type 0 where
  pub name : line.name ≡ keeper.name
  pub last : line.last ≡ keeper.made + length (answers_in es)
  pub answers : AreAmong rings.told keeper.name keeper.made (answers_in es) (meaning script.source script.settings es).requests
  pub children : AreOf (replies_in es) (meaning script.source script.settings es).requests
  pub says : IsTrue k.lives → (later : List Event) → left k later ≡ meaning script.source script.settings (es ++ later)
  pub handed : k.handed ≡ length (answers_in es) + (if is_some line.awaited then 1 else 0)
  pub next : (request : Request) → line.awaited ≡ Some request → slice_get (meaning script.source script.settings es).requests (length (answers_in es)) ≡ Some request
  pub sent : IsTrue line.sent → IsTrue (is_some line.awaited)
  pub asked : rings.asked ≡ map Asks (take (length (answers_in es) + (if line.sent then 1 else 0)) (meaning script.source script.settings es).requests) ++ (if line.over then Stops ∷ [] else [])
  pub over : IsTrue line.over → IsTrue k.lives → (meaning script.source script.settings es).ending ≢ Waiting

-- The script at index `at` of the hall is in line.
abbrev pub InLine : Rings → Keeping → Script → ℕ → ScriptState → Book → Type 0
InLine rings keeper script at line book = (k : Kept) × (slice_get book.hall at ≡ Some k) × IsInLine rings keeper script line k (own (at + 1) (logged book))

-- An event with no answer to a script keeps that script in line.
abbrev pub PassesAll : HallEvent → Book → Book → Type 0
PassesAll e old new = (rings : Rings) (keeper : Keeping) (script : Script) (at : ℕ) (line : ScriptState) → answers_in (own (at + 1) (e ∷ [])) ≡ [] →
    InLine rings keeper script at line old → InLine rings keeper script at line new

-- A report of a script is its meaning over its part of the record, with an ending if the script is over. Or it is the
-- report of a script that was refused memory.
abbrev pub Means : Script → ScriptState → List Event → Report → Type 0
Means script line es r = ((r ≡ meaning script.source script.settings es) × (IsTrue line.over → r.ending ≢ Waiting)) ⊎ (r ≡ memory_report)

-- A report of each script, as its line says.
pub record AllShown (book : Book) (reports : List Report) : Type 0 where
  pub count : length reports ≡ length book.hall
  pub each : (at : ℕ) (report : Report) → slice_get reports at ≡ Some report →
      (rings : Rings) (keeper : Keeping) (script : Script) (line : ScriptState) → InLine rings keeper script at line book → Means script line (own (at + 1) (logged book)) report

-- What a desk's calls keep, of a book and of each script's line.

-- Each script stays in line, and no answer was recorded.
pub record Leaves (old new : Book) : Type 0 where
  pub lines : (rings : Rings) (keeper : Keeping) (script : Script) (at : ℕ) (line : ScriptState) → InLine rings keeper script at line old → InLine rings keeper script at line new
  pub answers : (script : ℕ) → replies_in (own script (logged new)) ≡ replies_in (own script (logged old))
  pub book : IsRecord old → IsRecord new
  pub halls : length new.hall ≡ length old.hall
  pub log : SameIn old.log new.log

-- The script at `at` stays in line with its new line and rings. Each other one stays in line with its old ones.
pub record Keeps (rings rings' : Rings) (at : ℕ) (line : ScriptState) (old : Book) (line' : ScriptState) (new : Book) : Type 0 where
  pub here : (keeper : Keeping) (script : Script) → InLine rings keeper script at line old → InLine rings' keeper script at line' new
  pub others : (theirs : Rings) (keeper : Keeping) (script : Script) (i : ℕ) (other : ScriptState) → i ≢ at → InLine theirs keeper script i other old → InLine theirs keeper script i other new
  pub book : IsRecord old → IsRecord new
  pub halls : length new.hall ≡ length old.hall
  pub log : SameIn old.log new.log

module _ {K O : Type 0} {g : Ghosts K O} {r : ReadGhosts O} where
  -- Nothing was taken from a script's rings.
  abbrev pub TakesNone : Ends K O g r → Ends K O g r → Type 0
  TakesNone e e' = (e'.readers ≡ e.readers) × (e'.answers ≡ e.answers)

  -- The rings from hands stay the same rings.
  abbrev pub SameRings : List (Ends K O g r) → List (Ends K O g r) → Type 0
  SameRings ends ends' = (at : ℕ) (e : Ends K O g r) → slice_get ends at ≡ Some e → (e' : Ends K O g r) × (slice_get ends' at ≡ Some e') × SameOut e.answers e'.answers

  -- Nothing was taken from these rings, and nothing was put to hands.
  pub record HearsNoHand (ends ends' : List (Ends K O g r)) : Type 0 where
    pub each : (at : ℕ) (e : Ends K O g r) → slice_get ends at ≡ Some e →
        (e' : Ends K O g r) × (slice_get ends' at ≡ Some e') × SameOut e.answers e'.answers × (taken_items e'.answers ≡ taken_items e.answers) × (asked_of_hand e' ≡ asked_of_hand e)
    pub count : length ends' ≡ length ends

  -- The first items are a prefix of the second.
  abbrev pub IsFrontOf : List (RingItem K O g r) → List (RingItem K O g r) → Type 0
  IsFrontOf xs ys = (rest : List (RingItem K O g r)) × (xs ++ rest ≡ ys)

  -- This is of the ring from the hand of the script at `at`.
  abbrev pub IsEndOf : ℕ → Finished (RingItem K O g r) → List (Ends K O g r) → Type 0
  IsEndOf at finished ends = (e : Ends K O g r) → slice_get ends at ≡ Some e → IsFinishedOf finished e.answers

  -- What was taken from that ring is a prefix of these items.
  abbrev pub IsFrontIn : ℕ → List (RingItem K O g r) → List (Ends K O g r) → Type 0
  IsFrontIn at items ends = (e : Ends K O g r) → slice_get ends at ≡ Some e → IsFrontOf (taken_items e.answers) items

  -- Each script stays in line.
  pub record KeepsAll (lines : List ScriptState) (ends : List (Ends K O g r)) (old : Book) (lines' : List ScriptState) (ends' : List (Ends K O g r)) (new : Book) : Type 0 where
    pub each : (keeper : Keeping) (script : Script) (at : ℕ) (line : ScriptState) (e : Ends K O g r) → slice_get lines at ≡ Some line → slice_get ends at ≡ Some e → InLine (rings_of e) keeper script at line old →
        (line' : ScriptState) × (e' : Ends K O g r) × (slice_get lines' at ≡ Some line') × (slice_get ends' at ≡ Some e') × InLine (rings_of e') keeper script at line' new
    pub rings : SameRings ends ends'
    pub book : IsRecord old → IsRecord new
    pub halls : length new.hall ≡ length old.hall
    pub log : SameIn old.log new.log
    pub count : length lines' ≡ length lines

-- Whether a script with this ending goes on.
abbrev pub Goes : Option Ending → Bool → Type 0
Goes ending true = (ending ≡ None) ⊎ (ending ≡ Some Waiting)
Goes ending false = (e : Ending) × (ending ≡ Some e) × (e ≢ Waiting)

-- Each script is over.
abbrev pub AllOver : List ScriptState → Type 0
AllOver lines = (at : ℕ) (line : ScriptState) → slice_get lines at ≡ Some line → IsTrue line.over
