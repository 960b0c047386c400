-- What a turn of a desk does.
use Rattle.std.specs.Prelude.{◌≡◌, ◌⊎◌, ℕ, ◌+◌, nat_lt, nat_le, List, [], ◌∷◌, ◌++◌, slice_get, Bool, ◌&&◌, IsTrue, is_some, if◌then◌else◌, Some, None}
use Rattle.std.specs.List.{AllByRecursion}
use Rattle.std.specs.declared.io.traits.Read.{Ghosts as ReadGhosts}
use Rattle.child_events.specs.declared.event.What.{What}
use Rattle.child_events.specs.declared.event.HallEvent.{HallEvent}
use Rattle.child_events.specs.declared.event.HallEvent.TheVariants as hall
use Rattle.child_events.specs.World.{own}
use Rattle.tcl_host.specs.declared.ending.Ending.TheVariants.{Waiting}
use Rattle.session.specs.Left.{Kept, left}
use Rattle.dialogue_sched.specs.declared.script.Script.{Script}
use Rattle.child_hands.specs.declared.keeper.Keeper.{Ghosts}
use Rattle.child_desk.specs.Book.{logged}
use Rattle.child_desk.specs.declared.book.Book.{Book}
use Rattle.child_desk.specs.declared.line.ScriptState.{ScriptState}
use Rattle.child_desk.specs.declared.ends.Ends.{Ends}
use Rattle.child_desk.specs.Told.{Telling, Reply, replies_in, heard_of_hand, rings_of}
use Rattle.child_desk.specs.Line.{Keeping, InLine}

-- Whether a moment is after the stamp, and not past the last one.
abbrev pub goes_on : ℕ → ℕ → Bool
goes_on stamp now = nat_lt stamp now && nat_le now 9000000000000000

-- The tick of such a moment.
abbrev pub ticks : ℕ → ℕ → List HallEvent
ticks stamp now = if goes_on stamp now then hall.Tick now ∷ [] else []

-- The stamp after it.
abbrev pub stamp_by : ℕ → ℕ → ℕ
stamp_by stamp now = if goes_on stamp now then now else stamp

-- Output or an answer for the script at `at`, with this stamp as its moment.
abbrev pub CameTo : ℕ → ℕ → HallEvent → Type 0
CameTo stamp at e = (child : ℕ) × (w : What) × (e ≡ hall.Child (at + 1) child stamp w)

-- Output or an answer for any script, with this stamp as its moment.
abbrev pub Came : ℕ → HallEvent → Type 0
Came stamp e = (script child : ℕ) × (w : What) × (e ≡ hall.Child script child stamp w)

-- Only output and answers for the script at `at` were recorded, with the book's stamp. No other session changed.
pub record Comes (at : ℕ) (old new : Book) : Type 0 where
  pub more : List HallEvent
  pub log : logged new ≡ logged old ++ more
  pub each : AllByRecursion (CameTo old.stamp at) more
  pub stamp : new.stamp ≡ old.stamp
  pub others : (i : ℕ) → (i ≡ at → ⊥) → slice_get new.hall i ≡ slice_get old.hall i

-- Only output and answers were recorded after `front`, with this stamp, which is the book's.
pub record ComesTo (stamp : ℕ) (front : List HallEvent) (new : Book) : Type 0 where
  pub more : List HallEvent
  pub log : logged new ≡ front ++ more
  pub each : AllByRecursion (Came stamp) more
  pub stamped : new.stamp ≡ stamp

-- One tick was recorded if the time went on, and the book has its stamp.
abbrev pub Ticks : ℕ → Book → Book → Type 0
Ticks now old new = (logged new ≡ logged old ++ ticks old.stamp now) × (new.stamp ≡ stamp_by old.stamp now)

-- One tick was recorded if the time went on, and then output and answers.
abbrev pub Turns : ℕ → Book → Book → Type 0
Turns now old new = ComesTo (stamp_by old.stamp now) (logged old ++ ticks old.stamp now) new

-- The awaited answer: of the keeper's next call, to the request that was sent.
abbrev pub IsAwaited : ScriptState → Telling → Type 0
IsAwaited line t = IsTrue line.sent × (line.awaited ≡ Some t.request) × (t.name ≡ line.name) × (t.call ≡ line.last + 1)

-- What was recorded of at most one answer. The awaited one was, and any other was dropped.
abbrev pub IsEntered : ScriptState → List Telling → List Reply → Type 0
IsEntered line [] replies = replies ≡ []
IsEntered line (t ∷ u ∷ ts) replies = ⊥
IsEntered line (t ∷ []) replies = (IsAwaited line t × (replies ≡ record { child = t.request.child; answer = t.answer } ∷ [])) ⊎ ((IsAwaited line t → ⊥) × (replies ≡ []))

-- These answers to the script at `at` were recorded.
abbrev pub Replies : ℕ → List HallEvent → List Reply → List HallEvent → Type 0
Replies at es replies es' = replies_in (own (at + 1) es') ≡ replies_in (own (at + 1) es) ++ replies

-- What was recorded of an answer that was told.
abbrev pub IsTold : ℕ → ScriptState → Telling → Book → Book → Type 0
IsTold at line t old new = (replies : List Reply) × Replies at (logged old) replies (logged new) × IsEntered line (t ∷ []) replies

-- What was recorded of what a script's hand told.
pub record HearsHand (at : ℕ) (line : ScriptState) (told : List Telling) (es : List HallEvent) (told' : List Telling) (es' : List HallEvent) : Type 0 where
  pub more : List Telling
  pub heard : told' ≡ told ++ more
  pub replies : List Reply
  pub recorded : Replies at es replies es'
  pub entered : IsEntered line more replies

-- If the session at `at` was not refused memory, it has no request left to hand out.
abbrev pub HasNoRequest : ℕ → Book → Type 0
HasNoRequest at book = (k : Kept) → slice_get book.hall at ≡ Some k → IsTrue k.lives → slice_get (left k []).requests k.handed ≡ None

-- The session at `at` was not refused memory, and its script waits.
abbrev pub Waits : ℕ → Book → Type 0
Waits at book = (k : Kept) → slice_get book.hall at ≡ Some k → IsTrue k.lives × ((left k []).ending ≡ Waiting)

-- The script at `at` is over, or its sent request awaits its answer, or it waits and has no request left.
abbrev pub IsServed : ℕ → ScriptState → Book → Type 0
IsServed at line book = IsTrue line.over ⊎ (IsTrue line.sent ⊎ (Waits at book × HasNoRequest at book))

module _ {K O : Type 0} {g : Ghosts K O} {r : ReadGhosts O} where
  -- The script is served, or an item waits for room in the ring to its hand.
  abbrev pub HasAsked : ℕ → ScriptState → Ends K O g r → Book → Type 0
  HasAsked at line e book = IsTrue (is_some e.ready) ⊎ IsServed at line book

  -- Other scripts of a desk, and their rings, didn't change.
  abbrev pub SameElsewhere : ℕ → List ScriptState → List (Ends K O g r) → List ScriptState → List (Ends K O g r) → Type 0
  SameElsewhere at lines ends lines' ends' = (i : ℕ) → (i ≡ at → ⊥) → (slice_get lines' i ≡ slice_get lines i) × (slice_get ends' i ≡ slice_get ends i)

  -- The script at `at` of a desk is served, or an item waits for room in the ring to its hand.
  abbrev pub HasAskedIn : ℕ → List ScriptState → List (Ends K O g r) → Book → Type 0
  HasAskedIn at lines ends book = (line : ScriptState) (e : Ends K O g r) → slice_get lines at ≡ Some line → slice_get ends at ≡ Some e → HasAsked at line e book

  -- What was recorded of what the hand of the script at `at` told.
  abbrev pub HearsHandIn : ℕ → List ScriptState → List (Ends K O g r) → Book → List (Ends K O g r) → Book → Type 0
  HearsHandIn at lines ends old ends' new = (keeper : Keeping) (script : Script) (line : ScriptState) (e : Ends K O g r) → slice_get lines at ≡ Some line → slice_get ends at ≡ Some e → InLine (rings_of e) keeper script at line old →
      (e' : Ends K O g r) × (slice_get ends' at ≡ Some e') × HearsHand at line (heard_of_hand e.answers) (logged old) (heard_of_hand e'.answers) (logged new)
