-- A call that waits has nothing to take.
use Rattle.std.proofs.Common.{◌≡◌, ℕ, List, [], ◌∷◌, true, false, Option, Some, None}
use Rattle.child_events.specs.Queue.{Queued}
use Rattle.child_events.specs.Next.{next_of}
use Rattle.expect_core.specs.declared.lanes.Lane.{Lane}
use Rattle.expect_core.specs.declared.plan.Plan.{Plan}
use Rattle.expect_core.specs.declared.phase.Phase.{Phase}
use Rattle.expect_core.specs.declared.phase.Phase.TheVariants.{Idle, At}
use Rattle.expect_core.specs.declared.phase.Heard.TheVariants.{NotYet}
use Rattle.expect_core.specs.declared.turn.Want.{Want}
use Rattle.expect_core.specs.declared.turn.Want.TheVariants.{Answer, Item, Output, End}
use Rattle.expect_core.specs.declared.dialogue.Dialogue.{Dialogue}
use Rattle.expect_core.specs.Lanes.{lane_of, Inbox, answer_box, item_box}
use Rattle.expect_core.specs.Heard.{watched, place_in, at_most, lapse, in_time, Listened, heads}
use Rattle.expect_core.specs.Answered.{first_of}

-- there is nothing in time
abbrev pub NoneCame : {X Y : Type 0} → Inbox X Y → Option ℕ → List X → Type 0
NoneCame b limit l = first_of b limit l ≡ (None, l)

-- nothing came in time from the child at a place, and time has not run out
abbrev pub RestsAt : {X Y : Type 0} → Inbox X Y → ℕ → Dialogue → Type 0
RestsAt b i st = NoneCame b st.limit (b.read (lane_of i st.lanes)) × (at_most st.horizon st.limit ≡ true)

-- there is no item in time
abbrev pub NoItem : Option ℕ → Option ℕ → List Queued → Type 0
NoItem limit deadline [] = Unit {0}
NoItem limit deadline (q ∷ qs) = in_time limit deadline q.moment ≡ false

-- no item is taken: none is next, or that one is not in time
abbrev pub NoNext : Option ℕ → Plan → Option ℕ → List Lane → Type 0
NoNext limit p None lanes = Unit {0}
NoNext limit p (Some n) lanes = NoItem limit p.deadline (lane_of (place_in (watched p) n) lanes).items

abbrev pub Rests : Option ℕ → ℕ → Plan → List Lane → Type 0
Rests limit h p lanes = NoNext limit p (next_of (heads (watched p) lanes) h) lanes

-- what is under way has nothing to take, and time has not run out

abbrev pub WantRests : Want → Dialogue → Type 0
WantRests (Answer i why) st = RestsAt answer_box i st
WantRests (Item i why) st = RestsAt item_box i st
WantRests (End i p) st = RestsAt answer_box i st
WantRests (Output p) st = Rests st.limit st.horizon p st.lanes × (lapse st.limit st.horizon p.deadline ≡ NotYet)

abbrev pub AsleepIn : Phase → Dialogue → Type 0
AsleepIn Idle st = ⊥
AsleepIn (At n w) st = WantRests w st

-- what a wait for a pattern leaves where nothing came yet
abbrev pub AsleepOver : Option ℕ → ℕ → Plan → Listened → Type 0
AsleepOver limit h p (NotYet, lanes, o) = Rests limit h p lanes × (lapse limit h p.deadline ≡ NotYet)
AsleepOver limit h p (v, lanes, o) = Unit {0}
