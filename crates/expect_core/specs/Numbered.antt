-- An invariant of the children's numbers: a script has at most 16 children, and a request names one from 1 to 16.
use Rattle.std.specs.Prelude.{ℕ, ◌<◌, ◌≤◌, List, [], ◌∷◌, length, All, Option, Some, None}
use Rattle.expect_core.specs.declared.request.Request.{Request}
use Rattle.expect_core.specs.declared.body.Body.{Body}
use Rattle.expect_core.specs.declared.body.Body.TheVariants.{Action, Source}
use Rattle.expect_core.specs.declared.channels.Channel.{Channel}
use Rattle.expect_core.specs.declared.phase.Phase.{Phase}
use Rattle.expect_core.specs.declared.phase.Phase.TheVariants.{Idle, At}
use Rattle.expect_core.specs.declared.turn.Want.{Want}
use Rattle.expect_core.specs.declared.turn.Want.TheVariants.{Answer, Item, Output, End}
use Rattle.expect_core.specs.declared.child.Child.{Child}
use Rattle.expect_core.specs.declared.own.Own.{Own}
use Rattle.expect_core.specs.declared.dialogue.Dialogue.{Dialogue}
use Rattle.expect_core.specs.declared.plan.Plan.{Plan}
use Rattle.expect_core.specs.Among.{IsAmong}
use Rattle.expect_core.specs.Heard.{about}

abbrev pub IsPlace : ℕ → Type 0
IsPlace i = i < 16

-- The request names a child from 1 to 16.
abbrev pub NamesAChild : Request → Type 0
NamesAChild r = (1 ≤ r.child) × (r.child ≤ 16)

-- Each child that a wait is about has a place.
abbrev pub PlanPlaces : Plan → Type 0
PlanPlaces p = (i : ℕ) → IsAmong i (about p) → IsPlace i

-- The children of each `expect` that is kept have places.
abbrev pub AreOfPlaces : List Body → Type 0
AreOfPlaces [] = Unit {0}
AreOfPlaces (Action p ∷ bodies) = PlanPlaces p × AreOfPlaces bodies
AreOfPlaces (Source ∷ bodies) = AreOfPlaces bodies

-- The children of channels have places, and so has that of standard error.
abbrev pub HasPlace : Channel → Type 0
HasPlace c = IsPlace c.child

abbrev pub HasPlaceIf : Option ℕ → Type 0
HasPlaceIf None = Unit {0}
HasPlaceIf (Some i) = IsPlace i

-- What is awaited is for children with places.
abbrev pub WantsPlaces : Want → Type 0
WantsPlaces (Answer i why) = IsPlace i
WantsPlaces (Item i why) = IsPlace i
WantsPlaces (Output p) = PlanPlaces p
WantsPlaces (End i p) = IsPlace i × PlanPlaces p

-- The waiting call is for children with places.
abbrev pub IsOfPlaces : Phase → Type 0
IsOfPlaces Idle = Unit {0}
IsOfPlaces (At n w) = WantsPlaces w

pub record Numbers (children : List Child) (bodies : List Body) (channels : List Channel) (errors : Option ℕ) (requests : List Request) : Type 0 where
  pub few : length children ≤ 16
  pub placed : AreOfPlaces bodies
  pub opened : All HasPlace channels
  pub complains : HasPlaceIf errors
  pub asked : All NamesAChild requests

abbrev pub OwnNumbered : Own → Type 0
OwnNumbered o = Numbers o.children o.bodies o.channels o.errors o.requests

abbrev pub Numbered : Dialogue → Type 0
Numbered st = OwnNumbered st.own × IsOfPlaces st.phase
