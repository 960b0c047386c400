-- An invariant of a dialogue: nothing in it is later than its greatest moment.
use Rattle.std.specs.Prelude.{ℕ, ◌≤◌, List, [], ◌∷◌}
use Rattle.child_events.specs.declared.event.Answer.{Answer}
use Rattle.child_events.specs.Queue.{Queued}
use Rattle.expect_core.specs.declared.lanes.Lane.{Lane}
use Rattle.expect_core.specs.declared.dialogue.Dialogue.{Dialogue}

abbrev pub ItemsBy : ℕ → List Queued → Type 0
ItemsBy h [] = Unit {0}
ItemsBy h (q ∷ qs) = (q.moment ≤ h) × ItemsBy h qs

abbrev pub AnswersBy : ℕ → List (ℕ × Answer) → Type 0
AnswersBy h [] = Unit {0}
AnswersBy h (a ∷ rest) = (a.0 ≤ h) × AnswersBy h rest

abbrev pub LanesBy : ℕ → List Lane → Type 0
LanesBy h [] = Unit {0}
LanesBy h (l ∷ ls) = ItemsBy h l.items × AnswersBy h l.answers × LanesBy h ls

pub record Good (st : Dialogue) : Type 0 where
  pub clock : st.own.clock ≤ st.horizon
  pub lanes : LanesBy st.horizon st.lanes
