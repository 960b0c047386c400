-- What a wait remembers is true at first, and stays so.
use Rattle.std.proofs.Common.{◌≡◌, ℕ, [], subst, sym}
use Rattle.expect_core.specs.declared.known.Known.{Known}
use Rattle.expect_core.specs.declared.plan.Plan.{Plan}
use Rattle.expect_core.specs.declared.phase.Phase.{Phase}
use Rattle.expect_core.specs.declared.phase.Phase.TheVariants.{Idle, At}
use Rattle.expect_core.specs.declared.turn.Want.{Want}
use Rattle.expect_core.specs.declared.turn.Want.TheVariants as want
use Rattle.expect_core.specs.declared.own.Own.{Own}
use Rattle.expect_core.specs.declared.dialogue.Dialogue.{Dialogue}
use Rattle.expect_core.specs.Known.{Knows, KnowsAt, KnowsIn, KnowsOf}
use Rattle.expect_core.specs.Quiet.{unmarked}
use Rattle.expect_core.specs.Sought.{nothing_sought}
use Rattle.expect_core.proofs.Hushes.{unmarked_quiet}
use Rattle.expect_core.proofs.Vain.{sought_at_first}

-- nothing is known of so many children
module _ (n : ℕ) (k : Known) (quiet : k.quiet ≡ unmarked n) (sought : k.sought ≡ nothing_sought n) where
  pub knows_nothing : (p : Plan) (o : Own) → Knows p k o
  knows_nothing p o = (unmarked_quiet p n k.quiet o quiet, sought_at_first p n k.sought o sought)

  pub nothing_of : (w : Want) (o : Own) → KnowsOf w k o
  nothing_of (want.Output p) o = knows_nothing p o
  nothing_of (want.Answer i why) o = tt
  nothing_of (want.Item i why) o = tt
  nothing_of (want.End i p) o = tt

  nothing_at : (f : Phase) (o : Own) → KnowsAt f k o
  nothing_at Idle o = tt
  nothing_at (At left w) o = nothing_of w o

  pub nothing_in : (st : Dialogue) → KnowsIn k st
  nothing_in st = nothing_at st.phase st.own

-- what was told and asked doesn't count
pub told_away : (f : Phase) (k : Known) (o : Own) → KnowsAt f k o → KnowsAt f k (record o { transcript = []; requests = [] })
told_away Idle k o knows = tt
told_away (At left (want.Output p)) k o knows = knows
told_away (At left (want.Answer i why)) k o knows = tt
told_away (At left (want.Item i why)) k o knows = tt
told_away (At left (want.End i p)) k o knows = tt

pub knows_still : (k : Known) (old new : Dialogue) → new.phase ≡ old.phase → new.own ≡ old.own → KnowsIn k old → KnowsIn k new
knows_still k old new phase own knows =
    subst (λ (f : Phase). KnowsAt f k new.own) (sym phase) (subst (λ (o : Own). KnowsAt old.phase k o) (sym own) knows)
