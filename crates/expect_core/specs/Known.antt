-- What a wait for patterns has found out about its children's bytes, and remembers while it waits.
use Rattle.expect_core.specs.declared.known.Known.{Known}
use Rattle.expect_core.specs.declared.plan.Plan.{Plan}
use Rattle.expect_core.specs.declared.phase.Phase.{Phase}
use Rattle.expect_core.specs.declared.phase.Phase.TheVariants.{Idle, At}
use Rattle.expect_core.specs.declared.run.Went.{Went}
use Rattle.expect_core.specs.declared.run.Went.TheVariants as went
use Rattle.expect_core.specs.declared.turn.Want.{Want}
use Rattle.expect_core.specs.declared.turn.Want.TheVariants as want
use Rattle.expect_core.specs.declared.own.Own.{Own}
use Rattle.expect_core.specs.declared.dialogue.Dialogue.{Dialogue}
use Rattle.expect_core.specs.Quiet.{AreQuiet}
use Rattle.expect_core.specs.Sought.{AreSought}

-- It is true of the children of an `expect`.
abbrev pub Knows : Plan → Known → Own → Type 0
Knows p k o = AreQuiet p k.quiet o × AreSought p k.sought o

-- It is true of the children of a wait for output. Of other waits nothing is claimed.
abbrev pub KnowsOf : Want → Known → Own → Type 0
KnowsOf (want.Output p) k o = Knows p k o
KnowsOf (want.Answer i why) k o = Unit {0}
KnowsOf (want.Item i why) k o = Unit {0}
KnowsOf (want.End i p) k o = Unit {0}

abbrev pub KnowsAt : Phase → Known → Own → Type 0
KnowsAt Idle k o = Unit {0}
KnowsAt (At n w) k o = KnowsOf w k o

-- It is true of the wait of a dialogue.
abbrev pub KnowsIn : Known → Dialogue → Type 0
KnowsIn k st = KnowsAt st.phase k st.own

-- What a stage leaves known is true of the dialogue.
abbrev pub LeavesKnown : Went → Dialogue → Type 0
LeavesKnown (went.Listens k) st = KnowsIn k st
LeavesKnown (went.Turn t) st = Unit {0}
LeavesKnown (went.Over step) st = Unit {0}
