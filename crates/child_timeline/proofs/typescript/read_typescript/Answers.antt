use Rattle.std.proofs.Common.{[], sym, subst}
use Rattle.child_timeline.proofs.Telling.{IsKept}
use Rattle.child_timeline.specs.declared.typescript.Tape.{Tape}
use Rattle.child_timeline.proofs.Taping.{unwound_is, told_wound_up}
use Rattle.child_timeline.proofs.typescript.read_typescript.Goals as goal

pub returns-clause-told : goal.returns-clause-told
returns-clause-told c = told_wound_up c.shown.result.now c.unwound.result c.wind_up.result c.wind_up.ensures (subst (λ (p : Tape). IsKept p.timeline) (sym c.unwound.ensures) (unwound_is []).kept)
