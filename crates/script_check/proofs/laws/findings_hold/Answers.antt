use Rattle.script_check.proofs.Foretold.{findings_hold}
use Rattle.script_check.proofs.laws.findings_hold.Goals as goal

pub returns : goal.returns
returns c = findings_hold
