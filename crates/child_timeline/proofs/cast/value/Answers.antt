use Rattle.std.proofs.Common.{ap}
use Rattle.std.specs.Prelude.{Err}
use Rattle.json.specs.declared.error.Error.{Error}
use Rattle.json.specs.Value.{value_view}
use Rattle.child_timeline.proofs.Casts.{is_value, is_none}
use Rattle.child_timeline.proofs.cast.value.Goals as goal

pub returns-in-Ok : goal.returns-in-Ok
returns-in-Ok c = is_value c.args.bytes.now (value_view c.in-Ok.value) c.in-Ok.ensures.ok.0 c.in-Ok.ensures.ok.1

pub returns-in-Err-Invalid : goal.returns-in-Err-Invalid
returns-in-Err-Invalid c = is_none c.args.bytes.now (λ utf8. c.in-Err-Invalid.ensures.invalid (ap (λ (e : Error). Err e) c.in-Err-Invalid.field-0-is) utf8)
