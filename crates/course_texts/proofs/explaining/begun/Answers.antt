use Rattle.std.proofs.Common.{◌∙◌}
use Rattle.course_texts.proofs.Coursing.{started}
use Rattle.course_texts.proofs.explaining.begun.Goals as goal

pub returns-in-Ok-first_told : goal.returns-in-Ok-first_told
returns-in-Ok-first_told c =
    let told = c.in-Ok-first_told.ensures in
    let says = told.1 in
    started c.args.secrets.now c.args.number c.args.script c.in-Ok.begun.0 c.in_ok-heading.field-0 told.0 c.in-Ok-first_told.text c.new-teller.result c.in-Ok.begun.1 says.2.0
    (record { handed = c.in-Ok.ensures.handed; says = c.in-Ok.ensures.left }) c.in_ok-heading.ensures c.new-teller.ensures.state.0 c.new-teller.ensures.state.1 (c.new-teller.ensures.secrets ∙ c.in_ok-copied.ensures) (c.in-Ok.ensures.seen says.0) says.1 says.2.1 says.2.2 told.2
