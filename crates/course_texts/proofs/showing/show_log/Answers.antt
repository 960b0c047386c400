use Rattle.course_texts.proofs.LogLines.{shows_read}
use Rattle.course_texts.proofs.showing.show_log.Goals as goal

pub returns-clause-answers : goal.returns-clause-answers
returns-clause-answers g c =
    shows_read c.args.script (g.R.Read.remaining c.args.log.now.device) _ c.as_slice.result.now c.in_ok-events.events _ _ _ _ c.write_events.result
    c.in-Ok.ensures.bytes c.as_slice.ensures c.in_ok-events.ensures c.write_events.ensures
