use Rattle.std.proofs.Common.{List, ℕ, Ok, Err, sym, subst}
use Rattle.std.specs.Io.KnownBytes.{Appends}
use Rattle.child_events.specs.declared.event.HallEvent.{HallEvent}
use Rattle.child_events.specs.Log.{LogText}
use Rattle.course_texts.specs.declared.explaining.ExplainFault.TheVariants.{Write}
use Rattle.report_texts.specs.Devices.{WasPut}
use Rattle.course_texts.proofs.Coursing.{explained}
use Rattle.course_texts.proofs.explaining.explain.Goals as goal

pub returns-in-Ok-write_all-clause-answers : goal.returns-in-Ok-write_all-clause-answers
returns-in-Ok-write_all-clause-answers g c =
    let old = g.W.Write.contents c.args.out.now.device in
    let new = g.W.Write.contents c.write_all.new.writer.device in
    explained c.args.secrets.now c.args.only c.args.scripts.items (g.R.Read.remaining c.args.log.now.device) c.in-Ok.bytes c.as_slice.result.now c.in_ok-text.text c.as_slice-2.result.now old new (Ok c.in-Ok-write_all.field-0)
    c.in-Ok.ensures.bytes c.as_slice.ensures (subst (λ (es : List HallEvent). LogText c.as_slice.result.now es) (sym c.as_slice-2.ensures) c.in_ok-events.ensures)
    c.in_ok-text.ensures (subst (λ (t : List ℕ). Appends old new t) c.as_slice-3.ensures c.in-Ok-write_all.ensures.0)

pub returns-clause-answers : goal.returns-clause-answers
returns-clause-answers g c =
    let old = g.W.Write.contents c.args.out.now.device in
    let new = g.W.Write.contents c.write_all.new.writer.device in
    explained c.args.secrets.now c.args.only c.args.scripts.items (g.R.Read.remaining c.args.log.now.device) c.in-Ok.bytes c.as_slice.result.now c.in_ok-text.text c.as_slice-2.result.now old new (Err Write)
    c.in-Ok.ensures.bytes c.as_slice.ensures (subst (λ (es : List HallEvent). LogText c.as_slice.result.now es) (sym c.as_slice-2.ensures) c.in_ok-events.ensures)
    c.in_ok-text.ensures (subst (λ (t : List ℕ). WasPut old new t) c.as_slice-3.ensures c.in-Err.ensures.0)
