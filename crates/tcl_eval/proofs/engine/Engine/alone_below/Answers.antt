use Rattle.std.proofs.Common.{sym, ◌∙◌, ap}
use Rattle.tcl_eval.specs.declared.out.Leave.{Leave}
use Rattle.tcl_eval.specs.Alone.{alone}
use Rattle.tcl_eval.specs.Meaning.{Next, eval, fill_word, on_ok}
use Rattle.tcl_eval.specs.Native.{left, stop_rest}
use Rattle.tcl_eval.specs.Rest.{frame_rest, onward_rest}
use Rattle.tcl_eval.proofs.Natives.{alone_frame}
use Rattle.tcl_eval.proofs.engine.Engine.alone_below.Goals as goal

pub returns-in-Ok-clause-rest : goal.returns-in-Ok-clause-rest
unfolding frame_rest onward_rest
returns-in-Ok-clause-rest c = λ known k go st.
    c.below.ensures.rest known _ st
    ∙ ap (λ (n : Next). stop_rest c.in-Stopped.stop.value n st) (alone_frame (eval c.args.depth) c.in-Ok.filler k go c.in-Ok.ensures.waits)
    ∙ ap (λ (l : Leave). left l st (on_ok (λ v st. fill_word (eval c.args.depth) (alone v) k go st) k)) (sym c.in-Stopped.is)
