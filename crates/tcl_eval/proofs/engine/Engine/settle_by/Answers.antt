use Rattle.std.proofs.Common.{◌≡◌, ◌+◌, ℕ, List, Result, Err, sym, ◌∙◌, ap, subst, arith}
use Rattle.tcl_results.specs.declared.code.Code.{Code}
use Rattle.tcl_eval.specs.declared.frame.Frame.{Frame}
use Rattle.tcl_eval.specs.declared.out.Leave.{Leave}
use Rattle.tcl_eval.specs.Native.{Known, ended, owed}
use Rattle.tcl_eval.specs.Potential.{again, bodies, frame_weight}
use Rattle.tcl_eval.specs.Rest.{frame_rest, frames_rest, now_of}
use Rattle.tcl_eval.proofs.engine.Engine.settle_by.Goals as goal
use Rattle.tcl_eval.proofs.engine.Engine.settle_by.Goals.{in-Ok, in-Err-Gone}

pub frames-preserved : goal.frames-preserved
frames-preserved c =
    let stack = c.frames.self.stack in
    let frame = c.in-Some.frame in
    let now = c.frames.now in
    let st = now_of c.frames.self in
    let code = c.match-now.code.0 in
    let value = c.match-now.code.1 in
    let kept : c.resume-now.new.self.stack ≡ c.pop.new.self = c.resume-now.ensures.measures.kept in
    let known_now : Known now = elim c.match-now.branch [
      | in-Ok w ↦ subst Known (sym w.in-Ok.is) tt
      | in-Err-Gone w ↦ subst Known (sym (w.in-Err-Gone.is ∙ ap Err w.in-Err-Gone.field-0-is)) tt
    ] in
    let handed : frames_rest stack code value st ≡ ended now st (frames_rest stack) = elim c.match-now.branch [
      | in-Ok w ↦ ap (λ (p : Code × List ℕ). frames_rest stack p.0 p.1 st) w.code-is ∙ ap (λ (r : Result (List ℕ) Leave). ended r st (frames_rest stack)) (sym w.in-Ok.is)
      | in-Err-Gone w ↦
          ap (λ (p : Code × List ℕ). frames_rest stack p.0 p.1 st) w.code-is
          ∙ ap (λ (c : Code). frames_rest stack c w.in-Err-Gone.value st) w.code.ensures
          ∙ ap (λ (r : Result (List ℕ) Leave). ended r st (frames_rest stack)) (sym (w.in-Err-Gone.is ∙ ap Err w.in-Err-Gone.field-0-is))
    ] in
    let paid : again code ≡ owed 0 now = elim c.match-now.branch [
      | in-Ok w ↦ ap (λ (p : Code × List ℕ). again p.0) w.code-is ∙ ap (λ (r : Result (List ℕ) Leave). owed 0 r) (sym w.in-Ok.is)
      | in-Err-Gone w ↦
          ap (λ (p : Code × List ℕ). again p.0) w.code-is
          ∙ ap again w.code.ensures
          ∙ ap (λ (r : Result (List ℕ) Leave). owed 0 r) (sym (w.in-Err-Gone.is ∙ ap Err w.in-Err-Gone.field-0-is))
    ] in
    let before : bodies stack ≡ frame_weight frame + bodies c.pop.new.self = ap bodies c.in-Some.ensures in
    let after : bodies c.resume-now.new.self.stack ≡ bodies c.pop.new.self = ap bodies kept in
    let inv = c.frames.invariant.same known_now in
    record {
      same = λ known. (
        inv.0,
        ap (λ (s : List Frame). ended c.resume-now.result (now_of c.resume-now.new.self) (frames_rest s)) kept
            ∙ c.resume-now.ensures.rest known (frames_rest c.pop.new.self)
            ∙ c.came.ensures.rest (frame_rest frame (frames_rest c.pop.new.self)) st
            ∙ ap (λ (s : List Frame). frames_rest s code value st) (sym c.in-Some.ensures)
            ∙ handed
            ∙ inv.1,
      );
      down = omega (arith, c.frames.invariant.down, c.resume-now.ensures.measures.down, c.came.ensures.weight, paid, before, after);
      less = omega (arith, c.frames.invariant.less, c.resume-now.ensures.measures.less);
    }
