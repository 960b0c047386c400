use Rattle.std.proofs.Common.{◌≡◌, ℕ, List, [], Bool, Option, sym, ◌∙◌, ap, subst, arith}
use Rattle.tcl_subst.specs.Filling.{Fill}
use Rattle.tcl_subst.specs.Recipes.{Filling, given}
use Rattle.tcl_subst.specs.Rests.{rest, told}
use Rattle.tcl_subst.specs.Variables.{Variables}
use Rattle.tcl_subst.specs.declared.fill_step.FillStep.{FillStep}
use Rattle.tcl_subst.specs.declared.fill_step.FillStep.TheVariants.{NeedScript}
use Rattle.tcl_results.specs.declared.code.Code.TheVariants.{Error}
use Rattle.tcl_control.specs.Groups.{Turns}
use Rattle.tcl_eval.specs.declared.advance.Advance.{Advance}
use Rattle.tcl_eval.specs.declared.begun.Begun.{Begun}
use Rattle.tcl_eval.specs.declared.engine.Engine.{Engine}
use Rattle.tcl_eval.specs.declared.frame.Frame.TheVariants.{Each as EachFrame}
use Rattle.tcl_eval.specs.declared.frame.Onward.TheVariants.{Operand}
use Rattle.tcl_eval.specs.declared.frame.Then.TheVariants.{Command}
use Rattle.tcl_eval.specs.Advanced.{IsTold, NeedsFilled, begun_fill}
use Rattle.tcl_eval.specs.Alone.{alone, asks_alone}
use Rattle.tcl_eval.specs.Evaluated.{Evaluated, with_operand}
use Rattle.tcl_eval.specs.Native.{at_ok, each_begun, each_on, left}
use Rattle.tcl_eval.specs.Meaning.{Next, condition, eval, fill_word, fill_parts, on_ok, on_said, tested, tree_of}
use Rattle.tcl_eval.specs.Tree.{State}
use Rattle.tcl_eval.specs.Worth.{worth}
use Rattle.tcl_eval.specs.Rest.{arm_rest, frame_rest, onward_rest, then_rest, now_of}
use Rattle.tcl_eval.proofs.Natives.{word_came, spent_on, arms_some, words_some, literals_fill, word_frame}
use Rattle.tcl_eval.proofs.Passing.{operand_frame}
use Rattle.tcl_eval.proofs.Told.{needs_worth, one_less}
use Rattle.tcl_eval.proofs.Walked.{value_known, value_faulty}
use Rattle.tcl_eval.proofs.engine.Engine.+native.Goals as goal

pub result-returns-clause-rest : goal.result-returns-clause-rest
result-returns-clause-rest t c = λ known k.
    sym (word_came c.worth.result (now_of c.worth.new.self) k)
    ∙ c.worth.ensures.rest known k (at_ok k)
    ∙ ap (λ (x : Evaluated). worth (eval c.args.depth) x k (at_ok k) (now_of c.args.self.now)) c.new.ensures

pub command-returns-in-Some-clause-rest : goal.command-returns-in-Some-clause-rest
command-returns-in-Some-clause-rest t c = λ known k.
    c.begun.ensures.rest known k
    ∙ sym (literals_fill (eval c.args.depth) c.args.words.now c.in-Some.values.now [] k (then_rest c.args.depth Command k) (now_of c.args.self.now) c.in-Some.ensures)

-- ---- words

pub alone_script-returns-in-Err-clause-rest : goal.alone_script-returns-in-Err-clause-rest
alone_script-returns-in-Err-clause-rest t c = λ known k go.
    let after : Next = on_ok (λ v st. fill_word (eval c.args.depth) (alone v) k go st) k in
    c.alone_below.ensures.rest known k go _
    ∙ ap (λ (m : Engine). left c.in-Err.leave (now_of m) after) c.alone_below.ensures.same
    ∙ c.in-Err.ensures.rest (c.alone_below.ensures.known known) after

pub fill_on-returns-in-Err-clause-rest : goal.fill_on-returns-in-Err-clause-rest
unfolding onward_rest
fill_on-returns-in-Err-clause-rest t c = λ known k go.
    let ev = eval c.args.depth in
    let f = c.scripts.filler in
    let st = now_of c.scripts.self in
    let now = now_of c.script-in-NeedScript.new.self in
    let after : Next = on_ok (λ v st. fill_word ev (rest (given v f) st.vars) k go st) k in
    c.onward_below.ensures.rest known (on_ok go k) now
    ∙ ap (λ (n : Next). left c.in-Err.leave now n) (word_frame ev f k go)
    ∙ c.in-Err.ensures.rest (c.onward_below.ensures.known known) after
    ∙ ap (λ (text : List ℕ). ev text after st) c.in_ok-script-in-NeedScript.ensures
    ∙ ap (λ (s : FillStep). fill_word ev (told (s, f)) k go st) (sym c.in-NeedScript.is)
    ∙ c.scripts.invariant.same k go

pub word-returns-in-Some-clause-rest : goal.word-returns-in-Some-clause-rest
word-returns-in-Some-clause-rest t c = λ known k go.
    let st = now_of c.args.self.now in
    c.alone_script.ensures.rest known k go
    ∙ ap (λ (text : List ℕ). fill_word (eval c.args.depth) (asks_alone text) k go st) (c.in_ok-script.ensures ∙ c.as_slice.ensures)
    ∙ ap (λ (p : Fill). fill_word (eval c.args.depth) p k go st) (sym (c.in-Some.ensures st.vars))

pub words-words-preserved : goal.words-words-preserved
unfolding onward_rest
words-words-preserved t c = record {
  same = λ k.
      c.in-Ok.ensures.rest tt k
      ∙ words_some (eval c.args.depth) c.in-Some.to c.words.next c.in-Some.word.now c.args.words.now c.words.done k (then_rest c.args.depth c.args.then k) (now_of c.words.self) c.in-Some.ensures
      ∙ c.words.invariant.same k;
  spent = spent_on _ _ _ 0 c.words.invariant.spent (record { kept = c.in-Ok.ensures.measures.kept; less = c.in-Ok.ensures.measures.less; down = omega (arith, c.in-Ok.ensures.measures.down) });
}

pub words-returns-in-Err-clause-rest : goal.words-returns-in-Err-clause-rest
unfolding onward_rest
words-returns-in-Err-clause-rest t c = λ known k.
    c.in-Err.ensures.rest known k
    ∙ words_some (eval c.args.depth) c.in-Some.to c.words.next c.in-Some.word.now c.args.words.now c.words.done k (then_rest c.args.depth c.args.then k) (now_of c.words.self) c.in-Some.ensures
    ∙ c.words.invariant.same k

-- ---- expressions

pub operand-returns-in-Alone-clause-rest : goal.operand-returns-in-Alone-clause-rest
operand-returns-in-Alone-clause-rest t c = λ known k go.
    c.alone_script.ensures.rest known k go
    ∙ ap (λ (b : Begun). fill_word (eval c.args.depth) (begun_fill b) k go (now_of c.args.self.now)) (sym c.in-Alone.is)

pub operand-returns-in-Script-clause-rest : goal.operand-returns-in-Script-clause-rest
operand-returns-in-Script-clause-rest t c = λ known k go.
    let st = now_of c.args.self.now in
    c.fill_on.ensures.rest known k go
    ∙ ap (λ (f : Filling). fill_word (eval c.args.depth) (told (NeedScript c.in-Script.number, f)) k go st) c.into_inner-filler.ensures
    ∙ ap (λ (b : Begun). fill_word (eval c.args.depth) (begun_fill b) k go st) (sym c.in-Script.is)

pub worth-returns-in-Value-clause-rest : goal.worth-returns-in-Value-clause-rest
worth-returns-in-Value-clause-rest t c = λ known k go.
    let ev = eval c.args.depth in
    let e = c.operands.evaluation in
    let st = now_of c.operands.self in
    ap (λ (vs : Variables). go c.in-Value.value (record { vars = vs; procs = st.procs; left = st.left; trail = st.trail })) c.in_ok-value.ensures.vars
    ∙ sym (value_known (fill_parts ev) e.tree e.given k go st c.in-Value.value (subst (λ (a : Advance). IsTold st.vars a e) c.in-Value.is c.in_ok-value.ensures.told))
    ∙ c.operands.invariant.same k go

pub worth-returns-in-Fault-clause-rest : goal.worth-returns-in-Fault-clause-rest
worth-returns-in-Fault-clause-rest t c = λ known k go.
    let ev = eval c.args.depth in
    let e = c.operands.evaluation in
    let st = now_of c.operands.self in
    ap (λ (vs : Variables). k Error c.in_ok-text-in-Fault.text (record { vars = vs; procs = st.procs; left = st.left; trail = st.trail })) c.in_ok-value.ensures.vars
    ∙ ap (λ (text : List ℕ). k Error text st) c.in_ok-text-in-Fault.ensures
    ∙ sym (value_faulty (fill_parts ev) e.tree e.given k go st c.in-Fault.fault (subst (λ (a : Advance). IsTold st.vars a e) c.in-Fault.is c.in_ok-value.ensures.told))
    ∙ c.operands.invariant.same k go

pub worth-operands-smaller : goal.worth-operands-smaller
worth-operands-smaller t c =
    let e = c.operands.evaluation in
    let needed : NeedsFilled c.operands.self.vars (begun_fill c.in-Operand.begun) e = subst (λ (a : Advance). IsTold c.operands.self.vars a e) c.in-Operand.is c.in_ok-value.ensures.told in
    one_less c.operands.self.vars (begun_fill c.in-Operand.begun) e c.give.new.self c.in-Ok.value c.operands_are_bounded.ensures needed
    (c.in_ok-give-in-Ok.ensures ∙ ap (λ (x : Evaluated). with_operand c.in-Ok.value x) c.in_ok-value.ensures.same)

pub worth-operands-preserved : goal.worth-operands-preserved
worth-operands-preserved t c =
    let ev = eval c.args.depth in
    let e = c.operands.evaluation in
    let st = now_of c.operands.self in
    let needed : NeedsFilled st.vars (begun_fill c.in-Operand.begun) e = subst (λ (a : Advance). IsTold st.vars a e) c.in-Operand.is c.in_ok-value.ensures.told in
    let given : c.give.new.self ≡ with_operand c.in-Ok.value e = c.in_ok-give-in-Ok.ensures ∙ ap (λ (x : Evaluated). with_operand c.in-Ok.value x) c.in_ok-value.ensures.same in
    record {
      same = λ k go.
          ap (λ (x : Evaluated). worth ev x k go (now_of c.operand.new.self)) given
          ∙ c.in-Ok.ensures.rest tt k (λ v st. worth ev (with_operand v e) k go st)
          ∙ ap (λ (vs : Variables). fill_word ev (begun_fill c.in-Operand.begun) k (λ v st. worth ev (with_operand v e) k go st) (record { vars = vs; procs = st.procs; left = st.left; trail = st.trail })) c.in_ok-value.ensures.vars
          ∙ needs_worth (begun_fill c.in-Operand.begun) e ev k go st needed
          ∙ c.operands.invariant.same k go;
      spent = spent_on _ _ _ 0 c.operands.invariant.spent (record { kept = c.in-Ok.ensures.measures.kept; less = c.in-Ok.ensures.measures.less; down = c.in-Ok.ensures.measures.down });
    }

pub worth-returns-in-Err-clause-rest : goal.worth-returns-in-Err-clause-rest
unfolding onward_rest
worth-returns-in-Err-clause-rest t c = λ known k go.
    let ev = eval c.args.depth in
    let e = c.operands.evaluation in
    let st = now_of c.operands.self in
    let now = now_of c.operand.new.self in
    let needed : NeedsFilled st.vars (begun_fill c.in-Operand.begun) e = subst (λ (a : Advance). IsTold st.vars a e) c.in-Operand.is c.in_ok-value.ensures.told in
    c.onward_below.ensures.rest known (on_ok go k) now
    ∙ ap (λ (x : Evaluated). left c.in-Err.leave now (on_ok (onward_rest (Operand x c.args.depth) (on_ok go k)) (on_ok go k))) c.in_ok-value.ensures.same
    ∙ ap (λ (n : Next). left c.in-Err.leave now n) (operand_frame ev e k go)
    ∙ c.in-Err.ensures.rest (c.onward_below.ensures.known known) k (λ v st. worth ev (with_operand v e) k go st)
    ∙ ap (λ (vs : Variables). fill_word ev (begun_fill c.in-Operand.begun) k (λ v st. worth ev (with_operand v e) k go st) (record { vars = vs; procs = st.procs; left = st.left; trail = st.trail })) c.in_ok-value.ensures.vars
    ∙ needs_worth (begun_fill c.in-Operand.begun) e ev k go st needed
    ∙ c.operands.invariant.same k go

-- ---- conditions of `if`

pub text_truth-returns-in-Err-clause-rest : goal.text_truth-returns-in-Err-clause-rest
text_truth-returns-in-Err-clause-rest t c = λ known k go.
    c.in-Err.ensures.within known k (λ v st. tested v k go st) (λ t st. condition (eval c.args.depth) t k go st) (now_of c.test.new.self)
    ∙ ap (λ (st : State). on_said (tree_of c.args.text.now) k (λ t st. condition (eval c.args.depth) t k go st) st) c.in-Err.ensures.same

pub choose-returns-in-Ok-true-clause-rest : goal.choose-returns-in-Ok-true-clause-rest
choose-returns-in-Ok-true-clause-rest t c = λ known k.
    let after = arm_rest c.args.depth c.in-Some.body c.take.new.self k in
    c.text.ensures.rest known k
    ∙ ap (λ (b : Bool). after b (now_of c.text_truth.new.self)) (sym c.in-Ok-true.field-0-test)
    ∙ c.in-Ok-true.ensures.rest tt k after
    ∙ arms_some c.args.depth c.arms.left c.take.new.self c.in-Some.test c.in-Some.body k (now_of c.arms.self) c.in-Some.ensures.0 c.in-Some.ensures.1
    ∙ c.arms.invariant.same k

pub choose-returns-in-Err-clause-rest : goal.choose-returns-in-Err-clause-rest
unfolding onward_rest
choose-returns-in-Err-clause-rest t c = λ known k.
    c.onward_below.ensures.rest known k _
    ∙ c.in-Err.ensures.rest (c.onward_below.ensures.known known) k (arm_rest c.args.depth c.in-Some.body c.take.new.self k)
    ∙ arms_some c.args.depth c.arms.left c.take.new.self c.in-Some.test c.in-Some.body k (now_of c.arms.self) c.in-Some.ensures.0 c.in-Some.ensures.1
    ∙ c.arms.invariant.same k

pub choose-arms-preserved-in-Ok-false : goal.choose-arms-preserved-in-Ok-false
choose-arms-preserved-in-Ok-false t c = record {
  same = λ k.
      let after = arm_rest c.args.depth c.in-Some.body c.take.new.self k in
      ap (λ (b : Bool). after b (now_of c.text_truth.new.self)) (sym c.in-Ok-false.field-0-test)
      ∙ c.in-Ok-false.ensures.rest tt k after
      ∙ arms_some c.args.depth c.arms.left c.take.new.self c.in-Some.test c.in-Some.body k (now_of c.arms.self) c.in-Some.ensures.0 c.in-Some.ensures.1
      ∙ c.arms.invariant.same k;
  spent = spent_on _ _ _ 0 c.arms.invariant.spent c.in-Ok-false.ensures.measures;
}

pub choose-arms-preserved-in-Ok-false-2 : goal.choose-arms-preserved-in-Ok-false-2
choose-arms-preserved-in-Ok-false-2 t c = record {
  same = λ k.
      let after = arm_rest c.args.depth c.in-Some.body c.take.new.self k in
      ap (λ (b : Bool). after b (now_of c.text_truth.new.self)) (sym c.in-Ok-false.field-0-test)
      ∙ c.in-Ok-false.ensures.rest tt k after
      ∙ arms_some c.args.depth c.arms.left c.take.new.self c.in-Some.test c.in-Some.body k (now_of c.arms.self) c.in-Some.ensures.0 c.in-Some.ensures.1
      ∙ c.arms.invariant.same k;
  spent = spent_on _ _ _ 0 c.arms.invariant.spent c.in-Ok-false.ensures.measures;
}

pub choose-arms-preserved : goal.choose-arms-preserved
choose-arms-preserved t c = record {
  same = λ k.
      let after = arm_rest c.args.depth c.in-Some.body c.take.new.self k in
      ap (λ (b : Bool). after b (now_of c.text_truth.new.self)) (sym c.in-Ok-false.field-0-test)
      ∙ c.in-Ok-false.ensures.rest tt k after
      ∙ arms_some c.args.depth c.arms.left c.take.new.self c.in-Some.test c.in-Some.body k (now_of c.arms.self) c.in-Some.ensures.0 c.in-Some.ensures.1
      ∙ c.arms.invariant.same k;
  spent = spent_on _ _ _ 0 c.arms.invariant.spent c.in-Ok-false.ensures.measures;
}

-- ---- `foreach`

pub each_turns-turns-preserved : goal.each_turns-turns-preserved
each_turns-turns-preserved t c =
    let groups = c.each_begin.new.groups in
    let body = c.args.body.now in
    let begun = spent_on _ _ _ 0 c.turns.invariant.spent c.in_ok-each_begin.ensures.measures in
    let out = c.script-out.ensures.measures in
    record {
      same = λ k.
          ap (λ (o : Option Turns). each_on c.args.depth body k o (now_of c.script-out.new.self)) (sym c.in-Some.is)
          ∙ c.in_ok-more.ensures.rest tt k (now_of c.script-out.new.self)
          ∙ c.script-out.ensures.rest (c.in_ok-more.ensures.known tt) (frame_rest (EachFrame groups body c.args.depth) k)
          ∙ ap (λ (b : Bool). each_begun c.args.depth body groups k b (now_of c.each_begin.new.self)) (sym c.if-not-branch.false)
          ∙ c.in_ok-each_begin.ensures.rest c.args.depth body tt k
          ∙ c.turns.invariant.same k;
      spent = record { kept = out.kept ∙ begun.kept; less = omega (arith, begun.less, out.less); down = omega (arith, begun.down, out.down) };
    }
