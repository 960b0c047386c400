use Rattle.std.proofs.Common.{◌≡◌, ◌≤◌, ◌+◌, true, false, Some, None, Ok, Err, eqb, length, length-drop, drop, get_or, ap, sym, ◌∙◌, add-zero, arith}
use Rattle.std.proofs.lemmas.Bool.Decides.{nat_tests}
use Rattle.std.proofs.lemmas.Result.{err_from_is_err_and}
use Rattle.tcl_words.specs.declared.stop.Stop.TheVariants.{NestedGap}
use Rattle.tcl_words.specs.Commands.{inside_of, count_of, ended, token_at, stops, stop_len, gap_at, word, more_bytes, at_end, nested_script}
use Rattle.tcl_words.proofs.Runs.{skip_last, skip_turn, skip_fails, skip_over, script_last, script_gap, script_word, script_fails, script_over, nested_word-takes}
use Rattle.tcl_words.proofs.skip.+skip.Goals as goal

pub skip_parts-returns-then-stops-clause-value : goal.skip_parts-returns-then-stops-clause-value
skip_parts-returns-then-stops-clause-value t c =
    let s = c.args.bytes.now in
    let i = c.loop-at.at in
    let stop : stops c.args.stop (get_or s i 0) (drop (i + 1) s) ≡ true = grind arith in
    let e = skip_last (inside_of c.args.depth) c.args.stop s i (count_of (Rattle.tcl_words.specs.Commands.parts (inside_of c.args.depth) c.args.stop s)) (omega arith) stop c.loop-at.invariant.1 in
    rw c.stop_len.ensures.value e

pub skip_parts-returns-in_err-n-clause-value : goal.skip_parts-returns-in_err-n-clause-value
skip_parts-returns-in_err-n-clause-value t c =
    let s = c.args.bytes.now in
    let i = c.loop-at.at in
    let p = err_from_is_err_and c.from_residual.result c.from_residual.ensures.1 in
    let dark : stops c.args.stop (get_or s i 0) (drop (i + 1) s) ≡ false = grind arith in
    let bad : count_of (token_at (inside_of c.args.depth) (get_or s i 0) (drop (i + 1) s)) ≡ Err c.in_err-n.field-0.0 = grind arith in
    rw (p.1, p.2) (skip_fails (inside_of c.args.depth) c.args.stop s i c.in_err-n.field-0.0 _ (omega arith) dark bad c.loop-at.invariant.1)

pub skip_parts-loop-at-preserved : goal.skip_parts-loop-at-preserved
skip_parts-loop-at-preserved t c =
    let s = c.args.bytes.now in
    let i = c.loop-at.at in
    let dark : stops c.args.stop (get_or s i 0) (drop (i + 1) s) ≡ false = grind arith in
    let is : count_of (token_at (inside_of c.args.depth) (get_or s i 0) (drop (i + 1) s)) ≡ Ok c.in_ok-n.n = grind arith in
    let within : c.in_ok-n.n ≤ length (drop (i + 1) s) = rw (← c.after-rest.ensures) c.in_ok-n.ensures.within in
    (omega (arith, length-drop (i + 1) s), skip_turn (inside_of c.args.depth) c.args.stop s i c.in_ok-n.n _ (omega arith) dark is c.loop-at.invariant.1)

pub skip_parts-returns-in-Some-clause-value : goal.skip_parts-returns-in-Some-clause-value
skip_parts-returns-in-Some-clause-value t c =
    let i = c.loop-at.at in
    sym (skip_over (inside_of c.args.depth) c.args.stop c.args.bytes.now i _ (omega arith) c.loop-at.invariant.1 ∙ ap (λ o. more_bytes i (count_of (ended o))) (sym c.in-Some.ensures))

pub skip_parts-returns-in-None-clause-value : goal.skip_parts-returns-in-None-clause-value
skip_parts-returns-in-None-clause-value t c =
    let i = c.loop-at.at in
    sym (skip_over (inside_of c.args.depth) c.args.stop c.args.bytes.now i _ (omega arith) c.loop-at.invariant.1 ∙ ap (λ o. more_bytes i (count_of (ended o))) (sym c.in-None.ensures) ∙ ap Ok (add-zero i))

pub skip_script-returns-then-b-eq93-clause-value : goal.skip_script-returns-then-b-eq93-clause-value
skip_script-returns-then-b-eq93-clause-value t c =
    let s = c.args.bytes.now in
    let i = c.loop-at.at in
    let b : eqb (get_or s i 0) 93 ≡ true = grind (arith, nat_tests) in
    let e = script_last (inside_of c.args.depth) s i c.loop-at.first (omega arith) b in
    sym (ap (more_bytes i) e) ∙ c.loop-at.invariant.1

pub skip_script-loop-at-preserved-in-Some : goal.skip_script-loop-at-preserved-in-Some
skip_script-loop-at-preserved-in-Some t c =
    let s = c.args.bytes.now in
    let i = c.loop-at.at in
    let b : eqb (get_or s i 0) 93 ≡ false = grind (arith, nat_tests) in
    let gap : gap_at (get_or s i 0) (drop (i + 1) s) c.loop-at.first ≡ Some (c.in-Some.n, c.in-Some.begins) = grind arith in
    let within : c.in-Some.n ≤ length (drop (i + 1) s) = rw (← c.after.ensures) c.in-Some.ensures.within in
    (omega (arith, length-drop (i + 1) s), script_gap (inside_of c.args.depth) s i c.in-Some.n c.loop-at.first c.in-Some.begins _ (omega arith) b gap c.loop-at.invariant.1)

pub skip_script-returns-in_err-n-in-None-clause-value : goal.skip_script-returns-in_err-n-in-None-clause-value
skip_script-returns-in_err-n-in-None-clause-value t c =
    let s = c.args.bytes.now in
    let i = c.loop-at.at in
    let p = err_from_is_err_and c.from_residual.result c.from_residual.ensures.1 in
    let b : eqb (get_or s i 0) 93 ≡ false = grind (arith, nat_tests) in
    let gap : gap_at (get_or s i 0) (drop (i + 1) s) c.loop-at.first ≡ None = grind arith in
    let bad : count_of (word (inside_of c.args.depth) NestedGap (drop i s)) ≡ Err c.in_err-n-in-None.field-0.0 = grind arith in
    rw (p.1, p.2) (script_fails (inside_of c.args.depth) s i c.in_err-n-in-None.field-0.0 c.loop-at.first _ (omega arith) b gap bad c.loop-at.invariant.1)

pub skip_script-loop-at-preserved : goal.skip_script-loop-at-preserved
skip_script-loop-at-preserved t c =
    let s = c.args.bytes.now in
    let i = c.loop-at.at in
    let b : eqb (get_or s i 0) 93 ≡ false = grind (arith, nat_tests) in
    let gap : gap_at (get_or s i 0) (drop (i + 1) s) c.loop-at.first ≡ None = grind arith in
    let is : count_of (word (inside_of c.args.depth) NestedGap (drop i s)) ≡ Ok c.in_ok-n-in-None.n = grind arith in
    let within : c.in_ok-n-in-None.n ≤ length (drop i s) = rw (← c.after-in-None.ensures) c.in_ok-n-in-None.ensures.within in
    (omega (arith, length-drop i s), script_word (inside_of c.args.depth) s i c.in_ok-n-in-None.n c.loop-at.first _ (omega arith) b gap is c.loop-at.invariant.1)

pub skip_script-loop-at-smaller : goal.skip_script-loop-at-smaller
skip_script-loop-at-smaller t c =
    let s = c.args.bytes.now in
    let i = c.loop-at.at in
    let b : eqb (get_or s i 0) 93 ≡ false = grind (arith, nat_tests) in
    let gap : gap_at (get_or s i 0) (drop (i + 1) s) c.loop-at.first ≡ None = grind arith in
    let is : count_of (word (inside_of c.args.depth) NestedGap (drop i s)) ≡ Ok c.in_ok-n-in-None.n = grind arith in
    let takes = nested_word-takes (inside_of c.args.depth) s i c.in_ok-n-in-None.n c.loop-at.first (omega arith) b gap is in
    omega arith

pub skip_script-returns-clause-value : goal.skip_script-returns-clause-value
skip_script-returns-clause-value t c =
    let e = script_over (inside_of c.args.depth) c.args.bytes.now c.loop-at.at c.loop-at.first (omega arith) in
    sym (ap (more_bytes c.loop-at.at) e) ∙ c.loop-at.invariant.1
