use Rattle.std.proofs.Common.{◌≡◌, ℕ, ◌+◌, ◌-◌, ◌<◌, List, [], length, get_or, Err, sym, ap, ◌∙◌, arith}
use Rattle.std.specs.Prelude.{nat_le}
use Rattle.tcl_control.specs.Choosing.{is_taken, case_words}
use Rattle.tcl_results.specs.Says.{text_of}
use Rattle.tcl_control.proofs.Chosen.{case_bad}
use Rattle.tcl_control.proofs.choosing.chosen.Goals as goal

pub returns-in-Err : goal.returns-in-Err
returns-in-Err c known =
    let ws = case_words c.args.cases.now in
    let at = c.loop-alloc.at in
    let some : 1 < length ws - at = omega arith in
    let is : is_taken c.args.way c.args.text.now (get_or ws at []) (nat_le (length ws) (at + 2)) ≡ Err (text_of c.in-Err.complaint) =
    ap (λ (t : List ℕ). is_taken c.args.way c.args.text.now t (nat_le (length ws) (at + 2))) (sym c.word.ensures)
    ∙ ap (λ (n : ℕ). is_taken c.args.way c.args.text.now c.word.result.now (nat_le n (at + 2))) (sym c.len-in-loop-alloc.ensures)
    ∙ c.in-Err.ensures known in
    sym c.loop-alloc.invariant ∙ case_bad ws at some c.args.way c.args.text.now (text_of c.in-Err.complaint) is
