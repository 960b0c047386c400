use Rattle.std.proofs.Common.{◌≡◌, ℕ, Bool, List, drop, Ok, IfOk, sym, ap, subst, ◌∙◌}
use Rattle.std.specs.Prelude.{codes}
use Rattle.tcl_results.specs.Front.{has_flag}
use Rattle.tcl_results.specs.Given.{arg}
use Rattle.tcl_results.specs.Ways.{Match}
use Rattle.tcl_patterns.specs.Regexps.{found, answered, named_by}
use Rattle.tcl_results.specs.Said.{Said, Outcome, on_said}
use Rattle.tcl_patterns.proofs.regexps.named_by.Goals as goal

pub returns-in-Ok : goal.returns-in-Ok
returns-in-Ok c =
    let flags = c.args.flags.now in
    let words = c.args.words.now in
    let vars = c.args.vars.now in
    let q = c.in-Ok.found in
    let text = c.arg-text.result.now in
    let indexed = c.has_flag-indexed.result in
    let is : found flags c.arg.result.now text ≡ Ok q = c.in_ok-fault.ensures (found flags c.arg.result.now text) c.found.ensures ∙ c.in-Ok.is in
    let same : found flags (arg 0 words) (arg 1 words) ≡ Ok q =
    ap (λ (t : List ℕ). found flags t (arg 1 words)) (sym c.arg.ensures) ∙ ap (λ (t : List ℕ). found flags c.arg.result.now t) (sym c.arg-text.ensures) ∙ is in
    let whole : named_by flags words vars ≡ answered indexed text c.behind.result.now q.0 q.1 vars =
    ap (λ (s : Said (ℕ × Match)). on_said s vars (λ p. answered (has_flag (codes "-indices") flags) (arg 1 words) (drop 2 words) p.0 p.1 vars)) same
    ∙ ap (λ (b : Bool). answered b (arg 1 words) (drop 2 words) q.0 q.1 vars) (sym c.has_flag-indexed.ensures)
    ∙ ap (λ (t : List ℕ). answered indexed t (drop 2 words) q.0 q.1 vars) (sym c.arg-text.ensures)
    ∙ ap (λ (ns : List (List ℕ)). answered indexed text ns q.0 q.1 vars) (sym c.behind.ensures) in
    subst (λ (o : Outcome). IfOk c.answered.result (λ r. o ≡ (r.0, r.1, c.answered.new.vars))) (sym whole) c.answered.ensures
