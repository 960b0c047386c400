use Rattle.std.proofs.Common.{ℕ, List, [], sym, ap, ◌∙◌}
use Rattle.tcl_subst.specs.Variables.{Variables}
use Rattle.tcl_eval.specs.Meaning.{eval}
use Rattle.tcl_eval.specs.Rest.{engine_rest}
use Rattle.tcl_eval.specs.Suspended.{at_the_end}
use Rattle.tcl_eval.specs.Tree.{Tree}
use Rattle.expect_core.specs.declared.dialogue.Dialogue.{Dialogue}
use Rattle.expect_core.specs.Lanes.{extended}
use Rattle.expect_core.specs.Calls.{fresh}
use Rattle.session.specs.First.{first_variables}
use Rattle.session.specs.Left.{left}
use Rattle.session.specs.Meaning.{tree_of}
use Rattle.session.specs.Play.{play, told}
use Rattle.session.specs.Watching.{meets, met_from}
use Rattle.session.proofs.Suspending.{good_new}
use Rattle.session.proofs.session.Session.open.Goals as goal

pub go_on_watched-lives-requires : goal.go_on_watched-lives-requires
go_on_watched-lives-requires g c = λ h. good_new c.args.settings.now c.in_ok-dialogue.dialogue c.in_ok-dialogue.ensures

pub returns-clause-left : goal.returns-clause-left
unfolding left tree_of
returns-clause-left g c = λ h later.
    let bound = c.bounded-bound.result in
    let machine = c.in_ok-machine.machine in
    let d = c.in_ok-dialogue.dialogue in
    let source = c.args.source.now in
    ap (told c.args.settings.now.tells_vars) (
    (c.go_on_watched-lives.ensures.ran h).says bound later
    ∙ ap (λ (n : ℕ). play bound (engine_rest machine.engine n machine.mode) (extended later d)) c.new-meter.ensures.left
    ∙ ap (λ (t : Tree). play bound t (extended later d)) (c.in_ok-machine.ensures bound)
    ∙ ap (λ (vars : Variables). play bound (eval 200 source at_the_end (record { vars = vars; procs = []; left = bound; trail = [] })) (extended later d)) c.in_ok-vars.ensures
    ∙ ap (λ (pairs : List (List ℕ × List ℕ)). play bound (eval 200 source at_the_end (record { vars = first_variables c.args.settings.now.host pairs; procs = []; left = bound; trail = [] })) (extended later d)) c.as_slice.ensures
    ∙ ap (λ (x : Dialogue). play bound (eval 200 source at_the_end (record { vars = first_variables c.args.settings.now.host c.args.settings.now.vars; procs = []; left = bound; trail = [] })) (extended later x)) c.in_ok-dialogue.ensures
    ∙ ap (λ (n : ℕ). play n (eval 200 source at_the_end (record { vars = first_variables c.args.settings.now.host c.args.settings.now.vars; procs = []; left = n; trail = [] })) (extended later (fresh c.args.settings.now))) c.bounded-bound.ensures
    )

pub returns-clause-seen : goal.returns-clause-seen
unfolding met_from tree_of
returns-clause-seen g c = λ h.
    let bound = c.bounded-bound.result in
    let machine = c.in_ok-machine.machine in
    let d = c.in_ok-dialogue.dialogue in
    let source = c.args.source.now in
    let saw = c.go_on_watched-lives.ensures.seen h in
    record {
      met = saw.met;
      each = λ later.
          sym (
          ap (λ (n : ℕ). meets (engine_rest machine.engine n machine.mode) (extended later d)) c.new-meter.ensures.left
          ∙ ap (λ (t : Tree). meets t (extended later d)) (c.in_ok-machine.ensures bound)
          ∙ ap (λ (vars : Variables). meets (eval 200 source at_the_end (record { vars = vars; procs = []; left = bound; trail = [] })) (extended later d)) c.in_ok-vars.ensures
          ∙ ap (λ (pairs : List (List ℕ × List ℕ)). meets (eval 200 source at_the_end (record { vars = first_variables c.args.settings.now.host pairs; procs = []; left = bound; trail = [] })) (extended later d)) c.as_slice.ensures
          ∙ ap (λ (x : Dialogue). meets (eval 200 source at_the_end (record { vars = first_variables c.args.settings.now.host c.args.settings.now.vars; procs = []; left = bound; trail = [] })) (extended later x)) c.in_ok-dialogue.ensures
          ∙ ap (λ (n : ℕ). meets (eval 200 source at_the_end (record { vars = first_variables c.args.settings.now.host c.args.settings.now.vars; procs = []; left = n; trail = [] })) (extended later (fresh c.args.settings.now))) c.bounded-bound.ensures
          )
          ∙ saw.each later;
      seen = saw.seen;
    }
