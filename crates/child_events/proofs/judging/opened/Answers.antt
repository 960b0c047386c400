use Rattle.std.proofs.Common.{Ok, Err, sym, ap, ◌∙◌}
use Rattle.std.proofs.lemmas.Result.{err_from_is_err_and}
use Rattle.child_events.specs.declared.version.Version.TheVariants.{Counted}
use Rattle.child_events.proofs.Closing.{versioned}
use Rattle.child_events.proofs.judging.opened.Goals as goal

pub returns-in_err-version_of-clause-refused : goal.returns-in_err-version_of-clause-refused
returns-in_err-version_of-clause-refused c =
    let p = err_from_is_err_and c.from_residual.result c.from_residual.ensures.1 in
    rw (p.1, p.2) (versioned c.args.bytes.now c.in-Some.line.now c.in-Some.behind.now (Err c.in_err-version_of.field-0.0) c.in-Some.ensures.0 (sym c.version_of.ensures ∙ c.in_err-version_of.was))

pub returns-in-Counted-clause-found : goal.returns-in-Counted-clause-found
returns-in-Counted-clause-found c =
    let named = sym c.version_of.ensures ∙ c.in_ok-version_of.was ∙ ap Ok c.in-Counted.is in
    versioned c.args.bytes.now c.in-Some.line.now c.in-Some.behind.now (Ok (Counted c.in-Counted.numbers)) c.in-Some.ensures.0 named
