use Rattle.std.proofs.Common.{◌+◌, List, length, subst}
use Rattle.exp_glob.specs.declared.element.Element.{Element}
use Rattle.exp_glob.specs.Runs.{IsLeastRun}
use Rattle.exp_glob.proofs.Found.{is_first_span}
use Rattle.exp_glob.proofs.Greedy.{run_found, run_in}
use Rattle.exp_glob.proofs.pattern.Glob.find_run.Goals as goal

pub returns-clause-first : goal.returns-clause-first
returns-clause-first c =
    let least = subst (λ (es : List Element). IsLeastRun c.args.nocase es c.args.text.now c.args.from (length c.args.text.now + 1) c.least_run.result) c.as_slice.ensures c.least_run.ensures in
    run_found c.args.nocase c.args.text.now c.args.self.now c.args.from c.requires.anywhere c.requires.one_run c.requires.none_before _ least

pub returns-clause-value : goal.returns-clause-value
returns-clause-value c = is_first_span c.args.nocase c.args.text.now c.args.self.now _ (returns-clause-first c)

pub returns-clause-within : goal.returns-clause-within
returns-clause-within c =
    let least = subst (λ (es : List Element). IsLeastRun c.args.nocase es c.args.text.now c.args.from (length c.args.text.now + 1) c.least_run.result) c.as_slice.ensures c.least_run.ensures in
    run_in c.args.nocase c.args.text.now c.args.self.now c.args.from c.requires.anywhere c.requires.one_run c.requires.none_before _ least
