use Rattle.std.proofs.Common.{◌≡◌, ◌∙◌, ap, length, rules, vec_len}
use Rattle.expect_prog.proofs.running.run_scripts.Goals as goal

pub drive_early-outcome-requires-clause-keepers : goal.drive_early-outcome-requires-clause-keepers
drive_early-outcome-requires-clause-keepers g c κs within =
    let size : vec_len c.args.scripts ≡ length c.args.scripts.items = search rules in
    c.in_ok-keepers.ensures ∙ ap length c.as_slice.ensures.value ∙ c.in_ok-cancellations.ensures ∙ c.len-count.ensures ∙ size

pub drive-requires-clause-keepers : goal.drive-requires-clause-keepers
drive-requires-clause-keepers g c κs within =
    let size : vec_len c.args.scripts ≡ length c.args.scripts.items = search rules in
    c.in_ok-keepers.ensures ∙ ap length c.as_slice.ensures.value ∙ c.in_ok-cancellations.ensures ∙ c.len-count.ensures ∙ size
