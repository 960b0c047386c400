use Rattle.std.proofs.Common.{ap, option_map}
use Rattle.exp_match.specs.Written.{seen_of}
use Rattle.exp_match.proofs.Shown.{groups_shown}
use Rattle.exp_match.proofs.Within.{found_within}
use Rattle.exp_match.proofs.matcher.first_match.Goals as goal

pub returns-in-Some-clause-shows : goal.returns-in-Some-clause-shows
returns-in-Some-clause-shows c =
    let f = c.in-Some.ensures.found in
    (seen_of f.0, ap (option_map seen_of) f.1, groups_shown c.in-Some.captures f.0 c.args.bytes.now f.2 c.spans_of.result c.spans_of.ensures.are)

pub returns-in-Some-clause-within : goal.returns-in-Some-clause-within
returns-in-Some-clause-within c =
    let f = c.in-Some.ensures.found in
    found_within _ c.args.bytes.now c.args.start f.0 f.1 c.spans_of.result c.spans_of.ensures.ten
    (groups_shown c.in-Some.captures f.0 c.args.bytes.now f.2 c.spans_of.result c.spans_of.ensures.are)
