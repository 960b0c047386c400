use Rattle.std.proofs.Common.{◌<◌, subst, arith}
use Rattle.std.proofs.lemmas.List.Elements.{All-from_get_or}
use Rattle.std.specs.Bool.{then_some}
use Rattle.regex.specs.Bytes.{matcher_pattern}
use Rattle.exp_match.specs.Written.{IsReadAs}
use Rattle.exp_match.proofs.Answering.{is_find_from}
use Rattle.exp_match.proofs.Reaching.{AreBytes}
use Rattle.exp_match.proofs.Shown.{found_as_written}
use Rattle.exp_match.proofs.matcher.Searcher.find_from.Goals as goal

pub returns-clause-written : goal.returns-clause-written
returns-clause-written c =
    let r = c.self.inside in
    let w = c.args.self.now in
    let bytes = c.args.bytes.now in
    let are : AreBytes bytes = All-from_get_or (λ x. x < 256) bytes 0 (λ i h. omega (arith, c.type_inv.bytes i)) in
    let read : IsReadAs w (matcher_pattern r.matcher) = subst (λ v. IsReadAs v (matcher_pattern r.matcher)) c.self.view_is c.self.invariant.0 in
    found_as_written w (matcher_pattern r.matcher) read bytes c.args.start are (then_some c.first_match.result c.first_match.new.spans) c.first_match.ensures.shows

pub returns-clause-found : goal.returns-clause-found
returns-clause-found c =
    is_find_from c.args.self.now c.args.bytes.now c.args.start (then_some c.first_match.result c.first_match.new.spans) c.first_match.ensures.ten (returns-clause-written c)
