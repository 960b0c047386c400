use Rattle.std.proofs.Common.{rules, map, option_map, subst}
use Rattle.std.specs.String.{string_bytes}
use Rattle.regex_syntax.specs.Verdict.{Reads}
use Rattle.exp_match.proofs.Reached.{text_opens}
use Rattle.exp_match.proofs.reach.opening_of_text.Goals as goal

pub returns : goal.returns
returns c =
    let parsed = c.in_ok-parsed.parsed in
    let names = map (option_map string_bytes) parsed.names.items in
    let reads : Reads c.config.result c.args.given.now parsed.hir names = search rules in
    λ source for.
    text_opens c.args.given.now c.args.nocase c.args.lines parsed.hir names (subst (λ k. Reads k c.args.given.now parsed.hir names) c.config.ensures reads)
    c.extent_of-known.result.opening c.extent_of-known.ensures.begins source for
