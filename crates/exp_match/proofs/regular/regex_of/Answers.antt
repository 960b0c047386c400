use Rattle.std.proofs.Common.{rules, ◌≡◌, subst, sym, false}
use Rattle.regex.specs.Patterns.{Config}
use Rattle.exp_match.specs.Unbuilt.{IsOfRegular, refusal_of}
use Rattle.exp_match.specs.Written.{Written, config_of}
use Rattle.exp_match.proofs.Unbuilding.{tells_of_entry}
use Rattle.exp_match.proofs.regular.regex_of.Goals as goal

pub returns-in-Err-clause-refused : goal.returns-in-Err-clause-refused
returns-in-Err-clause-refused c =
    let builder = c.multi_line-builder.result in
    let made : Config = record (builder.config) { utf8 = false } in
    let same : made ≡ config_of c.args.nocase c.args.lines = search rules in
    let written : builder.source.now ≡ c.args.given.now = search rules in
    λ source is for.
    let w : Written = record { source = source; nocase = c.args.nocase; lines = c.args.lines } in
    let told : IsOfRegular w (refusal_of c.in-Err.error) =
    tells_of_entry c.args.nocase c.args.lines made source c.args.given.now builder.source.now c.in-Err.error same written is for c.in-Err.ensures.refused c.in-Err.ensures.kind in
    subst (IsOfRegular w) (sym c.refusal_for.ensures) told
