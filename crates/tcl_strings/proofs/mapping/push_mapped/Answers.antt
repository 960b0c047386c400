use Rattle.std.proofs.Common.{Err, sym, ap, ◌∙◌}
use Rattle.tcl_strings.proofs.Mapped.{kept_over, put_over, put_on, key_some}
use Rattle.tcl_strings.proofs.mapping.push_mapped.Goals as goal

pub returns-in-Err-clause-long : goal.returns-in-Err-clause-long
returns-in-Err-clause-long c known =
    let over = c.in-Err.ensures.long known in
    kept_over c.args.nocase c.args.elements.now c.args.made.now c.args.rest.now c.requires c.front.result.now c.in-None.ensures c.front.ensures over.1 ∙ ap Err (sym over.0)

pub returns-in-Err-extend_limited-clause-long : goal.returns-in-Err-extend_limited-clause-long
returns-in-Err-extend_limited-clause-long c known =
    let over = c.in-Err-extend_limited.ensures.long known in
    put_over c.args.nocase c.args.elements.now c.args.made.now c.args.rest.now c.requires c.in-Some.key.now c.in-Some.value.now c.in-Some.ensures over.1 ∙ ap Err (sym over.0)

pub returns-in-Ok-extend_limited-clause-mapped : goal.returns-in-Ok-extend_limited-clause-mapped
returns-in-Ok-extend_limited-clause-mapped c =
    put_on c.args.nocase c.args.elements.now c.args.made.now c.extend_limited-in-Some.new.text c.args.rest.now c.in-Some.key.now c.in-Some.value.now c.in-Some.ensures c.requires c.in-Ok-extend_limited.ensures.extended

pub returns-in-Ok-extend_limited-clause-some : goal.returns-in-Ok-extend_limited-clause-some
returns-in-Ok-extend_limited-clause-some c = key_some c.args.nocase c.args.elements.now c.args.rest.now (c.in-Some.key.now, c.in-Some.value.now) c.in-Some.ensures
