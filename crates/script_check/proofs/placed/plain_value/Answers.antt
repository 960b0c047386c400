use Rattle.std.proofs.Common.{◌≤◌, length, arith, sym}
use Rattle.script_check.proofs.Steps.{several_parts}
use Rattle.script_check.proofs.placed.plain_value.Goals as goal

pub returns-in-len2-up : goal.returns-in-len2-up
returns-in-len2-up c =
    let h : 2 ≤ length c.args.word.now.parts.items = grind arith in
    sym (several_parts c.args.word.now h)
