use Rattle.std.proofs.Common.{◌≡◌, [], ◌≤◌, Some, None, Ok, length, append-nil, ap, ◌∙◌, arith}
use Rattle.tcl_words.specs.Commands.{next_command}
use Rattle.tcl_words.specs.Pieces.{command_view}
use Rattle.script_check.specs.Readings.{readings}
use Rattle.script_check.proofs.Steps.{readings_go, readings_turn, readings_over, viewed, fails_are}
use Rattle.script_check.proofs.readings.read.Goals as goal

pub commands-preserved : goal.commands-preserved
commands-preserved c =
    let s = c.commands.rest.now in
    let q : next_command s 0 ≡ Ok (Some (command_view c.in-Ok-Some.command, c.in-Ok-Some.n)) = c.in-Ok-Some.ensures.value ∙ ap viewed c.in-Ok-Some.field-0-is in
    let h : 1 ≤ length s = grind arith in
    let e = readings_turn c.args.end s c.commands.list.items (command_view c.in-Ok-Some.command) c.in-Ok-Some.n h q in
    grind arith

pub returns-in-Ok-None : goal.returns-in-Ok-None
returns-in-Ok-None c =
    let s = c.commands.rest.now in
    let q : next_command s 0 ≡ Ok None = c.in-Ok-None.ensures.value ∙ ap viewed c.in-Ok-None.field-0-is in
    let h : 1 ≤ length s = grind arith in
    let e : readings c.args.end s ≡ [] = readings_go c.args.end s h _ q in
    grind (arith, append-nil)

pub returns-in-Err : goal.returns-in-Err
returns-in-Err c =
    let s = c.commands.rest.now in
    let q = fails_are _ (next_command s 0) c.in_ok-told-in-Err.ensures.1 c.in-Err.ensures.value in
    let h : 1 ≤ length s = grind arith in
    let e = readings_go c.args.end s h _ q in
    grind arith

pub returns : goal.returns
returns c =
    let h : length c.commands.rest.now ≡ 0 = grind arith in
    let e = readings_over c.args.end c.commands.rest.now (omega arith) in
    grind (arith, append-nil)
