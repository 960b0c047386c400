use Rattle.std.proofs.Common.{◌≡◌, ℕ, List, ◌<◌, ◌≤◌, ◌++◌, ◌∷◌, [], Option, Ok, Some, IfOk, IfSome, length, ap, sym, subst, ◌∙◌}
use Rattle.tcl_words.specs.declared.shapes.Command.{Command as Cmd}
use Rattle.tcl_words.specs.Commands.{next_command}
use Rattle.tcl_words.specs.Pieces.{Spelled, command_view, words_view}
use Rattle.tcl_scripts.specs.Commands.{commands, commands_within}
use Rattle.tcl_scripts.specs.declared.script.Reading.{Reading}
use Rattle.tcl_scripts.specs.declared.script.Reading.TheVariants.{Command}
use Rattle.tcl_scripts.proofs.OneMore.{one_more, no_more, malformed, first, viewed}
use Rattle.tcl_scripts.proofs.script.readings.Goals as goal

pub commands-init : goal.commands-init
commands-init c =
    let f = first c.args.source.now in
    (f.0, f.1, f.2, f.3 ∙ ap (λ (xs : List Reading). xs ++ commands_within f.0 c.args.source.now 0) (sym c.new-readings.ensures.items))

pub commands-preserved : goal.commands-preserved
commands-preserved c =
    let i = c.commands.invariant in
    let q : next_command c.args.source.now c.commands.at ≡ Ok (Some (command_view c.in-Ok-Some.command, c.in-Ok-Some.to)) = c.in-Ok-Some.ensures.value ∙ ap viewed c.in-Ok-Some.field-0-is in
    let w : (c.commands.at < c.in-Ok-Some.to) × (c.in-Ok-Some.to ≤ length c.args.source.now) = subst (λ (o : Option (Cmd × ℕ)). IfSome o (λ x. (c.commands.at < x.1) × (x.1 ≤ length c.args.source.now))) c.in-Ok-Some.field-0-is c.in-Ok-Some.ensures.within in
    let m = one_more c.commands.readings.items (commands c.args.source.now) c.args.source.now c.commands.at i.0 i.1 i.2 i.3 (command_view c.in-Ok-Some.command) c.in-Ok-Some.to q w.0 in
    let e = c.in_ok-push-in-Ok-Some.ensures.items ∙ ap (λ (ws : List Spelled). c.commands.readings.items ++ Command c.commands.at ws ∷ []) (c.in_ok-words-in-Ok-Some.ensures ∙ ap words_view c.as_slice.ensures.value) in
    (m.0, w.1, m.1, m.2 ∙ ap (λ (xs : List Reading). xs ++ commands_within m.0 c.args.source.now c.in-Ok-Some.to) (sym e))

pub returns-in-Ok-None : goal.returns-in-Ok-None
returns-in-Ok-None c =
    let i = c.commands.invariant in
    sym (no_more c.commands.readings.items (commands c.args.source.now) c.args.source.now c.commands.at i.0 i.1 i.2 i.3 (c.in-Ok-None.ensures.value ∙ ap viewed c.in-Ok-None.field-0-is))

pub returns-in-Err : goal.returns-in-Err
returns-in-Err c =
    let i = c.commands.invariant in
    let e = malformed c.commands.readings.items (commands c.args.source.now) c.args.source.now c.commands.at i.0 i.1 i.2 i.3 _ (c.in_ok-fault-in-Err.ensures (next_command c.args.source.now c.commands.at) c.in-Err.ensures.value) in
    c.in_ok-push-in-Err.ensures.items ∙ sym e
