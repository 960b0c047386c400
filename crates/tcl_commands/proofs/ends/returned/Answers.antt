use Rattle.std.proofs.Common.{None, ◌<◌, length, drop, sym, ap, ◌∙◌, arith}
use Rattle.std.specs.Option.{option_copied}
use Rattle.tcl_commands.specs.Returns.{returned}
use Rattle.tcl_commands.proofs.Returned.{code_read, option_dropped}
use Rattle.tcl_commands.proofs.ends.returned.Goals.{then-is, else-is+else-not-is_dropped}
use Rattle.tcl_commands.proofs.ends.returned.Goals as goal

pub loop-rest-preserved : goal.loop-rest-preserved
loop-rest-preserved c =
    let some : 1 < length c.loop-rest.rest.now = omega (arith, c.loop-rest-test.true) in
    elim c.if-is.branch [
      | then-is w ↦
          ap (λ r. returned c.args.command.now r (option_copied c.if-is.code)) c.behind-rest.ensures
          ∙ ap (λ o. returned c.args.command.now (drop 2 c.loop-rest.rest.now) (option_copied o)) w.code-is
          ∙ code_read c.args.command.now (option_copied c.loop-rest.code) (returned c.args.command.now c.args.args.now None) c.loop-rest.rest.now c.arg-option.result.now c.arg-word.result.now
          some c.arg-option.ensures c.arg-word.ensures (sym c.is.ensures ∙ w.if-is.true) c.loop-rest.invariant
      | else-is+else-not-is_dropped w ↦
          ap (λ r. returned c.args.command.now r (option_copied c.if-is.code)) c.behind-rest.ensures
          ∙ ap (λ o. returned c.args.command.now (drop 2 c.loop-rest.rest.now) (option_copied o)) w.code-is
          ∙ option_dropped c.args.command.now (option_copied c.loop-rest.code) (returned c.args.command.now c.args.args.now None) c.loop-rest.rest.now c.arg-option.result.now c.arg-word.result.now
          some c.arg-option.ensures c.arg-word.ensures (sym c.is.ensures ∙ w.if-is.false) (sym w.is_dropped.ensures ∙ w.if-not-is_dropped.false) c.loop-rest.invariant
    ]
