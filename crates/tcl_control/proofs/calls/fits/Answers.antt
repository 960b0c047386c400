use Rattle.std.proofs.Common.{◌-◌, ℕ, List, length, take, drop, is_some, sym, ap, ◌∙◌}
use Rattle.tcl_control.specs.Procs.{bound}
use Rattle.tcl_control.proofs.Fits.{fits_on}
use Rattle.tcl_control.proofs.calls.fits.Goals as goal

pub loop-rest-preserved : goal.loop-rest-preserved
loop-rest-preserved c =
    let rest = c.loop-rest.rest.now in
    ap (λ (l : List (List ℕ)). is_some (bound (take (length rest - 1) (drop 1 rest)) l)) c.behind-left.ensures
    ∙ fits_on c.formal-item.result rest c.loop-rest.left.now (is_some (bound c.args.formals.now c.args.args.now)) c.formal-item.is c.in-len1-up.len_at_least
    (sym c.takes_all.ensures ∙ c.if-takes_all.false) (sym c.has_value.ensures ∙ c.if-not-has_value.false) c.loop-rest.invariant
