use Rattle.std.proofs.Common.{◌≡◌, ℕ, ◌*◌, length, drop, min, ap, ◌∙◌, arith}
use Rattle.tcl_control.proofs.Grouped.{cut_at}
use Rattle.tcl_control.proofs.groups.start_of.Goals as goal

pub returns : goal.returns
returns c =
    let es = c.args.elements.now in
    let cut : c.min.result ≡ min (c.args.turn * c.args.size) (length es) = omega (arith, c.min.ensures, c.saturating_mul.ensures, c.len.ensures) in
    ap (λ (n : ℕ). drop n es) cut ∙ cut_at (c.args.turn * c.args.size) (length es) es (omega arith)
