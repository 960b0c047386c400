use Rattle.std.proofs.Common.{add-one, ◌∙◌, arith}
use Rattle.dialogue_sched.proofs.Pairing.{PairedTo-set, Paired-from_to}
use Rattle.report_texts.specs.Masked.{IsMasked}
use Rattle.report_texts.proofs.masking.mask_all.Goals as goal

pub loop-i-preserved : goal.loop-i-preserved
loop-i-preserved c =
    let f = c.mask_at.ensures.masked in (
      rw (add-one, f.4) (PairedTo-set (IsMasked c.args.secrets.now) c.loop-i.i c.args.reports.now.items c.loop-i.reports.items f.0 f.1 c.loop-i.invariant.0 f.2 f.3),
      c.mask_at.ensures.same ∙ c.loop-i.invariant.1,
    )

pub returns-clause-masked : goal.returns-clause-masked
returns-clause-masked c =
    Paired-from_to (IsMasked c.args.secrets.now) c.loop-i.i c.args.reports.now.items c.loop-i.reports.items c.loop-i.invariant.0 (omega (arith, c.args.reports.now.ok.0))
