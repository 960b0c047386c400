use Rattle.std.proofs.Common.{◌≡◌, vec_len}
use Rattle.dialogue_sched.proofs.Pairing.{PairedTo}
use Rattle.report_texts.specs.Masked.{IsMasked}
use Rattle.report_texts.proofs.masking.mask_all.Given as goal

abbrev pub invariant-loop-i : goal.invariant-loop-i
invariant-loop-i l = (PairedTo (IsMasked l.secrets) l.i l.fn.reports.items l.reports.items) × (vec_len l.reports ≡ vec_len l.fn.reports)
