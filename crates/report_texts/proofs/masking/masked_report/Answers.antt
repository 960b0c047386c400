use Rattle.std.proofs.Common.{◌≡◌, inl, List, [], ◌∷◌, length, false, refl, sym, ◌∙◌}
use Rattle.std.specs.Prelude.{◌==◌}
use Rattle.std.proofs.lemmas.Bool.{both_ways}
use Rattle.secret_words.specs.declared.secrets.Secret.{Secret}
use Rattle.session.specs.declared.report.Report.{Report}
use Rattle.report_texts.specs.Masked.{masked_report, shown_report}
use Rattle.report_texts.proofs.masking.masked_report.Goals as goal

masked_some : (ss : List Secret) (r : Report) → (length ss == 0) ≡ false → masked_report ss r ≡ shown_report ss r
masked_some [] r none = absurd (both_ways (0 == 0) none refl)
masked_some (s ∷ ss) r none = refl

pub returns-in-Ok : goal.returns-in-Ok
returns-in-Ok c = inl (c.in-Ok.ensures ∙ sym (masked_some c.args.secrets.now c.args.report (sym c.is_empty.ensures ∙ c.if-is_empty.false)))
