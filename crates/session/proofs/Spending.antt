-- Reports of sessions, where what they say is known.
use Rattle.std.proofs.Common.{◌≡◌, [], Bool, true, false, refl, ◌∙◌, inl, inr}
use Rattle.std.specs.Prelude.{IsTrue, ◌⊎◌}
use Rattle.session.specs.declared.report.Report.{Report}
use Rattle.session.specs.Left.{Kept, left}
use Rattle.session.specs.Spent.{memory_report, Reports}

pub reported : (k : Kept) (r m : Report) → Reports k r → (IsTrue k.lives → left k [] ≡ m) → (r ≡ m) ⊎ (r ≡ memory_report)
reported k r m reports says = by_life k.lives refl
  where
    or_memory : IsTrue k.lives → (r ≡ left k []) ⊎ (r ≡ memory_report) → (r ≡ m) ⊎ (r ≡ memory_report)
    or_memory lives (inl is) = inl (is ∙ says lives)
    or_memory lives (inr none) = inr none

    by_life : (b : Bool) → k.lives ≡ b → (r ≡ m) ⊎ (r ≡ memory_report)
    by_life true lives = or_memory lives (reports.lives lives)
    by_life false spent = inr (reports.spent spent)
