use Rattle.std.proofs.Common.{◌≡◌, None, Some, Option, true, sym, ◌∙◌}
use Rattle.std.specs.Prelude.{is_some}
use Rattle.script_runs.proofs.Writers.{still_put}
use Rattle.script_runs.proofs.logging.LogWriterRecorder.note.Goals as goal

not_none : {F : Type 0} (o : Option F) → is_some o ≡ true → o ≡ None → ⊥
not_none None some none = cc
not_none (Some f) some none = cc

pub returns-then-is_some : goal.returns-then-is_some
returns-then-is_some g c =
    let some = sym c.is_some.ensures ∙ c.if-is_some.true in
    record { put = λ before text has. still_put g.L.Write.contents before text _ c.args.self.now some has; counted = λ none. absurd (not_none c.args.self.now.fault some none) }
