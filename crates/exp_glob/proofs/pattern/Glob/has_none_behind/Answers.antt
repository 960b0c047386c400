use Rattle.std.proofs.Common.{⊎_elim, arith}
use Rattle.exp_glob.proofs.pattern.Glob.has_none_behind.Goals as goal

pub returns : goal.returns
returns c = λ missing.
    let m = c.is_missing.ensures missing in (
      c.if-self.false,
      omega (arith, c.if-place-eq0.false),
      m.0,
      λ a b h. ⊎_elim (λ before. before) (λ at. absurd (m.2 at.0 at.1 at.2)) (c.literals-literals.ensures.ending m.1 c.args.text.now a b c.args.place h),
    )
