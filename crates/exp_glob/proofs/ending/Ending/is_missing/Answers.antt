use Rattle.std.proofs.Common.{◌≤◌, ◌-◌, List, ℕ, sym, subst, arith}
use Rattle.std.proofs.lemmas.Bool.Decides.{nat_tests}
use Rattle.memchr.specs.Find.{OccursAt}
use Rattle.exp_glob.proofs.Starts.{occurs_behind}
use Rattle.exp_glob.proofs.ending.Ending.is_missing.Goals as goal
use Rattle.exp_glob.proofs.ending.Ending.is_missing.Goals.{then-self-place, else-self-place}

pub returns-in-None : goal.returns-in-None
returns-in-None c = λ _. (
  omega (arith, c.if-text-place.false),
  grind (arith, nat_tests),
  λ k near o.
      let from = c.if-self-place.from in
      let low : from ≤ k
      = elim c.if-self-place.branch [
        | then-self-place w ↦ omega (arith, w.from-is, w.if-self-place.true)
        | else-self-place w ↦ omega (arith, w.from-is)
      ] in
      let there = occurs_behind c.args.text.now c.args.self.now.bytes.items c.after.result.now from k (k - from) c.after.ensures (omega arith) o in
      let needle : OccursAt c.after.result.now c.as_slice.result.now (k - from)
      = subst (λ (n : List ℕ). OccursAt c.after.result.now n (k - from)) (sym c.as_slice.ensures.value) there in
      c.in-None.ensures (k - from) (omega arith) (omega (arith, there.fits)) needle,
)
