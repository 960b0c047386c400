use Rattle.std.proofs.Common.{◌≡◌, ℕ, List, [], ◌++◌, take, ap, sym, ◌∙◌, append-nil, rules}
use Rattle.std.specs.Prelude.{IfSome, Option, Some, None}
use Rattle.std.specs.Io.KnownBytes.{Consumes, IsAtEnd}
use Rattle.report_texts.proofs.devices.read_all.Goals as goal

-- a last read gave nothing
all_read : (a b c : Option (List ℕ)) (text piece : List ℕ) (n : ℕ) → Consumes a b text → Consumes b c (take n piece) → n ≡ 0 → IsAtEnd c
    → IfSome a (λ bytes. text ≡ bytes)
all_read None b c text piece n p q e end = tt
all_read (Some x) None c text piece n p q e end = absurd p
all_read (Some x) (Some y) None text piece n p q e end = absurd q
all_read (Some x) (Some y) (Some z) text piece n p q e end =
    let none : y ≡ [] = q ∙ (ap (λ k. take k piece ++ z) e ∙ end) in
    sym (p ∙ ap (λ l. text ++ l) none ∙ append-nil text)

pub returns-then-count-eq0-clause-bytes : goal.returns-then-count-eq0-clause-bytes
returns-then-count-eq0-clause-bytes g c =
    all_read _ _ _ _ _ _ c.reads.invariant.took c.in-Ok.ensures.bytes.0 c.if-count-eq0.true
    (c.in-Ok.ensures.bytes.1 c.if-count-eq0.true (search rules))
