-- A stack in two parts, the upper of which stands on the lower.
use Rattle.std.proofs.Common.{◌≡◌, ◌-◌, ◌<◌, List, [], ◌∷◌, ◌++◌, reverse, length, drop, ap, sym, ◌∙◌, arith}
use Rattle.std.proofs.Math.ListN.{set}
use Rattle.std.proofs.lemmas.List.{reverse-append, length-reverse}
use Rattle.tcl_expr.specs.declared.stack.StackEntry.{StackEntry}
use Rattle.tcl_expr.specs.Stack.{first}
use Rattle.tcl_expr.proofs.Serving.{reverse_set, drop_one}

-- below the only one of the upper part
pub second_between : (low high : List StackEntry) → length high ≡ 1 → first (reverse low) ≡ first (drop 1 (reverse (low ++ high)))
second_between low [] h = absurd (omega (arith, h))
second_between low (x ∷ []) h = ap (λ l. first (drop 1 l)) (sym (reverse-append low (x ∷ [])))
second_between low (x ∷ (y ∷ high)) h = absurd (omega (arith, h))

-- another one on top of the upper part
pub set_high : (low high : List StackEntry) (x : StackEntry) → 0 < length high → reverse (low ++ set high (length high - 1) x) ≡ x ∷ drop 1 (reverse (low ++ high))
set_high low high x h =
    reverse-append low (set high (length high - 1) x)
    ∙ ap (λ l. l ++ reverse low) (reverse_set high x h)
    ∙ ap (λ l. x ∷ l) (sym (drop_one (reverse high) (reverse low) (rw length-reverse h)))
    ∙ ap (λ l. x ∷ drop 1 l) (sym (reverse-append low high))
