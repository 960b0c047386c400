use Rattle.std.proofs.Common.{◌≡◌, ℕ, zero, suc, ◌+◌, Bool, true, false, ◌||◌, List, [], ◌∷◌, drop, Some, bytes_eq, sym, ap, ◌∙◌, arith}
use Rattle.std.specs.List.{list_any, slice_get}
use Rattle.tcl_expr.proofs.items.is_element.Goals as goal

any_here : (f : List ℕ → Bool) (l : List (List ℕ)) (i : ℕ) (x : List ℕ) → slice_get l i ≡ Some x → list_any f (drop i l) ≡ (f x || list_any f (drop (suc i) l))
any_here f [] i x e = absurd (cc)
any_here f (y ∷ l) zero x e = let same : y ≡ x = cc in ap (λ (z : List ℕ). f z || list_any f l) same
any_here f (y ∷ l) (suc i) x e = any_here f l i x e

pub returns-then-is_same : goal.returns-then-is_same
returns-then-is_same c =
    let f = bytes_eq c.args.text.now in
    let l = c.args.elements.now in
    let i = c.loop-index.index in
    let hit : f c.in-Some.element.now ≡ true = sym c.is_same.ensures ∙ c.if-is_same.true in
    sym (sym c.loop-index.invariant ∙ any_here f l i c.in-Some.element.now (sym c.in-Some.ensures) ∙ ap (λ b. b || list_any f (drop (suc i) l)) hit)

pub loop-index-preserved : goal.loop-index-preserved
loop-index-preserved c =
    let f = bytes_eq c.args.text.now in
    let l = c.args.elements.now in
    let i = c.loop-index.index in
    let miss : f c.in-Some.element.now ≡ false = sym c.is_same.ensures ∙ c.if-is_same.false in
    let next : i + 1 ≡ suc i = omega arith in
    ap (λ (k : ℕ). list_any f (drop k l)) next
    ∙ sym (any_here f l i c.in-Some.element.now (sym c.in-Some.ensures) ∙ ap (λ b. b || list_any f (drop (suc i) l)) miss)
    ∙ c.loop-index.invariant
