-- The instructions of a tree determine the tree.
use Rattle.std.specs.Prelude.{◌≡◌, List, [], ◌∷◌, ◌++◌, suc, length, refl}
use Rattle.std.proofs.Common.{ap, sym, ◌∙◌, append_assoc}
use Rattle.tcl_expr.specs.Tree.{Tree, number, word, operand, unary, binary, lazy, choice}
use Rattle.tcl_expr.specs.Instr.{Instr, apply, combine, test, truth, branch, skip, join, postfix, built, top, tree_of}

append_none : (xs : List Instr) → xs ++ [] ≡ xs
append_none [] = refl
append_none (x ∷ xs) = ap (λ l. x ∷ l) (append_none xs)

pub built-postfix : (t : Tree) (rest : List Instr) (ts : List Tree) → built (postfix t ++ rest) ts ≡ built rest (t ∷ ts)
unfolding postfix built
built-postfix (number z) rest ts = refl
built-postfix (word w) rest ts = refl
built-postfix (operand w) rest ts = refl
built-postfix (unary op t) rest ts =
    ap (λ c. built c ts) (append_assoc (postfix t) (apply op ∷ []) rest)
    ∙ built-postfix t (apply op ∷ rest) ts
built-postfix (binary op l r) rest ts =
    ap (λ c. built c ts) (append_assoc (postfix l) (postfix r ++ (combine op ∷ [])) rest)
    ∙ built-postfix l ((postfix r ++ (combine op ∷ [])) ++ rest) ts
    ∙ ap (λ c. built c (l ∷ ts)) (append_assoc (postfix r) (combine op ∷ []) rest)
    ∙ built-postfix r (combine op ∷ rest) (l ∷ ts)
built-postfix (lazy op l r) rest ts =
    ap (λ c. built c ts) (append_assoc (postfix l) (test op (suc (length (postfix r))) ∷ (postfix r ++ (truth op ∷ []))) rest)
    ∙ built-postfix l (test op (suc (length (postfix r))) ∷ ((postfix r ++ (truth op ∷ [])) ++ rest)) ts
    ∙ ap (λ c. built c (l ∷ ts)) (append_assoc (postfix r) (truth op ∷ []) rest)
    ∙ built-postfix r (truth op ∷ rest) (l ∷ ts)
built-postfix (choice c a b) rest ts =
    ap (λ k. built k ts) (append_assoc (postfix c) (branch (suc (length (postfix a))) ∷ (postfix a ++ (skip (length (postfix b)) ∷ (postfix b ++ (join ∷ []))))) rest)
    ∙ built-postfix c (branch (suc (length (postfix a))) ∷ ((postfix a ++ (skip (length (postfix b)) ∷ (postfix b ++ (join ∷ [])))) ++ rest)) ts
    ∙ ap (λ k. built k (c ∷ ts)) (append_assoc (postfix a) (skip (length (postfix b)) ∷ (postfix b ++ (join ∷ []))) rest)
    ∙ built-postfix a (skip (length (postfix b)) ∷ ((postfix b ++ (join ∷ [])) ++ rest)) (c ∷ ts)
    ∙ ap (λ k. built k (a ∷ c ∷ ts)) (append_assoc (postfix b) (join ∷ []) rest)
    ∙ built-postfix b (join ∷ rest) (a ∷ c ∷ ts)

pub tree_of-postfix : (t : Tree) → tree_of (postfix t) ≡ t
unfolding tree_of built
tree_of-postfix t = ap tree_of (sym (append_none (postfix t))) ∙ ap top (built-postfix t [] [])
