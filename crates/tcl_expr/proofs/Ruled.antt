-- A text is read as a tree just where the rules give it that tree.
use Rattle.std.proofs.Common.{◌≡◌, ℕ, Bool, true, false, List, [], length, drop, Ok, Err, eqb, refl, sym, ap, ◌∙◌, subst, length-drop, arith}
use Rattle.std.proofs.lemmas.Bool.{eqb-true, eq-eqb}
use Rattle.std.proofs.lemmas.List.{drop_all}
use Rattle.tcl_expr.specs.White.{gap}
use Rattle.tcl_expr.specs.Tree.{Tree}
use Rattle.tcl_expr.specs.Leaf.{Read}
use Rattle.tcl_expr.specs.Rules.{deepest, Rank, Phrase, IsExpression}
use Rattle.tcl_expr.specs.Grammar.{whole, inside_of, to_the_end, parsed}
use Rattle.tcl_expr.specs.declared.faults.ExprFault.TheVariants.{Syntax}
use Rattle.tcl_expr.proofs.Places.{past_gap}
use Rattle.tcl_expr.proofs.Derived.{whole_phrase}
use Rattle.tcl_expr.proofs.Followed.{whole_reads}

to_end : (s : List ℕ) (x : Read) (t : Tree) → to_the_end s x ≡ Ok t → x ≡ Ok (t, length s)
to_end s (Err e) t is = absurd (cc)
to_end s (Ok p) t is = by (eqb (length s) p.1) refl
  where
    by : (b : Bool) → eqb (length s) p.1 ≡ b → ◌≡◌ {A = Read} (Ok p) (Ok (t, length s))
    by true e =
        let same : to_the_end s (Ok p) ≡ Ok p.0 = rw e refl in
        let n : p.1 ≡ length s = sym (eqb-true (length s) p.1 e) in
        let tree : p.0 ≡ t = cc in
        ap (λ (n : ℕ). Ok (p.0, n)) n ∙ ap (λ (u : Tree). Ok (u, length s)) tree
    by false e = let no : to_the_end s (Ok p) ≡ Err Syntax = rw e refl in absurd (cc)

phrase_to_end : (d : ℕ) (s : List ℕ) (t : Tree) → to_the_end s (whole (inside_of d) s) ≡ Ok t → Phrase d Rank.whole s t []
phrase_to_end d s t is = subst (Phrase d Rank.whole s t) (drop_all (length s) s (omega arith)) (whole_phrase d s t (length s) (to_end s _ t is) (omega arith))

reads_to_end : (d : ℕ) (s : List ℕ) (t : Tree) → Phrase d Rank.whole s t [] → to_the_end s (whole (inside_of d) s) ≡ Ok t
reads_to_end d s t p =
    let w = whole_reads d s t p in
    let n : length s ≡ w.n = omega (arith, w.within, ap length w.rest, length-drop w.n s) in
    let all : eqb (length s) w.n ≡ true = eq-eqb (length s) w.n n in
    ap (to_the_end s) w.is ∙ rw all refl

pub is_expression : (text : List ℕ) (t : Tree) → parsed text ≡ Ok t → IsExpression text t
unfolding parsed
is_expression text t is = subst (λ s. Phrase deepest Rank.whole s t []) (sym (past_gap text 0)) (phrase_to_end deepest (drop (gap text 0) text) t is)

pub expression_is : (text : List ℕ) (t : Tree) → IsExpression text t → parsed text ≡ Ok t
unfolding parsed
expression_is text t p = reads_to_end deepest (drop (gap text 0) text) t (subst (λ s. Phrase deepest Rank.whole s t []) (past_gap text 0) p)

pub one_expression : (text : List ℕ) (t u : Tree) → IsExpression text t → IsExpression text u → t ≡ u
one_expression text t u p q =
    let first : parsed text ≡ Ok t = expression_is text t p in
    let second : parsed text ≡ Ok u = expression_is text u q in
    cc
