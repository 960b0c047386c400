use Rattle.std.proofs.Common.{◌≡◌, ◌<◌, ℕ, length, drop, sym, subst, ap, ◌∙◌, ◌∷◌, List, arith}
use Rattle.std.proofs.lemmas.List.{drop_more}
use Rattle.exp_glob.specs.declared.literal.Literal.{Literal}
use Rattle.exp_glob.proofs.Starts.{has_literal}
use Rattle.exp_glob.proofs.literal.lacks_literal.Goals as goal

pub returns-in-len1-up : goal.returns-in-len1-up
returns-in-len1-up c = λ missing nocase es a b are h.
    let sought = c.sought-item.result in
    let rest = c.after.result.now in
    let ls = c.args.literals.now.runs.items in
    let first : rest ≡ sought ∷ drop 1 rest
    = drop_more rest 0 sought (omega (arith, c.in-len1-up.len_at_least)) ∙ ap (λ (l : Literal). l ∷ drop 1 rest) (sym c.sought-item.is) in
    let behind : drop c.args.literals.now.ahead ls ≡ sought ∷ drop 1 rest
    = ap (λ (l : List Literal). drop c.args.literals.now.ahead l) (sym c.as_slice.ensures.value) ∙ sym c.after.ensures ∙ first in
    let p = c.is_missing.ensures missing in
    let bytes : c.as_slice-in-len1-up.result.now ≡ sought.bytes.items = c.as_slice-in-len1-up.ensures.value in
    let some : 0 < length sought.bytes.items = subst (λ (l : List ℕ). 0 < length l) bytes p.0 in
    let at = has_literal nocase c.args.text.now es ls (drop 1 rest) sought c.args.literals.now.ahead a b are behind some h in
    p.1 at.0 (rw bytes at.1)
