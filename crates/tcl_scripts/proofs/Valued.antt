-- Words whose values are known one after another.
use Rattle.std.proofs.Common.{◌≡◌, ℕ, zero, suc, ◌<◌, ◌≤◌, List, [], ◌∷◌, ◌++◌, drop, length, get_or, refl, sym, ap, subst, ◌∙◌, append_assoc, arith}
use Rattle.std.proofs.lemmas.List.{drop_all, append-nil}
use Rattle.tcl_words.specs.Pieces.{Spelled}
use Rattle.tcl_scripts.specs.Literals.{IsLiteral, AreLiterals}

here : (words : List Spelled) (at next : ℕ) (w : Spelled) → next ≡ suc at → w ≡ get_or words at w → at < length words → drop at words ≡ w ∷ drop next words
here [] at next w step is h = absurd (omega arith)
here (x ∷ words) zero next w step is h = ap (λ y. y ∷ words) (sym is) ∙ ap (λ n. w ∷ drop n (x ∷ words)) (sym step)
here (x ∷ words) (suc at) next w step is h = here words at (suc at) w refl is (omega arith) ∙ ap (λ n. w ∷ drop n (x ∷ words)) (sym step)

-- one word more has its value
pub one_literal : (words : List Spelled) (values more : List (List ℕ)) (at next : ℕ) (w : Spelled) (v : List ℕ) → next ≡ suc at → w ≡ get_or words at w → at < length words → IsLiteral w v → more ≡ values ++ v ∷ []
    → ((vs : List (List ℕ)) → AreLiterals (drop at words) vs → AreLiterals words (values ++ vs)) → (vs : List (List ℕ)) → AreLiterals (drop next words) vs → AreLiterals words (more ++ vs)
one_literal words values more at next w v step is h one pushed all vs rest =
    let now : AreLiterals (drop at words) (v ∷ vs) = subst (λ (l : List Spelled). AreLiterals l (v ∷ vs)) (sym (here words at next w step is h)) (one, rest) in
    subst (AreLiterals words) (sym (append_assoc values (v ∷ []) vs) ∙ ap (λ l. l ++ vs) (sym pushed)) (all (v ∷ vs) now)

-- all of them have theirs
pub all_literals : (words : List Spelled) (values : List (List ℕ)) (at : ℕ) → length words ≤ at → ((vs : List (List ℕ)) → AreLiterals (drop at words) vs → AreLiterals words (values ++ vs)) → AreLiterals words values
all_literals words values at h all =
    subst (AreLiterals words) (append-nil values) (all [] (subst (λ (l : List Spelled). AreLiterals l []) (sym (drop_all at words h)) tt))
