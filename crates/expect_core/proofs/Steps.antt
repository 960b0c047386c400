-- Pairs that are stored, one after the other.
use Rattle.std.proofs.Common.{◌≡◌, ℕ, List, [], ◌∷◌, ◌++◌, append_assoc, ap, ◌∙◌}

-- two pairs, pushed one after the other
pub two_pushed : (old one both : List (List ℕ × List ℕ)) (n v n' v' N V N' V' : List ℕ) → n ≡ N → v ≡ V → n' ≡ N' → v' ≡ V' → one ≡ old ++ (n, v) ∷ [] → both ≡ one ++ (n', v') ∷ [] → both ≡ old ++ (N, V) ∷ (N', V') ∷ []
two_pushed old one both n v n' v' N V N' V' en ev en' ev' e e' =
    e'
    ∙ ap (λ (l : List (List ℕ × List ℕ)). l ++ (n', v') ∷ []) e
    ∙ append_assoc old ((n, v) ∷ []) ((n', v') ∷ [])
    ∙ ap (λ (x : List ℕ). old ++ (x, v) ∷ (n', v') ∷ []) en
    ∙ ap (λ (x : List ℕ). old ++ (N, x) ∷ (n', v') ∷ []) ev
    ∙ ap (λ (x : List ℕ). old ++ (N, V) ∷ (x, v') ∷ []) en'
    ∙ ap (λ (x : List ℕ). old ++ (N, V) ∷ (N', x) ∷ []) ev'
