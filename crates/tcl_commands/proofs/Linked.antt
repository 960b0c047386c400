-- Names that are linked pair by pair.
use Rattle.std.proofs.Common.{◌≡◌, ℕ, ◌+◌, ◌*◌, ◌<◌, ◌≤◌, List, [], ◌∷◌, length, drop, get_or, Ok, Err, refl, sym, ap, ◌∙◌, arith, length-drop}
use Rattle.tcl_subst.specs.Variables.{Variables}
use Rattle.tcl_results.specs.Said.{Said, Outcome, told, on_said}
use Rattle.tcl_commands.specs.Upvars.{link_pair, link_pairs}
use Rattle.tcl_strings.proofs.Mapped.{drop_two}

module _ (calls : ℕ) (names : List (List ℕ)) (n : ℕ) (vars : Variables) (whole : Outcome) where
  module _ (other my : List ℕ) (some : 2 * n + 1 < length names) (first : other ≡ get_or names (2 * n) []) (second : my ≡ get_or names (2 * n + 1) []) where
    comes_to : (r : Said Variables) → link_pair calls other my vars ≡ r → link_pairs calls (drop (2 * n) names) vars ≡ on_said r vars (link_pairs calls (drop (2 * (n + 1)) names))
    comes_to r is =
        ap (λ (l : List (List ℕ)). link_pairs calls l vars) (drop_two names n some)
        ∙ sym (ap (λ (o : List ℕ). on_said (link_pair calls o (get_or names (2 * n + 1) []) vars) vars (link_pairs calls (drop (2 * (n + 1)) names))) first)
        ∙ sym (ap (λ (m : List ℕ). on_said (link_pair calls other m vars) vars (link_pairs calls (drop (2 * (n + 1)) names))) second)
        ∙ ap (λ (o : Said Variables). on_said o vars (link_pairs calls (drop (2 * (n + 1)) names))) is

    -- the next pair is linked
    pub linked_on : (new : Variables) → link_pair calls other my vars ≡ Ok new → link_pairs calls (drop (2 * n) names) vars ≡ whole → link_pairs calls (drop (2 * (n + 1)) names) new ≡ whole
    linked_on new is was = sym (comes_to (Ok new) is) ∙ was

    -- the next pair can't be linked
    pub linked_fails : (text : List ℕ) → link_pair calls other my vars ≡ Err text → link_pairs calls (drop (2 * n) names) vars ≡ whole → whole ≡ told (Err text) vars
    linked_fails text is was = sym was ∙ comes_to (Err text) is

few : (calls : ℕ) (names : List (List ℕ)) (vars : Variables) → length names ≤ 1 → link_pairs calls names vars ≡ told (Ok []) vars
few calls [] vars one = refl
few calls (other ∷ []) vars one = refl
few calls (other ∷ my ∷ more) vars one = absurd (omega arith)

-- no pair is left
pub linked_end : (calls : ℕ) (names : List (List ℕ)) (n : ℕ) (vars : Variables) (whole : Outcome) → length names ≤ 2 * n + 1
    → link_pairs calls (drop (2 * n) names) vars ≡ whole → whole ≡ told (Ok []) vars
linked_end calls names n vars whole all was = sym was ∙ few calls (drop (2 * n) names) vars (omega (arith, length-drop (2 * n) names))
