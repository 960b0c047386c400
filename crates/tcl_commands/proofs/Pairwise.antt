-- Elements of an array that are set one by one.
use Rattle.std.proofs.Common.{◌≡◌, ℕ, ◌+◌, ◌*◌, ◌<◌, ◌≤◌, List, [], ◌∷◌, length, drop, get_or, Result, Ok, Err, refl, sym, ap, ◌∙◌, arith, length-drop}
use Rattle.tcl_subst.specs.declared.faults.SubstFault.{SubstFault}
use Rattle.tcl_subst.specs.Filling.{element_name}
use Rattle.tcl_subst.specs.Variables.{Variables, with_value}
use Rattle.tcl_subst.specs.Writes.{set_to}
use Rattle.tcl_results.specs.declared.code.Code.TheVariants as code
use Rattle.tcl_commands.specs.Arrays.{set_elements}
use Rattle.tcl_results.specs.Said.{Outcome, on_changed}
use Rattle.tcl_results.specs.Texts.{not_set}
use Rattle.tcl_strings.proofs.Mapped.{drop_two}

module _ (name : List ℕ) (es : List (List ℕ)) (n : ℕ) (vars : Variables) (whole : Outcome) where
  set_is : 2 * n + 1 < length es
      → set_elements name (drop (2 * n) es) vars
      ≡ on_changed vars (not_set (element_name name (get_or es (2 * n) []))) (with_value (set_to (get_or es (2 * n + 1) [])) (element_name name (get_or es (2 * n) [])) vars) (set_elements name (drop (2 * (n + 1)) es))
  set_is some = ap (λ (l : List (List ℕ)). set_elements name l vars) (drop_two es n some)

  module _ (i value place text : List ℕ) (some : 2 * n + 1 < length es) (index : i ≡ get_or es (2 * n) []) (second : value ≡ get_or es (2 * n + 1) []) (named : text ≡ element_name name i) (same : place ≡ text) where
    place_is : place ≡ element_name name (get_or es (2 * n) [])
    place_is = same ∙ named ∙ ap (element_name name) index

    comes_to : (r : Result Variables SubstFault) → with_value (set_to value) place vars ≡ r → set_elements name (drop (2 * n) es) vars ≡ on_changed vars (not_set place) r (set_elements name (drop (2 * (n + 1)) es))
    comes_to r is =
        set_is some
        ∙ sym (ap (λ (p : List ℕ). on_changed vars (not_set p) (with_value (set_to (get_or es (2 * n + 1) [])) p vars) (set_elements name (drop (2 * (n + 1)) es))) place_is)
        ∙ sym (ap (λ (v : List ℕ). on_changed vars (not_set place) (with_value (set_to v) place vars) (set_elements name (drop (2 * (n + 1)) es))) second)
        ∙ ap (λ (o : Result Variables SubstFault). on_changed vars (not_set place) o (set_elements name (drop (2 * (n + 1)) es))) is

    -- the next element is set
    pub set_on : (new : Variables) → with_value (set_to value) place vars ≡ Ok new → set_elements name (drop (2 * n) es) vars ≡ whole → set_elements name (drop (2 * (n + 1)) es) new ≡ whole
    set_on new is was = sym (comes_to (Ok new) is) ∙ was

    -- the next element can't be set
    pub set_fails : (f : SubstFault) → with_value (set_to value) place vars ≡ Err f → set_elements name (drop (2 * n) es) vars ≡ whole → whole ≡ (code.Error, not_set place f, vars)
    set_fails f is was = sym was ∙ comes_to (Err f) is

few : (name : List ℕ) (es : List (List ℕ)) (vars : Variables) → length es ≤ 1 → set_elements name es vars ≡ set_elements name [] vars
few name [] vars one = refl
few name (i ∷ []) vars one = refl
few name (i ∷ value ∷ es) vars one = absurd (omega arith)

-- no pair is left
pub set_end : (name : List ℕ) (es : List (List ℕ)) (n : ℕ) (vars : Variables) (whole : Outcome) → length es ≤ 2 * n + 1
    → set_elements name (drop (2 * n) es) vars ≡ whole → set_elements name [] vars ≡ whole
set_end name es n vars whole all was = sym (few name (drop (2 * n) es) vars (omega (arith, length-drop (2 * n) es))) ∙ was
