use Rattle.std.proofs.Common.{◌≡◌, ◌++◌, ◌∷◌, [], ◌+◌, ◌<◌, ◌≤◌, ℕ, List, zero, suc, length, take, Some, None, append_assoc, sym, ap, ◌∙◌, arith}
use Rattle.std.proofs.lemmas.List.{take_all}
use Rattle.std.proofs.lemmas.Option.{slice_get_within, get_or_from_slice_get}
use Rattle.std.proofs.Math.Seq.{take-suc}
use Rattle.std.specs.Prelude.{slice_get}
use Rattle.tcl_host.proofs.values.push_elements.Goals as goal

pub loop-value-preserved : goal.loop-value-preserved
loop-value-preserved c =
    let all : List (List ℕ) = c.args.elements.now in
    let at = c.loop-value.at in
    let value : List ℕ = c.in-Some.value in
    let here : slice_get all at ≡ Some value = sym c.in_ok-value.ensures ∙ c.in-Some.is in
    let within : at < length all = slice_get_within all at value here in
    let one_on : suc at ≡ at + 1 = omega arith in
    c.in_ok-push.ensures.items
    ∙ ap (λ (vs : List (List ℕ)). vs ++ value ∷ []) c.loop-value.invariant
    ∙ append_assoc c.args.list.now.items (take at all) (value ∷ [])
    ∙ ap (λ (v : List ℕ). c.args.list.now.items ++ (take at all ++ v ∷ [])) (sym (get_or_from_slice_get all at value [] here))
    ∙ ap (λ (vs : List (List ℕ)). c.args.list.now.items ++ vs) (sym (take-suc all at [] within))
    ∙ ap (λ (n : ℕ). c.args.list.now.items ++ take n all) one_on

past_end : (xs : List (List ℕ)) (i : ℕ) → slice_get xs i ≡ None → length xs ≤ i
past_end [] i none = omega arith
past_end (x ∷ xs) zero none = absurd (cc)
past_end (x ∷ xs) (suc i) none = omega (arith, past_end xs i none)

pub returns-clause-pushed : goal.returns-clause-pushed
returns-clause-pushed c =
    let all : List (List ℕ) = c.args.elements.now in
    let none : slice_get all c.loop-value.at ≡ None = sym c.in_ok-value.ensures ∙ c.in_default.is in
    c.loop-value.invariant ∙ ap (λ (vs : List (List ℕ)). c.args.list.now.items ++ vs) (take_all c.loop-value.at all (past_end all c.loop-value.at none))
