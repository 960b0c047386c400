-- What is written when elements stand behind others.
use Rattle.std.proofs.Common.{◌≡◌, ℕ, true, false, List, [], ◌∷◌, ◌++◌, length, ◌-◌, ◌<◌, ◌≤◌, take, drop, Ok, Err, refl, sym, ap, ◌∙◌, append_assoc, length-append, ◌+◌, arith}
use Rattle.std.proofs.lemmas.Grind.{common_steps}
use Rattle.std.proofs.lemmas.Bool.Decides.{nat_tests}
use Rattle.tcl_words.specs.Lists.{balances, written_element, written_rest, written, ReadsAs}
use Rattle.tcl_values.specs.declared.faults.GrowFault.TheVariants.{TooLong}
use Rattle.tcl_values.specs.Lists.{within, grown, with_elements}

rest_grown : (es more : List (List ℕ)) → written_rest (es ++ more) ≡ written_rest es ++ written_rest more
rest_grown [] more = refl
rest_grown (e ∷ es) more = ap (λ s. (32 ∷ written_element false e) ++ s) (rest_grown es more) ∙ sym (append_assoc (32 ∷ written_element false e) (written_rest es) (written_rest more))

-- what is written of one element at least stays the written text once more elements are written behind it
pub written_grown : (es more : List (List ℕ)) (text behind grown : List ℕ) (copies all : List (List ℕ)) → (length es ≡ 0 → ⊥) → text ≡ written es → behind ≡ written_rest more → grown ≡ text ++ behind
    → copies ≡ more → all ≡ es ++ copies → grown ≡ written all
written_grown [] more text behind grown copies all some whole rest is alike both = absurd (some refl)
written_grown (e ∷ es) more text behind grown copies all some whole rest is alike both =
    is ∙ ap (λ t. t ++ behind) whole ∙ ap (λ b. written (e ∷ es) ++ b) rest
    ∙ append_assoc (written_element true e) (written_rest es) (written_rest more) ∙ sym (ap (λ s. written_element true e ++ s) (rest_grown es more))
    ∙ sym (ap written (both ∙ ap (λ m. (e ∷ es) ++ m) alike))

-- a list with more elements
pub elements_grown : (limit : ℕ) (text : List ℕ) (es more : List (List ℕ)) (all : List ℕ) → ReadsAs text es → all ≡ written (es ++ more) → with_elements limit text more ≡ within limit all
elements_grown limit text es more all reads is = ap (λ o. grown limit more o) reads ∙ ap (λ t. within limit t) (sym is)

-- what has room, and what has none
pub room_for : (limit : ℕ) (text behind all : List ℕ) → length text + length behind ≤ limit → all ≡ text ++ behind → within limit all ≡ Ok all
room_for limit text behind all room is = let long : length all ≡ length text + length behind = ap length is ∙ length-append text behind in grind (arith, nat_tests)

pub no_room_for : (limit : ℕ) (text behind : List ℕ) → limit < length text + length behind → within limit (text ++ behind) ≡ Err TooLong
no_room_for limit text behind none = let long : length (text ++ behind) ≡ length text + length behind = length-append text behind in grind (arith, nat_tests)
