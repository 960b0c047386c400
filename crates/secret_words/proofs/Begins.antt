-- The first bytes of a text.
use Rattle.std.proofs.Common.{◌≡◌, ◌≤◌, ℕ, Bool, true, false, eqb, List, [], ◌∷◌, ◌++◌, length, refl, sym, ap, ◌∙◌, inl, inr, arith}
use Rattle.std.specs.Prelude.{nat_lt, ◌&&◌}
use Rattle.std.specs.List.{starts_with}
use Rattle.std.proofs.lemmas.Bool.{both_ways, ltb-false, lt-ltb, le-ltb, eqb-true, eq-eqb, and_parts, and_cases, and_from, and_left, and_right}
use Rattle.secret_words.specs.Masking.{begins}

pub starts_begins : (front text : List ℕ) → starts_with eqb text front ≡ begins front text
starts_begins [] text = refl
starts_begins (b ∷ front) [] = refl
starts_begins (b ∷ front) (c ∷ text) = ap (λ (t : Bool). eqb b c && t) (starts_begins front text)

-- A front is not longer than its text.
pub begins_le : (front text : List ℕ) → begins front text ≡ true → length front ≤ length text
begins_le [] text h = omega arith
begins_le (b ∷ front) [] h = absurd (both_ways (begins (b ∷ front) []) refl h)
begins_le (b ∷ front) (c ∷ text) h = let le = begins_le front text (and_parts (eqb b c) (begins front text) h).1 in omega (arith, le)

-- If a text is no proper front of these bytes, more bytes don't change whether it begins with them.
pub begins_more : (front text more : List ℕ) → (nat_lt (length text) (length front) && begins text front) ≡ false → begins front (text ++ more) ≡ begins front text
begins_more [] text more h = refl
begins_more (b ∷ front) [] more h =
    absurd (both_ways (nat_lt 0 (length (b ∷ front)) && true) h (and_from (nat_lt 0 (length (b ∷ front))) true (lt-ltb 0 (length (b ∷ front)) (omega arith)) refl))
begins_more (b ∷ front) (c ∷ text) more h = by (λ less. begins_more front text more less) (eqb b c) refl
  where
    turned : eqb b c ≡ true → eqb c b ≡ true
    turned same = eq-eqb c b (sym (eqb-true b c same))

    rest : eqb b c ≡ true → (eqb c b && begins text front) ≡ false → begins text front ≡ false
    rest same none = ap (λ (t : Bool). t && begins text front) (sym (turned same)) ∙ none

    less : eqb b c ≡ true → (nat_lt (length text) (length front) && begins text front) ≡ false
    less same = elim (and_cases (nat_lt (length (c ∷ text)) (length (b ∷ front))) (eqb c b && begins text front) h) [
      | inl long ↦ and_left (nat_lt (length text) (length front)) (begins text front) (le-ltb (length text) (length front) (let k = ltb-false (length (c ∷ text)) (length (b ∷ front)) long in omega (arith, k)))
      | inr none ↦ and_right (nat_lt (length text) (length front)) (begins text front) (rest same none)
    ]

    by : ((nat_lt (length text) (length front) && begins text front) ≡ false → begins front (text ++ more) ≡ begins front text) → (t : Bool) → eqb b c ≡ t → (eqb b c && begins front (text ++ more)) ≡ (eqb b c && begins front text)
    by again false differ = ap (λ (t : Bool). t && begins front (text ++ more)) differ ∙ sym (ap (λ (t : Bool). t && begins front text) differ)
    by again true same = ap (λ (t : Bool). eqb b c && t) (again (less same))
