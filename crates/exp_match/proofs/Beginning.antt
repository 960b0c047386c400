-- A match of a pattern begins where one of its beginning does, and nowhere else.
use Rattle.std.proofs.Common.{◌≡◌, inl, inr, ℕ, Bool, true, false, if◌then◌else◌, List, refl, sym, ⊎_elim, true≢false}
use Rattle.std.proofs.lemmas.Bool.{and_parts, or_cases}
use Rattle.regex_hir.specs.Re.{Re, empty, literal, byte_in, char_in, look, cat, alt, group, plus}
use Rattle.regex_hir.specs.Matches.{Matches, Rounds, one_round, next_round}
use Rattle.exp_match.specs.Reach.{beginning, is_nullable}

-- where a loop leads from, its first round does
first_round : (R : ℕ → ℕ → Type 0) (i j : ℕ) → Rounds R i j → (k : ℕ) × R i k
first_round R i j (one_round _ r) = (j, r)
first_round R i j (next_round l _ before r) = first_round R i l before

module _ (hay : List ℕ) where
  -- a pattern matches something from this place
  abbrev pub Begins : Re → ℕ → Type 0
  Begins re i = (j : ℕ) × Matches hay re i j

  -- what may be empty matches nothing anywhere
  nothing : (re : Re) (i : ℕ) → is_nullable re ≡ true → Matches hay re i i
  nothing empty i is = refl
  nothing (literal bs) i is = absurd (true≢false (sym is))
  nothing (byte_in ranges) i is = absurd (true≢false (sym is))
  nothing (char_in ranges) i is = absurd (true≢false (sym is))
  nothing (look l) i is = absurd (true≢false (sym is))
  nothing (cat a b) i is =
      let both = and_parts (is_nullable a) (is_nullable b) is in
      (i, nothing a i both.0, nothing b i both.1)
  nothing (alt a b) i is =
      ⊎_elim (λ (left : is_nullable a ≡ true). inl (nothing a i left)) (λ (right : is_nullable b ≡ true). inr (nothing b i right))
      (or_cases (is_nullable a) (is_nullable b) is)
  nothing (group n a) i is = nothing a i is
  nothing (plus greedy a) i is = one_round i (nothing a i is)

  one_of : (t : Bool) (a b : Re) (i : ℕ) → Begins a i → Begins b i → Begins (if t then a else b) i
  one_of true a b i first second = first
  one_of false a b i first second = second

  by_test : (t : Bool) (a b re : Re) (i : ℕ) → (t ≡ true → Begins a i → Begins re i) → (Begins b i → Begins re i) → Begins (if t then a else b) i → Begins re i
  by_test true a b re i first second s = first refl s
  by_test false a b re i first second s = second s

  pub sooner : (re : Re) (i j : ℕ) → Matches hay re i j → Begins (beginning re) i
  sooner empty i j s = (j, s)
  sooner (literal bs) i j s = (j, s)
  sooner (byte_in ranges) i j s = (j, s)
  sooner (char_in ranges) i j s = (j, s)
  sooner (look l) i j s = (j, s)
  sooner (cat a b) i j s =
      let rest = sooner b s.0 j s.2 in
      one_of (is_nullable b) (beginning a) (cat a (beginning b)) i (sooner a i s.0 s.1) (rest.0, (s.0, s.1, rest.1))
  sooner (alt a b) i j s =
      elim s [
        | inl left ↦ let first = sooner a i j left in (first.0, inl first.1)
        | inr right ↦ let second = sooner b i j right in (second.0, inr second.1)
      ]
  sooner (group n a) i j s = sooner a i j s
  sooner (plus greedy a) i j s =
      let first = first_round (Matches hay a) i j s in
      sooner a i first.0 first.1

  pub later : (re : Re) (i j : ℕ) → Matches hay (beginning re) i j → Begins re i
  later empty i j s = (j, s)
  later (literal bs) i j s = (j, s)
  later (byte_in ranges) i j s = (j, s)
  later (char_in ranges) i j s = (j, s)
  later (look l) i j s = (j, s)
  later (cat a b) i j s =
      by_test (is_nullable b) (beginning a) (cat a (beginning b)) (cat a b) i
      (λ is h. let front = later a i h.0 h.1 in (front.0, (front.0, front.1, nothing b front.0 is)))
      (λ h. let rest = later b h.1.0 h.0 h.1.2 in (rest.0, (h.1.0, h.1.1, rest.1)))
      (j, s)
  later (alt a b) i j s =
      elim s [
        | inl left ↦ let first = later a i j left in (first.0, inl first.1)
        | inr right ↦ let second = later b i j right in (second.0, inr second.1)
      ]
  later (group n a) i j s = later a i j s
  later (plus greedy a) i j s = let first = later a i j s in (first.0, one_round first.0 first.1)
