-- The patterns and bodies of a `switch` from a place on, a pair more.
use Rattle.std.proofs.Common.{◌≡◌, ℕ, suc, ◌+◌, ◌-◌, ◌<◌, ◌≤◌, Bool, true, false, cond, List, [], ◌∷◌, length, drop, get_or, Option, Some, None, Ok, Err, if◌then◌else◌, sym, ap, ◌∙◌, arith, length-drop, refl}
use Rattle.std.specs.Prelude.{nat_le}
use Rattle.std.proofs.lemmas.Bool.Decides.{nat_tests}
use Rattle.std.proofs.Math.Seq.{drop-cons}
use Rattle.tcl_results.specs.declared.ways.Way.{Way}
use Rattle.tcl_results.specs.Said.{Said, ◌>>=◌}
use Rattle.tcl_control.specs.Choosing.{is_dash, body, is_taken, is_over, chosen}

over_is : (l : List (List ℕ)) → is_over l ≡ nat_le (length l) 0
over_is [] = refl
over_is (w ∷ ws) = grind (arith, nat_tests)

fewer : (n m : ℕ) → nat_le (n - m) 0 ≡ nat_le n m
fewer n m = grind (arith, nat_tests)

module _ (ws : List (List ℕ)) (n : ℕ) where
  module _ (some : 1 < length ws - n) where
    within : n + 1 < length ws
    within = omega (arith, some)

    pair : drop n ws ≡ get_or ws n [] ∷ get_or ws (n + 1) [] ∷ drop (n + 2) ws
    pair =
        let first : n < length ws = omega (arith, some) in
        let next : suc n ≡ n + 1 = omega arith in
        let last : suc (n + 1) ≡ n + 2 = omega arith in
        drop-cons ws n [] first
        ∙ ap (λ (m : ℕ). get_or ws n [] ∷ drop m ws) next
        ∙ ap (λ (l : List (List ℕ)). get_or ws n [] ∷ l) (drop-cons ws (n + 1) [] within ∙ ap (λ (m : ℕ). get_or ws (n + 1) [] ∷ drop m ws) last)

    body_is : body (drop n ws) ≡ cond (is_dash (get_or ws (n + 1) [])) (body (drop (n + 2) ws)) (Some (get_or ws (n + 1) []))
    body_is = ap body pair

    pub body_on : is_dash (get_or ws (n + 1) []) ≡ true → body (drop (n + 2) ws) ≡ body (drop n ws)
    body_on is = sym (body_is ∙ ap (λ (b : Bool). cond b (body (drop (n + 2) ws)) (Some (get_or ws (n + 1) []))) is)

    pub body_at : is_dash (get_or ws (n + 1) []) ≡ false → body (drop n ws) ≡ Some (get_or ws (n + 1) [])
    body_at is = body_is ∙ ap (λ (b : Bool). cond b (body (drop (n + 2) ws)) (Some (get_or ws (n + 1) []))) is

    over : is_over (drop (n + 2) ws) ≡ nat_le (length ws) (n + 2)
    over = over_is (drop (n + 2) ws) ∙ ap (λ (m : ℕ). nat_le m 0) (length-drop (n + 2) ws) ∙ fewer (length ws) (n + 2)

    module _ (way : Way) (text : List ℕ) where
      abbrev taken : Said Bool
      taken = is_taken way text (get_or ws n []) (nat_le (length ws) (n + 2))

      -- what comes of the test of the next pattern
      abbrev by_test : Said Bool → Said (Option (List ℕ))
      by_test s = s >>= λ t. if t then Ok (body (drop n ws)) else chosen way text (drop (n + 2) ws)

      case_is : chosen way text (drop n ws) ≡ by_test taken
      case_is =
          ap (chosen way text) pair
          ∙ ap (λ (l : List (List ℕ)). is_taken way text (get_or ws n []) (is_over (drop (n + 2) ws)) >>= λ t. if t then Ok (body l) else chosen way text (drop (n + 2) ws)) (sym pair)
          ∙ ap (λ (b : Bool). by_test (is_taken way text (get_or ws n []) b)) over

      pub case_on : (b : Bool) → is_taken way text (get_or ws n []) (nat_le (length ws) (n + 2)) ≡ Ok b → b ≡ false → chosen way text (drop (n + 2) ws) ≡ chosen way text (drop n ws)
      case_on b is unfit = sym (case_is ∙ ap by_test is ∙ ap (λ (b : Bool). by_test (Ok b)) unfit)

      pub case_at : (b : Bool) (found : Option (List ℕ)) → is_taken way text (get_or ws n []) (nat_le (length ws) (n + 2)) ≡ Ok b → b ≡ true → found ≡ body (drop n ws) → chosen way text (drop n ws) ≡ Ok found
      case_at b found is fit same = case_is ∙ ap by_test is ∙ ap (λ (b : Bool). by_test (Ok b)) fit ∙ ap (λ (o : Option (List ℕ)). Ok o) (sym same)

      pub case_bad : (fault : List ℕ) → is_taken way text (get_or ws n []) (nat_le (length ws) (n + 2)) ≡ Err fault → chosen way text (drop n ws) ≡ Err fault
      case_bad fault is = case_is ∙ ap by_test is

-- fewer than two words have no body
short_body : (l : List (List ℕ)) → length l ≤ 1 → body l ≡ None
short_body [] h = refl
short_body (p ∷ []) h = refl
short_body (p ∷ b ∷ more) h = absurd (omega (arith, h))

short_case : (way : Way) (text : List ℕ) (l : List (List ℕ)) → length l ≤ 1 → chosen way text l ≡ Ok None
short_case way text [] h = refl
short_case way text (p ∷ []) h = refl
short_case way text (p ∷ b ∷ more) h = absurd (omega (arith, h))

module _ (ws : List (List ℕ)) (n : ℕ) (all : length ws - n ≤ 1) where
  short : length (drop n ws) ≤ 1
  short = omega (arith, all, length-drop n ws)

  pub body_end : body (drop n ws) ≡ None
  body_end = short_body (drop n ws) short

  pub case_end : (way : Way) (text : List ℕ) → chosen way text (drop n ws) ≡ Ok None
  case_end way text = short_case way text (drop n ws) short
