-- The longest front of a pattern that matches, one element after the other.
use Rattle.std.proofs.Common.{◌≡◌, ℕ, zero, suc, ◌-◌, ◌<◌, List, Bool, true, false, take, sym, ap, ◌∙◌, arith}
use Rattle.std.specs.Prelude.{if◌then◌else◌}
use Rattle.exp_glob.specs.declared.element.Element.{Element}
use Rattle.course_texts.specs.Patterns.{glob_text}
use Rattle.course_texts.specs.Nearest.{is_found, most_found}

module _ (anchored : Bool) (es : List Element) (nocase : Bool) (bytes : List ℕ) where
  abbrev found : ℕ → Bool
  found n = is_found (glob_text anchored (take n es)) nocase bytes

  abbrev most : ℕ → ℕ
  most n = most_found anchored es nocase bytes n

  pub found_here : (n : ℕ) → 0 < n → found n ≡ true → most n ≡ n
  found_here zero low h = absurd (omega (arith, low))
  found_here (suc n) low h = ap (λ (t : Bool). if t then suc n else most n) h

  pub found_less : (n : ℕ) → 0 < n → found n ≡ false → most n ≡ most (n - 1)
  found_less zero low h = absurd (omega (arith, low))
  found_less (suc n) low h =
      let back : suc n - 1 ≡ n = omega arith in
      ap (λ (t : Bool). if t then suc n else most n) h ∙ sym (ap most back)
