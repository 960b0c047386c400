-- How far a pattern under a repetition reaches, and what its beginning is.
use Rattle.std.proofs.Common.{◌≡◌, ℕ, zero, suc, ◌+◌, ◌-◌, ◌*◌, ◌<◌, max, Bool, true, false, ◌&&◌, ◌||◌, if◌then◌else◌, Option, None, Some, refl, sym, ap, ap₂, ◌∙◌, arith}
use Rattle.std.proofs.Math.Nat.{mul-add}
use Rattle.regex_hir.specs.Re.{Re, cat, plus}
use Rattle.regex_hir.specs.Meaning.{copies, optional, up_to, repeat}
use Rattle.exp_match.specs.Reach.{of_both, reach, is_nullable, beginning}

module _ (a : Re) (once : ℕ) (is : reach a ≡ Some once) where
  pub reach_copies : (n : ℕ) (b : Re) (rest : ℕ) → reach b ≡ Some rest → reach (copies n a b) ≡ Some (once * n + rest)
  reach_copies zero b rest behind = behind ∙ ap Some (omega arith)
  reach_copies (suc n) b rest behind = ap₂ (of_both (λ x y. x + y)) is (reach_copies n b rest behind) ∙ ap Some (omega arith)

  reach_optional : (greedy : Bool) (b : Re) (n : ℕ) → reach b ≡ Some n → reach (optional greedy b) ≡ Some n
  reach_optional true b n at = ap (λ o. of_both max o (Some 0)) at ∙ ap Some (omega arith)
  reach_optional false b n at = ap (λ o. of_both max (Some 0) o) at ∙ ap Some (omega arith)

  reach_up_to : (greedy : Bool) (n : ℕ) → reach (up_to greedy n a) ≡ Some (once * n)
  reach_up_to greedy zero = ap Some (omega arith)
  reach_up_to greedy (suc n) =
      reach_optional greedy (cat a (up_to greedy n a)) (once * suc n)
      (ap₂ (of_both (λ x y. x + y)) is (reach_up_to greedy n) ∙ ap Some (omega arith))

  pub reach_repeat : (least most : ℕ) (greedy : Bool) → reach (repeat least (Some most) greedy a) ≡ Some (once * max least most)
  unfolding repeat
  reach_repeat least most greedy =
      let rounds : least + (most - least) ≡ max least most = omega arith in
      reach_copies least (up_to greedy (most - least) a) (once * (most - least)) (reach_up_to greedy (most - least))
      ∙ ap Some (sym (mul-add once least (most - least)) ∙ ap (λ (n : ℕ). once * n) rounds)

or_true : (t : Bool) → (t || true) ≡ true
or_true true = refl
or_true false = refl

nullable_optional : (greedy : Bool) (b : Re) → is_nullable (optional greedy b) ≡ true
nullable_optional true b = or_true (is_nullable b)
nullable_optional false b = refl

nullable_up_to : (greedy : Bool) (n : ℕ) (a : Re) → is_nullable (up_to greedy n a) ≡ true
nullable_up_to greedy zero a = refl
nullable_up_to greedy (suc n) a = nullable_optional greedy (cat a (up_to greedy n a))

-- what may be repeated no time may be empty
pub nullable_from_none : (most : Option ℕ) (greedy : Bool) (a : Re) → is_nullable (repeat 0 most greedy a) ≡ true
unfolding repeat
nullable_from_none None greedy a = nullable_optional greedy (plus greedy a)
nullable_from_none (Some most) greedy a = nullable_up_to greedy (most - 0) a

module _ (a : Re) (is : is_nullable a ≡ true) where
  nullable_copies : (n : ℕ) (b : Re) → is_nullable b ≡ true → is_nullable (copies n a b) ≡ true
  nullable_copies zero b last = last
  nullable_copies (suc n) b last = ap₂ (λ s t. s && t) is (nullable_copies n b last)

  nullable_all : (n : ℕ) (most : Option ℕ) (greedy : Bool) → is_nullable (repeat (suc n) most greedy a) ≡ true
  unfolding repeat
  nullable_all n None greedy = nullable_copies n (plus greedy a) is
  nullable_all n (Some most) greedy = nullable_copies (suc n) (up_to greedy (most - suc n) a) (nullable_up_to greedy (most - suc n) a)

-- what takes a byte at each place
module _ (a : Re) (takes : is_nullable a ≡ false) where
  takes_first : (b : Re) → is_nullable (cat a b) ≡ false
  takes_first b = ap (λ t. t && is_nullable b) takes

  takes_loop : (greedy : Bool) (n : ℕ) → is_nullable (copies n a (plus greedy a)) ≡ false
  takes_loop greedy zero = takes
  takes_loop greedy (suc n) = takes_first (copies n a (plus greedy a))

  takes_all : (n : ℕ) (most : Option ℕ) (greedy : Bool) → is_nullable (repeat (suc n) most greedy a) ≡ false
  unfolding repeat
  takes_all n None greedy = takes_loop greedy n
  takes_all n (Some most) greedy = takes_first (copies n a (up_to greedy (most - suc n) a))

  begins_whole : (b : Re) → is_nullable b ≡ false → beginning (cat a b) ≡ cat a (beginning b)
  begins_whole b is = ap (λ t. if t then beginning a else cat a (beginning b)) is

  begins_loop : (greedy : Bool) (n : ℕ) → beginning (copies n a (plus greedy a)) ≡ copies n a (beginning a)
  begins_loop greedy zero = refl
  begins_loop greedy (suc n) =
      begins_whole (copies n a (plus greedy a)) (takes_loop greedy n) ∙ ap (cat a) (begins_loop greedy n)

  begins_copies : (n : ℕ) (b : Re) → is_nullable b ≡ true → beginning (copies (suc n) a b) ≡ copies n a (beginning a)
  begins_copies zero b is = ap (λ t. if t then beginning a else cat a (beginning b)) is
  begins_copies (suc n) b is = begins_whole (copies (suc n) a b) (takes_first (copies n a b)) ∙ ap (cat a) (begins_copies n b is)

  -- a match begins with the least rounds, of which the last one has to begin alone
  pub begins_repeat : (n : ℕ) (most : Option ℕ) (greedy : Bool) → beginning (repeat (suc n) most greedy a) ≡ copies n a (beginning a)
  unfolding repeat
  begins_repeat n None greedy = begins_loop greedy n
  begins_repeat n (Some most) greedy = begins_copies n (up_to greedy (most - suc n) a) (nullable_up_to greedy (most - suc n) a)

nullable_from_one : (t : Bool) (a : Re) → is_nullable a ≡ t → (n : ℕ) (most : Option ℕ) (greedy : Bool) → is_nullable (repeat (suc n) most greedy a) ≡ t
nullable_from_one true a is n most greedy = nullable_all a is n most greedy
nullable_from_one false a is n most greedy = takes_all a is n most greedy

pub nullable_from_some : (least : ℕ) (most : Option ℕ) (greedy : Bool) (a : Re) → 0 < least → is_nullable (repeat least most greedy a) ≡ is_nullable a
nullable_from_some least most greedy a some =
    let is : least ≡ suc (least - 1) = omega arith in
    ap (λ n. is_nullable (repeat n most greedy a)) is ∙ nullable_from_one (is_nullable a) a refl (least - 1) most greedy
