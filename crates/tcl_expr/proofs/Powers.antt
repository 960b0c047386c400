-- Powers and shifts by a great number: any greater one gives the same.
use Rattle.std.proofs.Common.{◌≡◌, ℕ, zero, suc, ◌+◌, ◌*◌, ◌/◌, ◌%◌, ◌^◌, ◌<◌, ◌≤◌, min, Bool, true, false, Err, ℤ, pos, negsuc, neg_ℤ, ◌*ℤ◌, nat_lt, ◌==◌, if◌then◌else◌, refl, sym, ap, ◌∙◌, inl, inr, arith}
use Rattle.std.proofs.lemmas.Bool.Decides.{nat_tests, leb_tells}
use Rattle.std.proofs.Math.Nat.{pow-succ', pow-le-pow_left, zero-mul, one-mul, mul-le-mul, div-eq_of_lt}
use Rattle.std.proofs.lemmas.Int.{to_z-of_z}
use Rattle.std.proofs.Math.Pow.{pow-lt, pow_mono}
use Rattle.std.proofs.lemmas.Nat.{pow_pos}
use mir.Syntax.{w64, w128}
use mir.Val.{to_z, of_z}
use Rattle.std.specs.Int.{int_pow}
use Rattle.std.specs.Int.Signed.{mag, mag_shr, shr_z}
use Rattle.std.specs.Int.RustNames.{FitsSigned}
use Rattle.tcl_expr.specs.declared.faults.ExprFault.TheVariants.{Overflow}
use Rattle.tcl_expr.specs.Value.{checked, floor_div}

-- ---- outside 64 bits

under : (n t : ℕ) → t < n → nat_lt n t ≡ false
under n t h = grind (arith, nat_tests)

under_suc : (n t : ℕ) → t < suc n → nat_lt n t ≡ false
under_suc n t h = grind (arith, nat_tests)

over_pos : (n : ℕ) → 2 ^ 63 < n → checked (pos n) ≡ Err Overflow
over_pos n h = rw (under n (2 ^ 63) h) refl

over_neg : (n : ℕ) → 2 ^ 63 < n → checked (neg_ℤ (pos n)) ≡ Err Overflow
over_neg zero h = absurd (omega arith)
over_neg (suc n) h = rw (under_suc n (2 ^ 63) h) refl

over_either : (b : Bool) (n : ℕ) → 2 ^ 63 < n → checked (if b then pos n else neg_ℤ (pos n)) ≡ Err Overflow
over_either true n h = over_pos n h
over_either false n h = over_neg n h

-- ---- powers

zero_pow : (e : ℕ) → 0 < e → 0 ^ e ≡ 0
zero_pow zero h = absurd (omega arith)
zero_pow (suc e) h = pow-succ' 0 e ∙ zero-mul (0 ^ e)

one_pow : (e : ℕ) → 1 ^ e ≡ 1
one_pow zero = refl
one_pow (suc e) = pow-succ' 1 e ∙ one-mul (1 ^ e) ∙ one_pow e

between : (a b c d : ℕ) → a < b → b ≤ c → c ≤ d → a < d
between a b c d h i j = omega arith

great : (n e : ℕ) → 64 ≤ e → 2 ^ 63 < suc (suc n) ^ e
great n e h =
    let two : 2 ≤ suc (suc n) = omega arith in
    let more : 63 < 64 = omega arith in
    between (2 ^ 63) (2 ^ 64) (2 ^ e) (suc (suc n) ^ e) (pow-lt more) (pow_mono h) (pow-le-pow_left two e)

same_power : (z : ℤ) (e f : ℕ) → 64 ≤ e → 64 ≤ f → e % 2 ≡ f % 2 → checked (int_pow z e) ≡ checked (int_pow z f)
same_power (pos zero) e f h i p = rw (zero_pow e (omega arith), zero_pow f (omega arith)) refl
same_power (pos (suc zero)) e f h i p = rw (one_pow e, one_pow f) refl
same_power (pos (suc (suc n))) e f h i p = over_pos (suc (suc n) ^ e) (great n e h) ∙ sym (over_pos (suc (suc n) ^ f) (great n f i))
same_power (negsuc zero) e f h i p = rw (one_pow e, one_pow f, p) refl
same_power (negsuc (suc n)) e f h i p =
    over_either (e % 2 == 0) (suc (suc n) ^ e) (great n e h) ∙ sym (over_either (f % 2 == 0) (suc (suc n) ^ f) (great n f i))

pub least_power : (z : ℤ) (e : ℕ) → 64 ≤ e → checked (int_pow z (64 + e % 2)) ≡ checked (int_pow z e)
least_power z e h = same_power z (64 + e % 2) e (omega arith) h (omega arith)

-- ---- shifts

times : (a x : ℕ) → x ≤ suc a * x
times a x = grind arith

more_than : (a n : ℕ) → 64 ≤ n → 2 ^ 63 < suc a * 2 ^ n
more_than a n h =
    let more : 63 < n = omega arith in
    between (2 ^ 63) (2 ^ n) (2 ^ n) (suc a * 2 ^ n) (pow-lt more) (omega arith) (times a (2 ^ n))

same_scale : (z : ℤ) (m n : ℕ) → 64 ≤ m → 64 ≤ n → checked (z *ℤ pos (2 ^ m)) ≡ checked (z *ℤ pos (2 ^ n))
same_scale (pos zero) m n h i = rw (zero-mul (2 ^ m), zero-mul (2 ^ n)) refl
same_scale (pos (suc a)) m n h i = over_pos (suc a * 2 ^ m) (more_than a m h) ∙ sym (over_pos (suc a * 2 ^ n) (more_than a n i))
same_scale (negsuc a) m n h i = over_neg (suc a * 2 ^ m) (more_than a m h) ∙ sym (over_neg (suc a * 2 ^ n) (more_than a n i))

pub least_scale : (z : ℤ) (k n : ℕ) → k ≡ min n 64 → checked (z *ℤ pos (2 ^ k)) ≡ checked (z *ℤ pos (2 ^ n))
least_scale z k n e =
    elim (leb_tells n 64) [
      | inl p ↦ (let same : k ≡ n = omega (arith, p.1) in ap (λ (i : ℕ). checked (z *ℤ pos (2 ^ i))) same)
      | inr p ↦ (let same : k ≡ 64 = omega (arith, p.1) in ap (λ (i : ℕ). checked (z *ℤ pos (2 ^ i))) same ∙ same_scale z 64 n (omega arith) (omega (arith, p.1)))
    ]

none_left : (a n : ℕ) → a < 2 ^ 63 → 63 ≤ n → a / 2 ^ n ≡ 0
none_left a n h i = div-eq_of_lt (between a (2 ^ 63) (2 ^ n) (2 ^ n) h (pow_mono i) (omega arith))

same_halves : (z : ℤ) (n : ℕ) → FitsSigned w64 z → 63 ≤ n → shr_z z (2 ^ 63) ≡ shr_z z (2 ^ n)
same_halves (pos a) n f h = ap pos (none_left a 63 f.sfits (omega arith) ∙ sym (none_left a n f.sfits h))
same_halves (negsuc a) n f h = ap negsuc (none_left a 63 f.sfits (omega arith) ∙ sym (none_left a n f.sfits h))

floor_is : (z : ℤ) (m : ℕ) → shr_z z m ≡ floor_div z (pos m)
floor_is (pos a) m = let no : nat_lt m 0 ≡ false = grind (arith, nat_tests) in rw no refl
floor_is (negsuc a) m = let no : nat_lt m 0 ≡ false = grind (arith, nat_tests) in rw no refl

pub least_halves : (z : ℤ) (k n : ℕ) → FitsSigned w64 z → k ≡ min n 63 → shr_z z (2 ^ k) ≡ floor_div z (pos (2 ^ n))
least_halves z k n f e =
    elim (leb_tells n 63) [
      | inl p ↦ (let same : k ≡ n = omega (arith, p.1) in ap (λ (i : ℕ). shr_z z (2 ^ i)) same ∙ floor_is z (2 ^ n))
      | inr p ↦ (let same : k ≡ 63 = omega (arith, p.1) in ap (λ (i : ℕ). shr_z z (2 ^ i)) same ∙ same_halves z n f (omega (arith, p.1)) ∙ floor_is z (2 ^ n))
    ]

-- ---- at the widths of the code

wide_number : (z : ℤ) → FitsSigned w64 z → FitsSigned w128 z
wide_number z f = record { sfits = let more : 63 ≤ 127 = omega arith in between (mag z) (2 ^ 63) (2 ^ 127) (2 ^ 127) f.sfits (pow_mono more) (omega arith) }

wide_power : (k : ℕ) → k ≤ 64 → FitsSigned w128 (pos (2 ^ k))
wide_power k h = record { sfits = let more : k < 127 = omega arith in pow-lt more }

bounded : (a k : ℕ) → a < 2 ^ 63 → k ≤ 64 → suc a * 2 ^ k ≤ 2 ^ 127
bounded a k h i = let one : suc a ≤ 2 ^ 63 = h in mul-le-mul one (pow_mono i)

below_next : (a x t : ℕ) → 0 < x → suc a * x ≤ t → a * x < t
below_next a x t h i = let e : suc a * x ≡ x + a * x = grind arith in omega arith

neg_below : (p t : ℕ) → p ≤ t → 0 < t → mag (neg_ℤ (pos p)) < t
neg_below zero t h i = i
neg_below (suc p) t h i = h

pub wide : (z : ℤ) (k : ℕ) → FitsSigned w64 z → k ≤ 64 → FitsSigned w128 (z *ℤ pos (2 ^ k))
wide (pos a) k f h = record { sfits = below_next a (2 ^ k) (2 ^ 127) (pow_pos k) (bounded a k f.sfits h) }
wide (negsuc a) k f h = record { sfits = neg_below (suc a * 2 ^ k) (2 ^ 127) (bounded a k f.sfits h) (pow_pos 127) }

pub widened : (z x f : ℤ) (k : ℕ) → FitsSigned w64 z → k ≤ 64 → x ≡ to_z w64 (of_z w64 z) → f ≡ pos (2 ^ k)
    → (to_z w128 (of_z w128 x) *ℤ to_z w128 (of_z w128 f)) ≡ z *ℤ pos (2 ^ k)
widened z x f k fits h e i =
    let number : to_z w128 (of_z w128 x) ≡ z = ap (λ (y : ℤ). to_z w128 (of_z w128 y)) (e ∙ to_z-of_z w64 z fits) ∙ to_z-of_z w128 z (wide_number z fits) in
    let factor : to_z w128 (of_z w128 f) ≡ pos (2 ^ k) = ap (λ (y : ℤ). to_z w128 (of_z w128 y)) i ∙ to_z-of_z w128 (pos (2 ^ k)) (wide_power k h) in
    ap (λ (y : ℤ). y *ℤ to_z w128 (of_z w128 f)) number ∙ ap (λ (y : ℤ). z *ℤ y) factor

pub shifted : (z : ℤ) (m : ℕ) → FitsSigned w64 z → to_z w64 (of_z w64 (shr_z (to_z w64 (of_z w64 z)) m)) ≡ shr_z z m
shifted z m f =
    let fits : FitsSigned w64 (shr_z z m) = record { sfits = let less = mag_shr z m in omega (arith, f.sfits) } in
    ap (λ (y : ℤ). to_z w64 (of_z w64 (shr_z y m))) (to_z-of_z w64 z f) ∙ to_z-of_z w64 (shr_z z m) fits
