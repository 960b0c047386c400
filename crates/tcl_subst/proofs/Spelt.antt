-- Bytes as the number that they spell, the greatest first.
use Rattle.std.proofs.Common.{◌≡◌, ℕ, zero, suc, ◌+◌, ◌*◌, ◌%◌, ◌^◌, ◌<◌, ◌≤◌, List, [], ◌∷◌, length, drop, slice_index, refl, sym, ap, subst, ◌∙◌, arith, pow-add}
use Rattle.std.proofs.lemmas.Nat.{div-mul-add, mod-mul-add, mul-add-lt}
use Rattle.std.proofs.Math.Nat.{pow-le-pow_right}
use Rattle.std.proofs.lemmas.List.{drop_more}
use Rattle.std.specs.Int.{byte_at, bytes_high_first}
use Rattle.std.specs.Ordering.{nat_cmp, ordering_then, MatchOrdering}
use Rattle.std.specs.declared.cmp.Ordering.{Ordering}
use Rattle.std.specs.declared.cmp.Ordering.TheVariants.{Less, Equal, Greater}
use Rattle.std.specs.Cmp.{nat_cmp_is, ranks}
use Rattle.std.specs.Slice.Scan.{big_endian}
use Rattle.tcl_subst.specs.Entries.{order}
use Rattle.tcl_subst.specs.Shorts.{Small}

pub next_power : (n : ℕ) → 256 ^ suc n ≡ 256 ^ n * 256
next_power n =
    let next : suc n ≡ n + 1 = omega arith in
    ap (λ k. 256 ^ k) next ∙ pow-add 256 n 1

split : (a b p : ℕ) → (a * 256 + b) * p ≡ a * (p * 256) + b * p
split a b p = grind arith

-- what bytes spell behind a number
pub spelt_behind : (a : ℕ) (bs : List ℕ) → big_endian a bs ≡ a * 256 ^ length bs + big_endian 0 bs
spelt_behind a [] = grind arith
spelt_behind a (b ∷ bs) =
    let p = 256 ^ length bs in
    let r = big_endian 0 bs in
    let here : big_endian (a * 256 + b) bs ≡ a * (p * 256) + b * p + r = spelt_behind (a * 256 + b) bs ∙ ap (λ x. x + r) (split a b p) in
    let first : big_endian (0 * 256 + b) bs ≡ b * p + r = spelt_behind (0 * 256 + b) bs ∙ ap (λ x. x * p + r) (zero_in b) in
    here ∙ omega (arith, first) ∙ ap (λ x. a * x + big_endian (0 * 256 + b) bs) (sym (next_power (length bs)))
  where
    zero_in : (b : ℕ) → 0 * 256 + b ≡ b
    zero_in b = omega arith

-- what n bytes spell is below 256 to the n
pub spelt_below : (bs : List ℕ) → Small bs → big_endian 0 bs < 256 ^ length bs
spelt_below [] s = omega arith
spelt_below (b ∷ bs) s =
    let small : b < 256 = s 0 in
    let zero_in : 0 * 256 + b ≡ b = omega arith in
    let first = ap (λ x. big_endian x bs) zero_in ∙ spelt_behind b bs in
    subst (λ x. x < 256 ^ suc (length bs)) (sym first)
    (subst (λ x. b * 256 ^ length bs + big_endian 0 bs < x) (sym (next_power (length bs))) (mul-add-lt b (256 ^ length bs) (big_endian 0 bs) 256 small (spelt_below bs (λ k. s (suc k)))))

first_byte : (n a r : ℕ) → r < 256 ^ n → byte_at n (a * 256 ^ n + r) ≡ a % 256
first_byte zero a r small =
    let none : a * 256 ^ 0 + r ≡ a = omega (arith, small) in
    ap (λ x. x % 256) none
first_byte (suc n) a r small = ap (λ x. x % 256) (div-mul-add a (256 ^ suc n) r small)

-- the bytes of what bytes spell are these
pub spelt_back : (a : ℕ) (bs : List ℕ) → Small bs → bytes_high_first (length bs) (big_endian a bs) ≡ bs
spelt_back a [] s = refl
spelt_back a (b ∷ bs) s =
    let small : b < 256 = s 0 in
    let rest : Small bs = λ k. s (suc k) in
    let byte = ap (byte_at (length bs)) (spelt_behind (a * 256 + b) bs) ∙ first_byte (length bs) (a * 256 + b) (big_endian 0 bs) (spelt_below bs rest) ∙ mod-mul-add a 256 b small in
    (λ i. byte i ∷ spelt_back (a * 256 + b) bs rest i)

-- a byte more spells less than 256 to the number of bytes
pub below_next : (n i b : ℕ) → n < 256 ^ i → b < 256 → n * 256 + b < 256 ^ (i + 1)
below_next n i b below small = subst (λ x. n * 256 + b < x) (omega (arith, pow-add 256 i 1)) (mul-add-lt n 256 b (256 ^ i) below small)

pub below_all : (n i : ℕ) → n < 256 ^ i → i ≤ 15 → n < 2 ^ 120
below_all n i below few =
    let most : 256 ^ i ≤ 256 ^ 15 = pow-le-pow_right (omega arith) few in
    omega (arith, below, most)

-- the next byte is spelt
pub spelt_next : (n i : ℕ) (bs : List ℕ) → i < length bs → big_endian (n * 256 + slice_index bs i) (drop (i + 1) bs) ≡ big_endian n (drop i bs)
spelt_next n i bs some = sym (ap (big_endian n) (drop_more bs i 0 some))

rises : (a b : ℕ) (us vs : List ℕ) → length us ≡ length vs → Small us → a < b → big_endian a us < big_endian b vs
rises a b [] [] e s l = l
rises a b [] (v ∷ vs) e s l = absurd (omega arith)
rises a b (u ∷ us) [] e s l = absurd (omega arith)
rises a b (u ∷ us) (v ∷ vs) e s l =
    let small : u < 256 = s 0 in
    rises (a * 256 + u) (b * 256 + v) us vs (omega arith) (λ k. s (suc k)) (omega arith)

-- numbers compare as the bytes do that spell them
pub spells : (a : ℕ) (us vs : List ℕ) → length us ≡ length vs → Small us → Small vs → nat_cmp (big_endian a us) (big_endian a vs) ≡ order us vs
spells a [] [] e s t = sym (nat_cmp_is a a Equal refl)
spells a [] (v ∷ vs) e s t = absurd (omega arith)
spells a (u ∷ us) [] e s t = absurd (omega arith)
spells a (u ∷ us) (v ∷ vs) e s t = by (spells (a * 256 + u) us vs (omega arith) (λ k. s (suc k)) (λ k. t (suc k))) (nat_cmp u v) (ranks u v) refl
  where
    small : u < 256
    small = s 0

    little : v < 256
    little = t 0

    by : nat_cmp (big_endian (a * 256 + u) us) (big_endian (a * 256 + u) vs) ≡ order us vs → (r : Ordering) → MatchOrdering r (u < v) (u ≡ v) (v < u) → nat_cmp u v ≡ r → nat_cmp (big_endian (a * 256 + u) us) (big_endian (a * 256 + v) vs) ≡ order (u ∷ us) (v ∷ vs)
    by rest Less l is =
        let under : u < v = l in
        sym (nat_cmp_is _ _ Less (rises (a * 256 + u) (a * 256 + v) us vs (omega arith) (λ k. s (suc k)) (omega arith))) ∙ sym (ap (λ r. ordering_then r (order us vs)) is)
    by rest Greater l is =
        let over : v < u = l in
        sym (nat_cmp_is _ _ Greater (rises (a * 256 + v) (a * 256 + u) vs us (omega arith) (λ k. t (suc k)) (omega arith))) ∙ sym (ap (λ r. ordering_then r (order us vs)) is)
    by rest Equal l is =
        let same : u ≡ v = l in
        ap (λ w. nat_cmp (big_endian (a * 256 + u) us) (big_endian (a * 256 + w) vs)) (sym same)
        ∙ rest
        ∙ sym (ap (λ r. ordering_then r (order us vs)) is)
