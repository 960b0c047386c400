-- Padded names compare as the names do.
use Rattle.std.proofs.Common.{◌≡◌, ℕ, zero, suc, ◌+◌, ◌-◌, ◌*◌, ◌^◌, ◌%◌, ◌<◌, ◌≤◌, List, [], ◌∷◌, length, take, slice_index, refl, sym, ap, subst, ◌∙◌, arith, pow-add}
use Rattle.std.proofs.lemmas.Nat.{shl_whole, shl_below}
use Rattle.std.specs.Int.{w128, to_be_bytes, bytes_high_first}
use Rattle.std.specs.Ordering.{nat_cmp, ordering_then, ordering_reverse}
use Rattle.std.specs.declared.cmp.Ordering.TheVariants.{Less, Equal}
use Rattle.std.specs.Cmp.{nat_cmp_is}
use Rattle.std.specs.Cmp.Lexicographic.{nat_list_cmp_total}
use Rattle.std.specs.Slice.Scan.{big_endian}
use Rattle.tcl_subst.specs.Entries.{order}
use Rattle.tcl_subst.specs.Shorts.{padded, Small, IsKey, text_in, text_of, key_of}
use Rattle.tcl_subst.proofs.Spelt.{next_power, spelt_below, spelt_back, spells}

level : (x : ℕ) → nat_cmp x x ≡ Equal
level x = sym (nat_cmp_is x x Equal refl)

less : (x y : ℕ) → x < y → nat_cmp x y ≡ Less
less x y l = sym (nat_cmp_is x y Less l)

-- zeros alone are below a text and zeros, where the text is longer
zeros_below : (n : ℕ) (text : List ℕ) (c d : ℕ) → length text ≤ n → c < d → order (padded n [] c) (padded n text d) ≡ Less
zeros_below zero [] c d few l = ap (λ r. ordering_then r Equal) (less c d l)
zeros_below zero (b ∷ text) c d few l = absurd (omega arith)
zeros_below (suc n) [] c d few l = ap (λ r. ordering_then r (order (padded n [] c) (padded n [] d))) (level 0) ∙ zeros_below n [] c d (omega arith) l
zeros_below (suc n) (zero ∷ text) c d few l = ap (λ r. ordering_then r (order (padded n [] c) (padded n text d))) (level 0) ∙ zeros_below n text c d (omega arith) l
zeros_below (suc n) (suc b ∷ text) c d few l = ap (λ r. ordering_then r (order (padded n [] c) (padded n text d))) (less 0 (suc b) (omega arith))

-- c counts the bytes that came before
padded_order : (n c : ℕ) (s t : List ℕ) → length s ≤ n → length t ≤ n → order (padded n s (c + length s)) (padded n t (c + length t)) ≡ order s t
padded_order zero c [] [] a b = ap (λ r. ordering_then r Equal) (level (c + 0))
padded_order zero c (x ∷ s) t a b = absurd (omega arith)
padded_order zero c [] (y ∷ t) a b = absurd (omega arith)
padded_order (suc n) c [] [] a b = ap (λ r. ordering_then r (order (padded n [] (c + 0)) (padded n [] (c + 0)))) (level 0) ∙ padded_order n c [] [] (omega arith) (omega arith)
padded_order (suc n) c [] (y ∷ t) a b = zeros_below (suc n) (y ∷ t) (c + 0) (c + length (y ∷ t)) b (omega arith)
padded_order (suc n) c (x ∷ s) [] a b =
    nat_list_cmp_total.antisymm (padded (suc n) (x ∷ s) (c + length (x ∷ s))) (padded (suc n) [] (c + 0))
    ∙ ap ordering_reverse (zeros_below (suc n) (x ∷ s) (c + 0) (c + length (x ∷ s)) a (omega arith))
padded_order (suc n) c (x ∷ s) (y ∷ t) a b =
    let p : c + suc (length s) ≡ (c + 1) + length s = omega arith in
    let q : c + suc (length t) ≡ (c + 1) + length t = omega arith in
    ap (λ o. ordering_then (nat_cmp x y) o)
    ((λ i. order (padded n s (p i)) (padded n t (q i))) ∙ padded_order n (c + 1) s t (omega arith) (omega arith))

last_is : (n c : ℕ) (text : List ℕ) → length text ≤ n → slice_index (padded n text c) n ≡ c
last_is zero c text few = refl
last_is (suc n) c [] few = last_is n c [] (omega arith)
last_is (suc n) c (b ∷ text) few = last_is n c text (omega arith)

front_is : (n c : ℕ) (text : List ℕ) → length text ≤ n → take (length text) (padded n text c) ≡ text
front_is zero c [] few = refl
front_is zero c (b ∷ text) few = absurd (omega arith)
front_is (suc n) c [] few = refl
front_is (suc n) c (b ∷ text) few = ap (λ l. b ∷ l) (front_is n c text (omega arith))

small_padded : (n c : ℕ) (text : List ℕ) → Small text → c < 256 → Small (padded n text c)
small_padded zero c text s l zero = l
small_padded zero c text s l (suc k) = omega arith
small_padded (suc n) c [] s l zero = omega arith
small_padded (suc n) c [] s l (suc k) = small_padded n c [] s l k
small_padded (suc n) c (b ∷ text) s l zero = s 0
small_padded (suc n) c (b ∷ text) s l (suc k) = small_padded n c text (λ j. s (suc j)) l k

length_padded : (n c : ℕ) (text : List ℕ) → length (padded n text c) ≡ suc n
length_padded zero c text = refl
length_padded (suc n) c [] = ap suc (length_padded n c [])
length_padded (suc n) c (b ∷ text) = ap suc (length_padded n c text)

-- a byte has eight bits
bits_of : (k : ℕ) → 2 ^ (8 * k) ≡ 256 ^ k
bits_of zero = refl
bits_of (suc k) =
    let next : 8 * suc k ≡ 8 * k + 8 = omega arith in
    ap (λ n. 2 ^ n) next ∙ pow-add 2 (8 * k) 8 ∙ ap (λ x. x * 256) (bits_of k) ∙ sym (next_power k)

-- what a padded text spells behind a number
spelt_padded : (n a c : ℕ) (text : List ℕ) → length text ≤ n → big_endian a (padded n text c) ≡ big_endian a text * 256 ^ (n - length text) * 256 + c
spelt_padded zero a c [] few = grind arith
spelt_padded zero a c (b ∷ text) few = absurd (omega arith)
spelt_padded (suc n) a c [] few =
    let none : suc n ≡ suc n - 0 = omega arith in
    spelt_padded n (a * 256 + 0) c [] (omega arith)
    ∙ ap (λ x. x * 256 + c) (grind arith ∙ ap (λ x. a * x) (sym (next_power n)) ∙ ap (λ k. a * 256 ^ k) none)
spelt_padded (suc n) a c (b ∷ text) few =
    let left : n - length text ≡ suc n - suc (length text) = omega arith in
    spelt_padded n (a * 256 + b) c text (omega arith) ∙ ap (λ k. big_endian (a * 256 + b) text * 256 ^ k * 256 + c) left

-- the text of a text's number is that text
module _ (text : List ℕ) (s : Small text) (few : length text ≤ 15) where
  abbrev row : List ℕ
  row = padded 15 text (length text)

  row_len : length row ≡ 16
  row_len = length_padded 15 (length text) text

  row_small : Small row
  row_small = small_padded 15 (length text) text s (omega arith)

  row_back : to_be_bytes w128 (key_of text) ≡ row
  row_back = ap (λ n. bytes_high_first n (big_endian 0 row)) (sym row_len) ∙ spelt_back 0 row row_small

  pub text_back : text_of (key_of text) ≡ text
  text_back = ap text_in row_back ∙ ap (λ n. take n row) (last_is 15 (length text) text few) ∙ front_is 15 (length text) text few

  pub keyed : (key : ℕ) → key ≡ key_of text → IsKey key
  keyed key is =
      let back : text_of key ≡ text = ap text_of is ∙ text_back in
      record {
        small = subst Small (sym back) s;
        few = subst (λ t. length t ≤ 15) (sym back) few;
        is = is ∙ ap key_of (sym back);
      }

  below : big_endian 0 text < 2 ^ (8 * length text)
  below = subst (λ x. big_endian 0 text < x) (sym (bits_of (length text))) (spelt_below text s)

  abbrev shift : ℕ
  shift = 8 * (15 - length text)

  fits : 8 * length text + shift ≡ 120
  fits = omega (arith, few)

  pub shifted_below : big_endian 0 text * 2 ^ shift < 2 ^ 120
  shifted_below = subst (λ n. big_endian 0 text * 2 ^ shift < 2 ^ n) fits (shl_below (big_endian 0 text) (8 * length text) shift below)

  pub shifted_whole : (big_endian 0 text * 2 ^ shift) % 2 ^ 128 ≡ big_endian 0 text * 2 ^ shift
  shifted_whole = shl_whole (big_endian 0 text) (8 * length text) shift 128 below (omega (arith, fits))

  pub key_made : big_endian 0 text * 2 ^ shift * 256 + length text ≡ key_of text
  key_made = ap (λ x. big_endian 0 text * x * 256 + length text) (bits_of (15 - length text)) ∙ sym (spelt_padded 15 0 (length text) text few)

-- numbers of texts compare as the texts do
pub as_names_do : (a b : ℕ) → IsKey a → IsKey b → nat_cmp a b ≡ order (text_of a) (text_of b)
as_names_do a b p q =
    let s = text_of a in
    let t = text_of b in
    (λ i. nat_cmp (p.is i) (q.is i))
    ∙ spells 0 (padded 15 s (length s)) (padded 15 t (length t)) (length_padded 15 (length s) s ∙ sym (length_padded 15 (length t) t)) (small_padded 15 (length s) s p.small (omega (arith, p.few))) (small_padded 15 (length t) t q.small (omega (arith, q.few)))
    ∙ (λ i. order (padded 15 s (none (length s) i)) (padded 15 t (none (length t) i)))
    ∙ padded_order 15 0 s t p.few q.few
  where
    none : (n : ℕ) → n ≡ 0 + n
    none n = omega arith
