-- Lists with other elements, repeated and reversed, and how long their texts are at least.
use Rattle.std.proofs.Common.{◌≡◌, ℕ, zero, suc, ◌+◌, ◌-◌, ◌*◌, ◌/◌, ◌^◌, ◌<◌, ◌≤◌, Bool, true, false, not, ◌&&◌, nat_lt, List, [], ◌∷◌, ◌++◌, length, take, drop, get_or, reverse, min, max, if◌then◌else◌, refl, sym, ap, subst, ◌∙◌, arith, length-append, append_assoc, append-nil}
use Rattle.std.specs.List.{splice, repeat}
use Rattle.std.proofs.Math.Nat.{mul-le-mul_right}
use Rattle.std.proofs.lemmas.Bool.Decides.{nat_tests}
use Rattle.std.proofs.lemmas.List.{take_min, drop_min, take_more, get_or-reverse, length-reverse}
use Rattle.std.proofs.lemmas.List.Sums.{sum_by-append, sum_by-cons}
use Rattle.tcl_words.specs.Bytes as ascii
use Rattle.tcl_words.specs.Lists.{is_special, letter, escape, escape_first, begins_with, needs_quoting, fits_braces, written_element, written_rest, written}
use Rattle.tcl_subst.specs.Faults.{is_too_long}
use Rattle.tcl_lists.specs.Editing.{least_size}

if_long : (t : Bool) (n : ℕ) (xs ys : List ℕ) → n ≤ length xs → n ≤ length ys → n ≤ length (if t then xs else ys)
if_long true n xs ys h k = h
if_long false n xs ys h k = k

escape_long : (e : List ℕ) → length e ≤ length (escape e)
escape_long [] = omega arith
escape_long (b ∷ e) = if_long (is_special b) (length (b ∷ e)) (ascii.backslash ∷ letter b ∷ escape e) (b ∷ escape e) (omega (arith, escape_long e)) (omega (arith, escape_long e))

element_long : (first : Bool) (e : List ℕ) → length e ≤ length (written_element first e)
element_long first e =
    if_long (not (needs_quoting first e)) (length e) e (if fits_braces e then (ascii.open_brace ∷ e) ++ ascii.close_brace ∷ [] else escape_first first e) (omega arith)
    (if_long (fits_braces e) (length e) ((ascii.open_brace ∷ e) ++ ascii.close_brace ∷ []) (escape_first first e)
    (omega (arith, length-append (ascii.open_brace ∷ e) (ascii.close_brace ∷ [])))
    (if_long (first && begins_with ascii.hash e) (length e) (ascii.backslash ∷ escape e) (escape e) (omega (arith, escape_long e)) (escape_long e)))

rest_long : (es : List (List ℕ)) → least_size es ≤ length (written_rest es)
rest_long [] = omega arith
rest_long (e ∷ es) =
    let size : least_size (e ∷ es) ≡ (length e + 1) + least_size es = sum_by-cons (λ x. length x + 1) e es in
    let text : length (written_rest (e ∷ es)) ≡ length ((ascii.space ∷ written_element false e) ++ written_rest es) = refl in
    let first : length (ascii.space ∷ written_element false e) ≡ length (written_element false e) + 1 = omega arith in
    omega (arith, rest_long es, element_long false e, length-append (ascii.space ∷ written_element false e) (written_rest es))

-- a list's text has a byte for each byte of its elements, and one between each two
pub written_long : (es : List (List ℕ)) → least_size es ≤ length (written es) + 1
written_long [] = omega arith
written_long (e ∷ es) =
    let size : least_size (e ∷ es) ≡ (length e + 1) + least_size es = sum_by-cons (λ x. length x + 1) e es in
    let text : length (written (e ∷ es)) ≡ length (written_element true e ++ written_rest es) = refl in
    omega (arith, rest_long es, element_long true e, length-append (written_element true e) (written_rest es))

-- places behind the end of a list are as good as its end
spliced_min : (values es : List (List ℕ)) (i j : ℕ) → splice es (min i (length es)) (min j (length es)) values ≡ splice es i j values
spliced_min values es i j =
    ap (λ (l : List (List ℕ)). l ++ (values ++ drop (min j (length es)) es)) (take_min i es) ∙ ap (λ (l : List (List ℕ)). take i es ++ (values ++ l)) (drop_min j es)

pub inserted_min : (values es : List (List ℕ)) (i n : ℕ) → n ≡ length es → splice es (min i n) (min i n) values ≡ splice es i i values
inserted_min values es i n count = ap (λ (m : ℕ). splice es (min i m) (min i m) values) count ∙ spliced_min values es i i

pub replaced_min : (values es : List (List ℕ)) (i j n : ℕ) → n ≡ length es → splice es (min i n) (max (min i n) (min j n)) values ≡ splice es i (max i j) values
replaced_min values es i j n count =
    let both : max (min i n) (min j n) ≡ min (max i j) n = omega arith in
    ap (λ (m : ℕ). splice es (min i n) m values) both ∙ ap (λ (m : ℕ). splice es (min i m) (min (max i j) m) values) count ∙ spliced_min values es i (max i j)

-- one more from the end
pub reversed_more : (es : List (List ℕ)) (i : ℕ) → i < length es → take (i + 1) (reverse es) ≡ take i (reverse es) ++ get_or es (length es - 1 - i) [] ∷ []
reversed_more es i some =
    let long : i < length (reverse es) = omega (arith, length-reverse es) in
    take_more (reverse es) i [] long ∙ ap (λ (e : List ℕ). take i (reverse es) ++ e ∷ []) (get_or-reverse es i [] some)

-- a round more
pub repeated_more : (es : List (List ℕ)) (n : ℕ) → repeat n es ++ es ≡ repeat (n + 1) es
repeated_more es n = let next : n + 1 ≡ suc n = omega arith in turn n ∙ ap (λ (m : ℕ). repeat m es) (sym next)
  where
    turn : (n : ℕ) → repeat n es ++ es ≡ es ++ repeat n es
    turn zero = sym (append-nil es)
    turn (suc n) = append_assoc es (repeat n es) es ∙ ap (λ (l : List (List ℕ)). es ++ l) (turn n)

repeated_size : (es : List (List ℕ)) (n : ℕ) → least_size (repeat n es) ≡ n * least_size es
repeated_size es zero = omega arith
repeated_size es (suc n) = sum_by-append (λ e. length e + 1) es (repeat n es) ∙ ap (λ (m : ℕ). least_size es + m) (repeated_size es n) ∙ (omega arith)

over : (es : List (List ℕ)) → 1048577 < least_size es → is_too_long (length (written es)) ≡ true
unfolding is_too_long
over es long = let least = written_long es in grind (arith, nat_tests)

repeated_over : (es : List (List ℕ)) (n : ℕ) → 1048577 < n * least_size es → is_too_long (length (written (repeat n es))) ≡ true
repeated_over es n long = over (repeat n es) (omega (arith, repeated_size es n))

-- values whose least size is above the limit, at least once
pub over_once : (es : List (List ℕ)) (n : ℕ) → 2 ^ 63 ≤ least_size es → nat_lt 0 n ≡ true → is_too_long (length (written (repeat n es))) ≡ true
over_once es zero long some = cc
over_once es (suc n) long some = repeated_over es (suc n) (omega arith)

-- values so often that their least size is above the limit
pub over_often : (es : List (List ℕ)) (n size : ℕ) → size ≡ least_size es → 1048577 < n * size → is_too_long (length (written (repeat n es))) ≡ true
over_often es n size is long = repeated_over es n (subst (λ (m : ℕ). 1048577 < n * m) is long)

pub above : (size n : ℕ) → 0 < size → 1048577 / size < n → 1048577 < n * size
above size n some more =
    let rounds : (1048577 / size + 1) * size ≤ n * size = mul-le-mul_right size (omega arith) in
    omega (arith, rounds)

pub repeated_nothing : (es : List (List ℕ)) (n : ℕ) → length es ≡ 0 → [] ≡ repeat n es
repeated_nothing [] zero none = refl
repeated_nothing [] (suc n) none = repeated_nothing [] n none
repeated_nothing (e ∷ es) n none = absurd (omega arith)
