-- A text cut at its first separator, and elements put together one by one.
use Rattle.std.proofs.Common.{◌≡◌, ℕ, zero, suc, ◌+◌, ◌<◌, ◌≤◌, Bool, true, false, cond, not, nat_lt, ◌==◌, List, [], ◌∷◌, ◌++◌, length, take, drop, get_or, Option, Some, None, Err, position, if◌then◌else◌, refl, sym, ap, ◌∙◌, arith, length-append, append_assoc, append-nil, drop-drop}
use Rattle.std.specs.List.{slice_split, onto_first, position_or_len, flat_map}
use Rattle.std.proofs.lemmas.Bool.{ltb-true}
use Rattle.std.proofs.lemmas.Bool.Decides.{nat_tests}
use Rattle.std.proofs.lemmas.Grind.{flat_map-append}
use Rattle.std.proofs.lemmas.List.{take_more}
use Rattle.std.proofs.lemmas.List.Concat.{length-flat_map}
use Rattle.std.proofs.lemmas.List.Splits.{slice_split_first}
use Rattle.std.proofs.lemmas.List.Sums.{sum_by-take-le}
use Rattle.tcl_subst.specs.Faults.{is_too_long}
use Rattle.tcl_results.specs.Said.{limited}
use Rattle.tcl_lists.specs.Splitting.{joined_by, gap}
use Rattle.tcl_results.specs.Texts.{too_long}
use Rattle.tcl_results.proofs.Limits.{longer, limited_over}

at_some : (b : Bool) (n k : ℕ) → Some k ≡ cond b (Some n) None → (b ≡ true) × (k ≡ n)
at_some true n k e = (refl, cc)
at_some false n k e = cc

at_none : (b : Bool) (n : ℕ) → None ≡ cond b (Some n) None → b ≡ false
at_none true n e = cc
at_none false n e = refl

-- the part before the first separator, and those behind it
pub part_first : (p : ℕ → Bool) (text : List ℕ) (k : ℕ) → Some k ≡ position p text → slice_split p text ≡ take k text ∷ slice_split p (drop (k + 1) text)
part_first p text k found =
    let at = at_some (nat_lt (position_or_len p text) (length text)) (position_or_len p text) k found in
    slice_split_first p text 0 (ltb-true _ _ at.0) ∙ ap (λ n. take n text ∷ slice_split p (drop (n + 1) text)) (sym at.1)

head_is : (t : Bool) (b : ℕ) (text : List ℕ) (parts : List (List ℕ)) (n : ℕ) → (length text ≤ n → parts ≡ text ∷ []) → length (b ∷ text) ≤ cond (not t) (1 + n) 0 → cond t ([] ∷ parts) (onto_first b parts) ≡ (b ∷ text) ∷ []
head_is true b text parts n on far = absurd (omega arith)
head_is false b text parts n on far = ap (onto_first b) (on (omega arith))

whole : (p : ℕ → Bool) (text : List ℕ) → length text ≤ position_or_len p text → slice_split p text ≡ text ∷ []
whole p [] far = refl
whole p (b ∷ text) far = head_is (p b) b text (slice_split p text) (position_or_len p text) (whole p text) far

-- the only part, where there is no separator
pub part_last : (p : ℕ → Bool) (text : List ℕ) → None ≡ position p text → slice_split p text ≡ text ∷ []
part_last p text none =
    let far : nat_lt (position_or_len p text) (length text) ≡ false = at_none (nat_lt (position_or_len p text) (length text)) (position_or_len p text) none in
    whole p text (grind (arith, nat_tests))

-- a part more of a text that is cut
pub part_more : (p : ℕ → Bool) (done : List (List ℕ)) (rest text : List ℕ) (k : ℕ) → Some k ≡ position p rest → done ++ slice_split p rest ≡ slice_split p text → (done ++ take k rest ∷ []) ++ slice_split p (drop 1 (drop k rest)) ≡ slice_split p text
part_more p done rest text k found was =
    ap (λ (l : List ℕ). (done ++ take k rest ∷ []) ++ slice_split p l) (drop-drop 1 k rest)
    ∙ append_assoc done (take k rest ∷ []) (slice_split p (drop (k + 1) rest)) ∙ ap (λ l. done ++ l) (sym (part_first p rest k found)) ∙ was

pub part_end : (p : ℕ → Bool) (done : List (List ℕ)) (rest text : List ℕ) → None ≡ position p rest → done ++ slice_split p rest ≡ slice_split p text → done ++ rest ∷ [] ≡ slice_split p text
part_end p done rest text none was = ap (λ l. done ++ l) (sym (part_last p rest none)) ∙ was

behind_first : (between : List ℕ) (e : List ℕ) (es : List (List ℕ)) (n : ℕ) → n < length es → joined_by between (e ∷ take (n + 1) es) ≡ joined_by between (e ∷ take n es) ++ (between ++ get_or es n [])
behind_first between e es n some =
    ap (λ (l : List (List ℕ)). e ++ flat_map (λ y. between ++ y) l) (take_more es n [] some)
    ∙ ap (λ (l : List ℕ). e ++ l) (flat_map-append (λ y. between ++ y) (take n es) (get_or es n [] ∷ []))
    ∙ simp (append_assoc, append-nil)

-- an element more
pub joined_more : (between : List ℕ) (es : List (List ℕ)) (n : ℕ) → n < length es → joined_by between (take (n + 1) es) ≡ joined_by between (take n es) ++ (gap between n ++ get_or es n [])
joined_more between [] n some = absurd (omega arith)
joined_more between (e ∷ es) zero some =
    let one : joined_by between (take (0 + 1) (e ∷ es)) ≡ e ++ [] = refl in
    one ∙ append-nil e
joined_more between (e ∷ es) (suc n) some =
    let next : suc n + 1 ≡ suc (n + 1) = omega arith in
    let later : (suc n == 0) ≡ false = grind (arith, nat_tests) in
    ap (λ (m : ℕ). joined_by between (take m (e ∷ es))) next ∙ behind_first between e es n (omega arith)
    ∙ ap (λ (b : Bool). joined_by between (e ∷ take n es) ++ ((if b then [] else between) ++ get_or es n [])) (sym later)

joined_front : (between : List ℕ) (es : List (List ℕ)) (n : ℕ) → length (joined_by between (take n es)) ≤ length (joined_by between es)
joined_front between [] zero = omega arith
joined_front between [] (suc n) = omega arith
joined_front between (e ∷ es) zero = omega arith
joined_front between (e ∷ es) (suc n) =
    let f : List ℕ → List ℕ = λ y. between ++ y in
    omega (arith, length-append e (flat_map f (take n es)), length-append e (flat_map f es), length-flat_map f (take n es), length-flat_map f es, sum_by-take-le (λ y. length (f y)) es n)

module _ (between : List ℕ) (es : List (List ℕ)) (n : ℕ) (text g e : List ℕ) (some : n < length es) (is : text ≡ joined_by between (take n es)) (gap_is : g ≡ gap between n) (element_is : e ≡ get_or es n []) where
  -- one more was put behind
  pub joined_on : (new : List ℕ) → new ≡ text ++ (g ++ e) → new ≡ joined_by between (take (n + 1) es)
  joined_on new made = let more = joined_more between es n some in cc

  -- what was put together is too long
  pub joined_over : is_too_long (length (text ++ (g ++ e))) ≡ true → limited (joined_by between es) ≡ Err too_long
  joined_over long =
      let whole : text ++ (g ++ e) ≡ joined_by between (take (n + 1) es) = joined_on (text ++ (g ++ e)) refl in
      limited_over (joined_by between es) (longer _ _ (joined_front between es (n + 1)) (sym (ap (λ (t : List ℕ). is_too_long (length t)) whole) ∙ long))
