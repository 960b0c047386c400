-- A pattern's elements and a class's members, read from a place on.
use Rattle.std.proofs.Common.{◌≡◌, ℕ, zero, suc, ◌+◌, ◌-◌, ◌<◌, add_assoc, ◌≤◌, Bool, false, ◌||◌, List, [], ◌∷◌, ◌++◌, length, length-drop, drop, get_or, get_or-drop, drop-drop, Option, Some, None, eqb-true, refl, sym, ap, subst, ◌∙◌, append_assoc, arith}
use Rattle.std.specs.Prelude.{◌==◌, position}
use Rattle.std.proofs.lemmas.List.{drop_more}
use Rattle.std.proofs.lemmas.List.Quantifiers.{position-Some}
use Rattle.exp_glob.specs.declared.element.Element.{Element}
use Rattle.exp_glob.specs.Elements.{element_at, elements_from, elements_of}
use Rattle.exp_glob.specs.Matching.{in_range, range_after, has_from, class_has}

pub elements_on : (s : List ℕ) (k : ℕ) → elements_from s k ≡ elements_of (drop k s)
elements_on [] zero = refl
elements_on [] (suc k) = refl
elements_on (b ∷ s) zero = refl
elements_on (b ∷ s) (suc k) = elements_on s k

elements_here : (s : List ℕ) (i n : ℕ) (e : Element) → i < length s → (e, n) ≡ element_at (get_or s i 0) (drop (i + 1) s)
    → elements_of (drop i s) ≡ e ∷ elements_of (drop (i + (1 + n)) s)
elements_here s i n e lt is =
    ap elements_of (drop_more s i 0 lt)
    ∙ ap (λ (p : Element × ℕ). p.0 ∷ elements_from (drop (i + 1) s) p.1) (sym is)
    ∙ ap (λ (es : List Element). e ∷ es) (elements_on (drop (i + 1) s) n ∙ ap elements_of (drop-drop n (i + 1) s ∙ ap (λ (k : ℕ). drop k s) (add_assoc i 1 n)))

-- an element more is made, and what is left begins behind it
pub elements_turn : (made all : List Element) (s : List ℕ) (i n : ℕ) (e : Element) → i < length s
    → (e, n) ≡ element_at (get_or s i 0) (drop (i + 1) s) → made ++ elements_of (drop i s) ≡ all
    → made ++ e ∷ [] ++ elements_of (drop (i + (1 + n)) s) ≡ all
elements_turn made all s i n e lt is same =
    append_assoc made (e ∷ []) (elements_of (drop (i + (1 + n)) s))
    ∙ ap (λ (es : List Element). made ++ es) (sym (elements_here s i n e lt is)) ∙ same

-- no `]` stands behind the last one
pub close_none : (s : List ℕ) (end i : ℕ) → ((k : ℕ) → end ≤ k → k < length s → get_or s k 0 ≡ 93 → ⊥) → end ≤ i
    → position (λ (c : ℕ). c == 93) (drop i s) ≡ None
close_none s end i none le = by (position (λ (c : ℕ). c == 93) (drop i s)) refl
  where
    by : (o : Option ℕ) → position (λ (c : ℕ). c == 93) (drop i s) ≡ o → o ≡ None
    by None is = refl
    by (Some j) is =
        let p = position-Some (λ (c : ℕ). c == 93) (drop i s) j 0 is in
        let lt : j < length s - i = subst (λ (n : ℕ). j < n) (length-drop i s) p.0 in
        let there : get_or s (i + j) 0 ≡ 93 = sym (get_or-drop i s j 0) ∙ eqb-true (get_or (drop i s) j 0) 93 p.1 in
        absurd (none (i + j) (omega arith) (omega arith) there)

pub has_on : (s : List ℕ) (k c : ℕ) → has_from s k c ≡ class_has (drop k s) c
has_on [] zero c = refl
has_on [] (suc k) c = refl
has_on (b ∷ s) zero c = refl
has_on (b ∷ s) (suc k) c = has_on s k c

-- a class from a place on: the range there, or the ranges behind it
has_here : (s : List ℕ) (i c : ℕ) (p : ℕ × ℕ) → i < length s → p ≡ range_after (get_or s i 0) (drop (i + 1) s)
    → class_has (drop i s) c ≡ (in_range (get_or s i 0) p.0 c || class_has (drop (i + (1 + p.1)) s) c)
has_here s i c p lt is =
    ap (λ (r : List ℕ). class_has r c) (drop_more s i 0 lt)
    ∙ ap (λ (q : ℕ × ℕ). in_range (get_or s i 0) q.0 c || has_from (drop (i + 1) s) q.1 c) (sym is)
    ∙ ap (λ (t : Bool). in_range (get_or s i 0) p.0 c || t) (has_on (drop (i + 1) s) p.1 c ∙ ap (λ (r : List ℕ). class_has r c) (drop-drop p.1 (i + 1) s ∙ ap (λ (k : ℕ). drop k s) (add_assoc i 1 p.1)))

pub has_turn : (s : List ℕ) (i c : ℕ) (p : ℕ × ℕ) (all : Bool) → i < length s → p ≡ range_after (get_or s i 0) (drop (i + 1) s)
    → in_range (get_or s i 0) p.0 c ≡ false → class_has (drop i s) c ≡ all → class_has (drop (i + (1 + p.1)) s) c ≡ all
has_turn s i c p all lt is dark same =
    sym (has_here s i c p lt is ∙ ap (λ (t : Bool). t || class_has (drop (i + (1 + p.1)) s) c) dark) ∙ same
