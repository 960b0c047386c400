-- A list that is searched from a place on, an element more.
use Rattle.std.proofs.Common.{◌≡◌, ℕ, suc, ◌+◌, ◌<◌, ◌≤◌, Bool, true, false, cond, List, [], ◌∷◌, ◌++◌, length, drop, get_or, map, Some, None, if◌then◌else◌, sym, ap, ◌∙◌, arith, append_assoc, append-nil}
use Rattle.std.proofs.Math.Seq.{drop-cons}
use Rattle.std.proofs.Math.ListN.{drop_of_length-le}
use Rattle.std.specs.List.{position_from, filter}
use Rattle.tcl_lists.specs.Searching.{places_from}
use Rattle.tcl_results.specs.Values.{count_text}

module _ (test : List ℕ → Bool) (es : List (List ℕ)) (n : ℕ) where
  module _ (some : n < length es) where
    drop_one : drop n es ≡ get_or es n [] ∷ drop (n + 1) es
    drop_one = let next : suc n ≡ n + 1 = omega arith in drop-cons es n [] some ∙ ap (λ (m : ℕ). get_or es n [] ∷ drop m es) next

    place_is : position_from test n (drop n es) ≡ cond (test (get_or es n [])) (Some n) (position_from test (n + 1) (drop (n + 1) es))
    place_is = ap (λ (l : List (List ℕ)). position_from test n l) drop_one

    pub place_on : test (get_or es n []) ≡ false → position_from test (n + 1) (drop (n + 1) es) ≡ position_from test n (drop n es)
    place_on none = sym (place_is ∙ ap (λ (b : Bool). cond b (Some n) (position_from test (n + 1) (drop (n + 1) es))) none)

    pub place_at : test (get_or es n []) ≡ true → position_from test n (drop n es) ≡ Some n
    place_at is = place_is ∙ ap (λ (b : Bool). cond b (Some n) (position_from test (n + 1) (drop (n + 1) es))) is

    places_is : places_from test n (drop n es) ≡ (if test (get_or es n []) then n ∷ places_from test (n + 1) (drop (n + 1) es) else places_from test (n + 1) (drop (n + 1) es))
    places_is = ap (λ (l : List (List ℕ)). places_from test n l) drop_one

    elements_is : filter test (drop n es) ≡ cond (test (get_or es n [])) (get_or es n [] ∷ filter test (drop (n + 1) es)) (filter test (drop (n + 1) es))
    elements_is = ap (λ (l : List (List ℕ)). filter test l) drop_one

    module _ (made whole : List (List ℕ)) where
      pub places_on : test (get_or es n []) ≡ false → made ++ map count_text (places_from test n (drop n es)) ≡ whole → made ++ map count_text (places_from test (n + 1) (drop (n + 1) es)) ≡ whole
      places_on none was =
          ap (λ (l : List ℕ). made ++ map count_text l) (sym (places_is ∙ ap (λ (b : Bool). if b then n ∷ places_from test (n + 1) (drop (n + 1) es) else places_from test (n + 1) (drop (n + 1) es)) none)) ∙ was

      pub places_at : test (get_or es n []) ≡ true → made ++ map count_text (places_from test n (drop n es)) ≡ whole → (made ++ count_text n ∷ []) ++ map count_text (places_from test (n + 1) (drop (n + 1) es)) ≡ whole
      places_at is was =
          append_assoc made (count_text n ∷ []) (map count_text (places_from test (n + 1) (drop (n + 1) es)))
          ∙ ap (λ (l : List ℕ). made ++ map count_text l) (sym (places_is ∙ ap (λ (b : Bool). if b then n ∷ places_from test (n + 1) (drop (n + 1) es) else places_from test (n + 1) (drop (n + 1) es)) is)) ∙ was

      pub elements_on : test (get_or es n []) ≡ false → made ++ filter test (drop n es) ≡ whole → made ++ filter test (drop (n + 1) es) ≡ whole
      elements_on none was =
          ap (λ (l : List (List ℕ)). made ++ l) (sym (elements_is ∙ ap (λ (b : Bool). cond b (get_or es n [] ∷ filter test (drop (n + 1) es)) (filter test (drop (n + 1) es))) none)) ∙ was

      pub elements_at : test (get_or es n []) ≡ true → made ++ filter test (drop n es) ≡ whole → (made ++ get_or es n [] ∷ []) ++ filter test (drop (n + 1) es) ≡ whole
      elements_at is was =
          append_assoc made (get_or es n [] ∷ []) (filter test (drop (n + 1) es))
          ∙ ap (λ (l : List (List ℕ)). made ++ l) (sym (elements_is ∙ ap (λ (b : Bool). cond b (get_or es n [] ∷ filter test (drop (n + 1) es)) (filter test (drop (n + 1) es))) is)) ∙ was

  module _ (all : length es ≤ n) where
    pub place_end : position_from test n (drop n es) ≡ None
    place_end = ap (λ (l : List (List ℕ)). position_from test n l) (drop_of_length-le es all)

    pub places_end : (made whole : List (List ℕ)) → made ++ map count_text (places_from test n (drop n es)) ≡ whole → made ≡ whole
    places_end made whole was = sym (ap (λ (l : List (List ℕ)). made ++ map count_text (places_from test n l)) (drop_of_length-le es all) ∙ append-nil made) ∙ was

    pub elements_end : (made whole : List (List ℕ)) → made ++ filter test (drop n es) ≡ whole → made ≡ whole
    elements_end made whole was = sym (ap (λ (l : List (List ℕ)). made ++ filter test l) (drop_of_length-le es all) ∙ append-nil made) ∙ was
