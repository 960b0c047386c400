-- The parts of a text, one more.
use Rattle.std.proofs.Common.{◌≡◌, ℕ, zero, suc, ◌<◌, List, [], ◌∷◌, ◌++◌, length, drop, get_or, Option, Some, None, option_map, refl, sym, ap, ◌∙◌, arith}
use Rattle.tcl_formats.specs.Parts.{with_part, parts_from}
use Rattle.tcl_results.proofs.Onto.{onto, onto_pushed}

module _ {X : Type 0} (part : ℕ → List ℕ → Option (X × ℕ)) where
  -- bytes that belong to a part are passed over
  passed : (k : ℕ) (text : List ℕ) → parts_from part k text ≡ parts_from part 0 (drop k text)
  passed zero text = refl
  passed (suc k) [] = refl
  passed (suc k) (b ∷ text) = passed k text

  parts_is : (rest text : List ℕ) (found : Option (X × ℕ)) → 0 < length rest → text ≡ drop 1 rest → found ≡ part (get_or rest 0 0) text
      → parts_from part 0 rest ≡ with_part (λ k. parts_from part k text) found
  parts_is [] text found some is at = absurd (omega arith)
  parts_is (b ∷ rest) text found some is at =
      ap (λ (t : List ℕ). with_part (λ k. parts_from part k t) (part b t)) (sym is) ∙ ap (λ (o : Option (X × ℕ)). with_part (λ k. parts_from part k text) o) (sym at)

  module _ (made : List X) (rest text : List ℕ) (whole : Option (List X)) (found : Option (X × ℕ)) (some : 0 < length rest) (is : text ≡ drop 1 rest) (at : found ≡ part (get_or rest 0 0) text)
      (was : onto made (parts_from part 0 rest) ≡ whole) where
    -- the next part
    pub parts_next : (new : List X) (left : List ℕ) (p : X) (count : ℕ) → found ≡ Some (p, count) → new ≡ made ++ p ∷ [] → left ≡ drop count text → onto new (parts_from part 0 left) ≡ whole
    parts_next new left p count so pushed behind =
        ap (λ (l : List X). onto l (parts_from part 0 left)) pushed
        ∙ ap (λ (t : List ℕ). onto (made ++ p ∷ []) (parts_from part 0 t)) behind
        ∙ onto_pushed made p (parts_from part 0 (drop count text))
        ∙ ap (λ (r : Option (List X)). onto made (option_map (λ (l : List X). p ∷ l) r)) (sym (passed count text))
        ∙ sym (ap (onto made) (parts_is rest text found some is at ∙ ap (λ (o : Option (X × ℕ)). with_part (λ k. parts_from part k text) o) so)) ∙ was

    -- no part begins here
    pub parts_none : found ≡ None → None ≡ whole
    parts_none so = sym (ap (onto made) (parts_is rest text found some is at ∙ ap (λ (o : Option (X × ℕ)). with_part (λ k. parts_from part k text) o) so)) ∙ was
