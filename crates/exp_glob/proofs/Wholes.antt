-- The pattern that ends with the end of the text is found where the whole text matches.
use Rattle.std.proofs.Common.{◌≡◌, ℕ, ◌+◌, Bool, true, false, List, [], ◌∷◌, ◌++◌, length, Option, Some, None, is_some, refl, sym, ap, subst, ◌∙◌, arith}
use Rattle.std.proofs.lemmas.Bool.{false≢true}
use Rattle.exp_glob.specs.declared.element.Element.{Element}
use Rattle.exp_glob.specs.declared.element.Element.TheVariants.{Star, One, End}
use Rattle.exp_glob.specs.Matching.{Spans}
use Rattle.exp_glob.specs.Search.{first_span}
use Rattle.exp_glob.specs.Spans.{FindsFirst}
use Rattle.exp_glob.specs.Whole.{matches, plain_elements, whole_of}
use Rattle.exp_glob.proofs.Found.{spans_decides, is_first_span}

module _ (nocase : Bool) (s : List ℕ) where
  -- what ends with the end of the text spans all of it
  spans_on : (es : List Element) (a b : ℕ) → Spans nocase (es ++ End ∷ []) s a b → Spans nocase es s a (length s)
  spans_on [] a b h = h.0
  spans_on (Star ∷ es) a b h = (h.0, h.1, h.2, spans_on es h.0 b h.3)
  spans_on (One single ∷ es) a b h = (h.0, h.1, spans_on es (a + 1) b h.2)
  spans_on (End ∷ es) a b h = (h.0, spans_on es a b h.1)

  spans_back : (es : List Element) (a : ℕ) → Spans nocase es s a (length s) → Spans nocase (es ++ End ∷ []) s a (length s)
  spans_back [] a h = (h, h)
  spans_back (Star ∷ es) a h = (h.0, h.1, h.2, spans_back es h.0 h.3)
  spans_back (One single ∷ es) a h = (h.0, h.1, spans_back es (a + 1) h.2)
  spans_back (End ∷ es) a h = (h.0, spans_back es a h.1)

  spans_end : (es : List Element) (a b : ℕ) → Spans nocase (es ++ End ∷ []) s a b → b ≡ length s
  spans_end [] a b h = sym h.1 ∙ h.0
  spans_end (Star ∷ es) a b h = spans_end es h.0 b h.3
  spans_end (One single ∷ es) a b h = spans_end es (a + 1) b h.2
  spans_end (End ∷ es) a b h = spans_end es a b h.1

  module _ (p : List ℕ) where
    whole_at : Bool → Option (ℕ × ℕ)
    whole_at true = Some (0, length s)
    whole_at false = None

    whole_is_some : (t : Bool) → is_some (whole_at t) ≡ t
    unfolding whole_at
    whole_is_some true = refl
    whole_is_some false = refl

    finds : (t : Bool) → matches nocase p s ≡ t → FindsFirst (whole_of p) nocase s (whole_at t)
    unfolding whole_at matches
    finds true is =
        let spans : Spans nocase (plain_elements p) s 0 (length s) = (spans_decides nocase s (plain_elements p) 0 (length s)).0 is in (
          (omega arith, (λ _. refl), spans_back (plain_elements p) 0 spans),
          (λ c d g. omega arith),
          (λ d g. let end : d ≡ length s = spans_end (plain_elements p) 0 d g.2 in omega arith),
        )
    finds false is = λ a b g.
        let front : a ≡ 0 = g.1 refl in
        let spans : Spans nocase (plain_elements p) s 0 (length s) = subst (λ (n : ℕ). Spans nocase (plain_elements p) s n (length s)) front (spans_on (plain_elements p) a b g.2) in
        false≢true (sym is ∙ (spans_decides nocase s (plain_elements p) 0 (length s)).1 spans)

    pub whole_is : is_some (first_span (whole_of p) nocase s) ≡ matches nocase p s
    whole_is = ap is_some (sym (is_first_span nocase s (whole_of p) (whole_at (matches nocase p s)) (finds (matches nocase p s) refl))) ∙ whole_is_some (matches nocase p s)
