-- The match that is meant is the one that the search by places gives.
use Rattle.std.proofs.Common.{◌≡◌, ℕ, zero, suc, ◌+◌, ◌<◌, ◌≤◌, Bool, true, false, ◌&&◌, cond, leb, ltb, eqb, List, [], ◌∷◌, length, get_or, Option, Some, None, Decides, option_map, refl, sym, ap, subst, ◌∙◌, ⊎_elim, arith}
use Rattle.std.specs.Option.{option_or}
use Rattle.std.proofs.lemmas.Bool.{cases_lt, cond-true, cond-false, false_from_ne_true, leb-true, le-leb}
use Rattle.std.proofs.lemmas.Bool.Decides.{Decides-and, Decides-eqb, Decides-ltb, Decides-below_or, Decides-like}
use Rattle.exp_glob.specs.declared.element.Element.{Element}
use Rattle.exp_glob.specs.declared.element.Element.TheVariants.{Star, One, End}
use Rattle.exp_glob.specs.declared.pattern.Glob.{Glob}
use Rattle.exp_glob.specs.Spans.{takes, Spans, FindsFirst}
use Rattle.exp_glob.specs.Search.{some_below, last_below, first_below, spans, longest_from, first_span}
use Rattle.exp_glob.proofs.Greedy.{span_within}

-- places

module _ {X : Type 0} (find : ℕ → Option X) where
  pub first_none : (n : ℕ) → ((k : ℕ) → k < n → find k ≡ None) → first_below find n ≡ None
  first_none zero none = refl
  first_none (suc n) none =
      ap (λ o. option_or o (find n)) (first_none n (λ k lt. none k (omega arith))) ∙ none n (omega arith)

  pub first_some : (n k : ℕ) (x : X) → k < n → find k ≡ Some x → ((j : ℕ) → j < k → find j ≡ None) → first_below find n ≡ Some x
  first_some zero k x lt is none = absurd (omega arith)
  first_some (suc n) k x lt is none =
      ⊎_elim (λ (below : k < n). ap (λ o. option_or o (find n)) (first_some n k x below is none))
      (λ (above : n ≤ k).
      let same : k ≡ n = omega arith in
      ap (λ o. option_or o (find n)) (first_none n (λ j l. none j (omega arith))) ∙ subst (λ i. find i ≡ Some x) same is)
      (cases_lt k n)

module _ (test : ℕ → Bool) where
  pub last_none : (n : ℕ) → ((k : ℕ) → k < n → test k ≡ false) → last_below test n ≡ None
  last_none zero none = refl
  last_none (suc n) none =
      cond-false (test n) (Some n) (last_below test n) (none n (omega arith)) ∙ last_none n (λ k lt. none k (omega arith))

  pub last_some : (n k : ℕ) → k < n → test k ≡ true → ((j : ℕ) → j < n → test j ≡ true → j ≤ k) → last_below test n ≡ Some k
  last_some zero k lt is most = absurd (omega arith)
  last_some (suc n) k lt is most =
      ⊎_elim
      (λ (below : k < n).
      cond-false (test n) (Some n) (last_below test n)
      (false_from_ne_true (test n) (λ t. let le : n ≤ k = most n (omega arith) t in absurd (omega arith)))
      ∙ last_some n k below is (λ j l t. most j (omega arith) t))
      (λ (above : n ≤ k).
      let same : k ≡ n = omega arith in
      cond-true (test n) (Some n) (last_below test n) (subst (λ i. test i ≡ true) same is) ∙ ap Some (sym same))
      (cases_lt k n)

decides_le : (a b : ℕ) → Decides (leb a b) (a ≤ b)
decides_le a b = (leb-true a b, le-leb a b)

decides_same : (t : Bool) → Decides t (t ≡ true)
decides_same t = (λ h. h, λ h. h)

module _ (nocase : Bool) (s : List ℕ) where
  -- the test and the relation agree
  pub spans_decides : (es : List Element) (a b : ℕ) → Decides (spans nocase es s a b) (Spans nocase es s a b)
  spans_decides [] a b = Decides-eqb a b
  spans_decides (Star ∷ es) a b =
      Decides-like (spans nocase (Star ∷ es) s a b)
      (λ p. (p.0, p.2.0, omega (arith, p.1), p.2.1))
      (λ p. (p.0, omega (arith, p.2), (p.1, p.3)))
      (Decides-below_or (λ k. leb a k && spans nocase es s k b) (λ k. (a ≤ k) × Spans nocase es s k b) (some_below (λ k. leb a k && spans nocase es s k b))
      (λ k. Decides-and (leb a k) (spans nocase es s k b) (decides_le a k) (spans_decides es k b)) refl (λ _. refl) (length s + 1))
  spans_decides (One single ∷ es) a b =
      let taken = takes nocase single (get_or s a 0) in
      Decides-like (spans nocase (One single ∷ es) s a b)
      (λ p. (p.0, p.1.0, p.1.1))
      (λ p. (p.0, (p.1, p.2)))
      (Decides-and (ltb a (length s)) (taken && spans nocase es s (a + 1) b) (Decides-ltb a (length s))
      (Decides-and taken (spans nocase es s (a + 1) b) (decides_same taken) (spans_decides es (a + 1) b)))
  spans_decides (End ∷ es) a b = Decides-and (eqb a (length s)) (spans nocase es s a b) (Decides-eqb a (length s)) (spans_decides es a b)

  module _ (g : Glob) where
    -- the places that are tried are those where a match may start
    start_may : (a : ℕ) → a < cond g.anchored 1 (length s + 1) → (a ≤ length s) × (g.anchored ≡ true → a ≡ 0)
    start_may a lt = by g.anchored refl
      where
        by : (t : Bool) → g.anchored ≡ t → (a ≤ length s) × (g.anchored ≡ true → a ≡ 0)
        by true is = let low : a < 1 = subst (λ t. a < cond t 1 (length s + 1)) is lt in (omega arith, λ _. omega arith)
        by false is =
            let low : a < length s + 1 = subst (λ t. a < cond t 1 (length s + 1)) is lt in
            (omega arith, λ h. absurd (cc))

    start_below : (a : ℕ) → a ≤ length s → (g.anchored ≡ true → a ≡ 0) → a < cond g.anchored 1 (length s + 1)
    start_below a le zero_is = by g.anchored refl
      where
        by : (t : Bool) → g.anchored ≡ t → a < cond g.anchored 1 (length s + 1)
        by true is = let at : a ≡ 0 = zero_is is in subst (λ t. a < cond t 1 (length s + 1)) (sym is) (omega arith)
        by false is = subst (λ t. a < cond t 1 (length s + 1)) (sym is) (omega arith)

    none_from : (a : ℕ) → ((b : ℕ) → ¬ Spans nocase g.elements s a b) → longest_from g nocase s a ≡ None
    none_from a none =
        ap (option_map (λ b. (a, b)))
        (last_none (spans nocase g.elements s a) (length s + 1)
        (λ b _. false_from_ne_true (spans nocase g.elements s a b) (λ t. none b ((spans_decides g.elements a b).0 t))))

    pub is_first_span : (found : Option (ℕ × ℕ)) → FindsFirst g nocase s found → found ≡ first_span g nocase s
    unfolding first_span
    is_first_span None none =
        sym (first_none (longest_from g nocase s) (cond g.anchored 1 (length s + 1))
        (λ a lt. let may = start_may a lt in none_from a (λ b t. none a b (may.0, may.1, t))))
    is_first_span (Some p) is =
        let a = p.0 in
        let b = p.1 in
        let within = span_within nocase s g.elements a b is.0.0 is.0.2 in
        let longest : longest_from g nocase s a ≡ Some (a, b)
        = ap (option_map (λ e. (a, e)))
        (last_some (spans nocase g.elements s a) (length s + 1) b (omega (arith, within.1)) ((spans_decides g.elements a b).1 is.0.2)
        (λ d _ t. is.2 d (is.0.0, is.0.1, (spans_decides g.elements a d).0 t))) in
        sym (first_some (longest_from g nocase s) (cond g.anchored 1 (length s + 1)) a (a, b) (start_below a is.0.0 is.0.1) longest
        (λ c lt.
        let may = start_may c (omega (arith, start_below a is.0.0 is.0.1)) in
        none_from c (λ d t. let le : a ≤ c = is.1 c d (may.0, may.1, t) in absurd (omega arith))))
