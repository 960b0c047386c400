-- A match that ends behind a place has the last run's literal near that place or behind it.
use Rattle.std.proofs.Common.{◌≡◌, ◌∙◌, inl, inr, ⊎_elim, ℕ, ◌+◌, ◌-◌, ◌<◌, ◌≤◌, drop, take, get_or, get_or-drop, get_or-take, length-drop, Bool, true, false, List, [], ◌∷◌, ◌++◌, length, None, refl, sym, ap, subst, arith}
use Rattle.std.specs.Prelude.{Option, Some, MatchOption, slice_index}
use Rattle.std.specs.Option.{is_some}
use Rattle.std.proofs.lemmas.Bool.{cases_lt}
use Rattle.std.proofs.lemmas.List.{length-take-le, take_all, take_more}
use Rattle.exp_glob.specs.declared.element.Element.{Element}
use Rattle.exp_glob.specs.declared.element.Element.TheVariants.{Star, One, End}
use Rattle.exp_glob.specs.declared.element.Single.{Single}
use Rattle.exp_glob.specs.declared.pattern.Glob.{Glob}
use Rattle.exp_glob.specs.Spans.{takes, Spans, GlobSpan, FindsFirst}
use Rattle.exp_glob.specs.Stars.{behind_star}
use Rattle.exp_glob.specs.Literals.{IsLiteral}
use Rattle.exp_glob.specs.Endings.{IsEnding, AreStars, HasNoStar}
use Rattle.exp_glob.proofs.Greedy.{run_first, span_within}
use Rattle.exp_glob.proofs.Starts.{stands}

module _ (nocase : Bool) (s : List ℕ) where
  -- elements match one after another
  pub split : (es fs : List Element) (a b : ℕ) → Spans nocase (es ++ fs) s a b → (m : ℕ) × Spans nocase es s a m × Spans nocase fs s m b
  split [] fs a b h = (a, refl, h)
  split (Star ∷ es) fs a b h = let p = split es fs h.0 b h.3 in (p.0, (h.0, h.1, h.2, p.1), p.2)
  split (One single ∷ es) fs a b h = let p = split es fs (a + 1) b h.2 in (p.0, (h.0, h.1, p.1), p.2)
  split (End ∷ es) fs a b h = let p = split es fs a b h.1 in (p.0, (h.0, p.1), p.2)

  pub join : (es fs : List Element) (a m b : ℕ) → Spans nocase es s a m → Spans nocase fs s m b → Spans nocase (es ++ fs) s a b
  join [] fs a m b h t = subst (λ i. Spans nocase fs s i b) (sym h) t
  join (Star ∷ es) fs a m b h t = (h.0, h.1, h.2, join es fs h.0 m b h.3 t)
  join (One single ∷ es) fs a m b h t = (h.0, h.1, join es fs (a + 1) m b h.2 t)
  join (End ∷ es) fs a m b h t = (h.0, join es fs a m b h.1 t)

  -- the first elements are all but the last of them, and that
  last_off : (es : List Element) (n a b : ℕ) (e f : Element) → 0 < n → n ≤ length es → e ≡ get_or es (n - 1) e → e ≡ f → Spans nocase (take n es) s a b
      → (m : ℕ) × Spans nocase (take (n - 1) es) s a m × Spans nocase (f ∷ []) s m b
  last_off es n a b e f some le is same h =
      let whole : take n es ≡ take (n - 1) es ++ f ∷ []
      = ap (λ i. take i es) (omega arith) ∙ take_more es (n - 1) e (omega arith) ∙ ap (λ (g : Element). take (n - 1) es ++ g ∷ []) (sym is ∙ same) in
      split (take (n - 1) es) (f ∷ []) a b (subst (λ (l : List Element). Spans nocase l s a b) whole h)

  -- what takes one byte took the last one of a match
  pub one_off : (es : List Element) (n a b : ℕ) (e : Element) (single : Single) → 0 < n → n ≤ length es → e ≡ get_or es (n - 1) e → e ≡ One single
      → Spans nocase (take n es) s a b → (0 < b) × (takes nocase single (slice_index s (b - 1)) ≡ true) × Spans nocase (take (n - 1) es) s a (b - 1)
  one_off es n a b e single some le is same h =
      let p = last_off es n a b e (One single) some le is same h in
      let behind : p.0 + 1 ≡ b = p.2.2 in
      let before : p.0 ≡ b - 1 = omega arith in
      (omega arith, subst (λ i. takes nocase single (slice_index s i) ≡ true) before p.2.1, subst (λ i. Spans nocase (take (n - 1) es) s a i) before p.1)

  -- and the end of the data none
  pub end_off : (es : List Element) (n a b : ℕ) (e : Element) → 0 < n → n ≤ length es → e ≡ get_or es (n - 1) e → e ≡ End → Spans nocase (take n es) s a b
      → Spans nocase (take (n - 1) es) s a b
  end_off es n a b e some le is same h =
      let p = last_off es n a b e End some le is same h in
      subst (λ i. Spans nocase (take (n - 1) es) s a i) p.2.1 p.1

  -- so what is before the end of the data ends there
  pub end_whole : (es : List Element) (a b : ℕ) (e : Element) → 0 < length es → e ≡ get_or es (length es - 1) e → e ≡ End → Spans nocase es s a b
      → Spans nocase (take (length es - 1) es) s a (length s)
  end_whole es a b e some is same h =
      let whole = subst (λ (l : List Element). Spans nocase l s a b) (sym (take_all (length es) es (omega arith))) h in
      let p = last_off es (length es) a b e End some (omega arith) is same whole in
      subst (λ i. Spans nocase (take (length es - 1) es) s a i) p.2.0 p.1

  -- stars match nothing too
  pub empty : (es : List Element) (a : ℕ) → a ≤ length s → AreStars es → Spans nocase es s a a
  empty [] a le h = refl
  empty (Star ∷ es) a le h = (a, omega arith, le, empty es a le h.1)
  empty (One single ∷ es) a le h = absurd (cc)
  empty (End ∷ es) a le h = absurd (cc)

  -- a run matches no more bytes than it has elements
  pub short : (es : List Element) (a b : ℕ) → HasNoStar es → Spans nocase es s a b → b ≤ a + length es
  short [] a b none h = omega (arith, h)
  short (Star ∷ es) a b none h = absurd (cc)
  short (One single ∷ es) a b none h = omega (arith, short es (a + 1) b none.1 h.2)
  short (End ∷ es) a b none h = omega (arith, short es a b none.1 h.1)

  pub no_star : (es : List Element) → HasNoStar es → behind_star es ≡ None
  no_star [] none = refl
  no_star (Star ∷ es) none = absurd (cc)
  no_star (One single ∷ es) none = no_star es none.1
  no_star (End ∷ es) none = no_star es none.1

  pub starless : (es : List Element) → behind_star es ≡ None → HasNoStar es
  starless [] none = tt
  starless (Star ∷ es) none = absurd (cc)
  starless (One single ∷ es) none = (refl, starless es none)
  starless (End ∷ es) none = (refl, starless es none)

  pub no_end : (es : List Element) (Rest : ℕ → Type 0) (end : Option ℕ) → MatchOption end (behind_star es ≡ None) Rest → is_some end ≡ false → behind_star es ≡ None
  no_end es Rest None is none = is
  no_end es Rest (Some n) is none = absurd (cc)

  -- a match that ends within the front of a text is one of that front
  pub of_front : (es : List Element) (a b n : ℕ) → a ≤ length s → Spans nocase es s a b → b ≤ n → n < length s → Spans nocase es (take n s) a b
  of_front [] a b n at h le lt = h
  of_front (Star ∷ es) a b n at h le lt =
      let w = span_within nocase s es h.0 b h.2 h.3 in
      (h.0, h.1, omega (arith, w.0, length-take-le n s (omega arith)), of_front es h.0 b n h.2 h.3 le lt)
  of_front (One single ∷ es) a b n at h le lt =
      let here : a < length s = h.0 in
      let w = span_within nocase s es (a + 1) b (omega arith) h.2 in (
        omega (arith, w.0, length-take-le n s (omega arith)),
        subst (λ c. takes nocase single c ≡ true) (sym (get_or-take n s a 0 (omega (arith, w.0)))) h.1,
        of_front es (a + 1) b n (omega arith) h.2 le lt,
      )
  of_front (End ∷ es) a b n at h le lt =
      let end : a ≡ length s = h.0 in
      let w = span_within nocase s es a b at h.1 in absurd (omega (arith, w.0))

  -- a match of what is behind a place is one of the whole
  pub of_rest : (es : List Element) (d a b : ℕ) → d ≤ length s → Spans nocase es (drop d s) a b → Spans nocase es s (d + a) (d + b)
  of_rest [] d a b le h = ap (λ i. d + i) h
  of_rest (Star ∷ es) d a b le h =
      (d + h.0, omega (arith, h.1), omega (arith, h.2, length-drop d s), of_rest es d h.0 b le h.3)
  of_rest (One single ∷ es) d a b le h = (
    omega (arith, h.0, length-drop d s),
    subst (λ c. takes nocase single c ≡ true) (get_or-drop d s a 0) h.1,
    subst (λ i. Spans nocase es s i (d + b)) (omega arith) (of_rest es d (a + 1) b le h.2),
  )
  of_rest (End ∷ es) d a b le h =
      (omega (arith, h.0, length-drop d s), of_rest es d a b le h.1)

-- The last run's literal, so far before the run's end, is what a match has that ends behind a place.
pub ends_with : (nocase : Bool) (front run stars : List Element) (offset : ℕ) (bytes : List ℕ) → HasNoStar run → AreStars stars → IsLiteral nocase run offset bytes
    → IsEnding nocase ((front ++ run) ++ stars) (length run - offset) bytes
ends_with nocase front run stars offset bytes none all literal some s a b n h =
    let p = split nocase s (front ++ run) stars a b h in
    let q = split nocase s front run a p.0 p.1 in
    let r = run_first nocase s run q.0 p.0 q.2 in
    let at = stands nocase s run offset bytes literal some q.0 r.0 r.1 in
    let short : p.0 ≤ q.0 + length run = short nocase s run q.0 p.0 none q.2 in
    let fits : q.0 + offset + length bytes ≤ length s = at.fits in
    let within : p.0 ≤ length s = (span_within nocase s run q.0 p.0 (omega arith) q.2).1 in
    ⊎_elim
    (λ (behind : n < p.0). inr (q.0 + offset, omega arith, at))
    (λ (before : p.0 ≤ n). inl (p.0, before, join nocase s (front ++ run) stars a p.0 p.0 p.1 (empty nocase s stars p.0 within all)))
    (cases_lt n p.0)

-- Where a front of a text has no match, one run matches no further before that front's end than it has elements.
pub none_before : (nocase : Bool) (s : List ℕ) (g : Glob) (n : ℕ) → g.anchored ≡ false → behind_star g.elements ≡ None → (0 < n → FindsFirst g nocase (take n s) None)
    → (a b : ℕ) → a < n - length g.elements → ¬ GlobSpan g nocase s a b
none_before nocase s g n free alone none a b lt h =
    let es : List Element = g.elements in
    let some : 0 < n = omega arith in
    let ends : b ≤ a + length es = short nocase s es a b (starless nocase s es alone) h.2 in
    ⊎_elim
    (λ (fits : n < length s).
    let w = span_within nocase s es a b h.0 h.2 in
    none some a b (omega (arith, w.0, length-take-le n s (omega arith)), (λ anchored. absurd (cc)), of_front nocase s es a b n h.0 h.2 (omega arith) fits))
    (λ (whole : length s ≤ n). subst (λ (t : List ℕ). FindsFirst g nocase t None) (take_all n s whole) (none some) a b h)
    (cases_lt n (length s))
