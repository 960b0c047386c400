-- Taking each run but the last at its least place, and the last at its greatest, finds the match that is meant.
use Rattle.std.proofs.Common.{◌≡◌, ℕ, ◌+◌, ◌<◌, ◌≤◌, Bool, true, false, cond, ltb, List, [], ◌∷◌, length, get_or, Option, Some, None, lt-ltb, ltb-true, eq-eqb, eqb-true, refl, sym, subst, ◌∙◌, ⊎_elim, arith}
use Rattle.std.specs.Prelude.{IfSome}
use Rattle.std.proofs.lemmas.Bool.{and_from, and_parts, cond-true, cases_lt}
use Rattle.exp_glob.specs.declared.element.Element.{Element}
use Rattle.exp_glob.specs.declared.element.Element.TheVariants.{Star, One, End}
use Rattle.exp_glob.specs.declared.pattern.Glob.{Glob}
use Rattle.exp_glob.specs.Spans.{takes, Spans, GlobSpan, FindsFirst}
use Rattle.exp_glob.specs.Runs.{takes_at, run_end, IsLeastRun, IsGreatestRun, FindsLongest}
use Rattle.exp_glob.specs.Stars.{behind_star}

above_zero : (a : ℕ) → 0 ≤ a
above_zero a = omega arith

pub only_if : (t : Bool) (o : Option ℕ) (m : ℕ) → cond t o None ≡ Some m → (t ≡ true) × (o ≡ Some m)
only_if true o m e = (refl, e)
only_if false o m e = absurd (cc)

some_same : (m n : ℕ) → Some m ≡ Some n → m ≡ n
some_same m n e = cc

none_some : {A : Type 0} (o : Option A) (x : A) → o ≡ None → o ≡ Some x → ⊥
none_some o x p q = cc

module _ (nocase : Bool) (s : List ℕ) where
  -- what stands behind the end of the first run, by what stands behind the first star
  abbrev pub Behind : Option (List Element) → ℕ → ℕ → Type 0
  Behind None m b = m ≡ b
  Behind (Some more) m b = Spans nocase (Star ∷ more) s m b

  -- a match is the first run and what stands behind it
  pub run_first : (es : List Element) (a b : ℕ) → Spans nocase es s a b → (m : ℕ) × (run_end nocase es s a ≡ Some m) × Behind (behind_star es) m b
  run_first [] a b h = (a, refl, h)
  run_first (Star ∷ es) a b h = (a, refl, h)
  run_first (One single ∷ es) a b h =
      let p = run_first es (a + 1) b h.2 in
      let t : takes_at nocase single s a ≡ true = and_from (ltb a (length s)) (takes nocase single (get_or s a 0)) (lt-ltb a (length s) h.0) h.1 in
      (p.0, cond-true (takes_at nocase single s a) (run_end nocase es s (a + 1)) None t ∙ p.1, p.2)
  run_first (End ∷ es) a b h =
      let p = run_first es a b h.1 in
      (p.0, cond-true _ (run_end nocase es s a) None (eq-eqb a (length s) h.0) ∙ p.1, p.2)

  -- a star matches from an earlier place on too
  pub later : (es : List Element) (m n b : ℕ) → m ≤ n → Spans nocase (Star ∷ es) s n b → Spans nocase (Star ∷ es) s m b
  later es m n b le h = (h.0, omega (arith, h.1), h.2, h.3)

  -- and the first run with what stands behind it is a match
  pub run_back : (es : List Element) (a m b : ℕ) → run_end nocase es s a ≡ Some m → Behind (behind_star es) m b → Spans nocase es s a b
  run_back [] a m b e h = some_same a m e ∙ h
  run_back (Star ∷ es) a m b e h = let same : a ≡ m = some_same a m e in later es a m b (omega arith) h
  run_back (One single ∷ es) a m b e h =
      let p = only_if (takes_at nocase single s a) (run_end nocase es s (a + 1)) m e in
      let q = and_parts (ltb a (length s)) (takes nocase single (get_or s a 0)) p.0 in
      (ltb-true a (length s) q.0, q.1, run_back es (a + 1) m b p.1 h)
  run_back (End ∷ es) a m b e h =
      let p = only_if _ (run_end nocase es s a) m e in
      (eqb-true a (length s) p.0, run_back es a m b p.1 h)

  -- a run at a later place ends later
  pub run_grows : (es : List Element) (j k m n : ℕ) → j ≤ k → run_end nocase es s j ≡ Some m → run_end nocase es s k ≡ Some n → m ≤ n
  run_grows [] j k m n le e f = let p : j ≡ m = some_same j m e in let q : k ≡ n = some_same k n f in omega arith
  run_grows (Star ∷ es) j k m n le e f = let p : j ≡ m = some_same j m e in let q : k ≡ n = some_same k n f in omega arith
  run_grows (One single ∷ es) j k m n le e f =
      let p = only_if (takes_at nocase single s j) (run_end nocase es s (j + 1)) m e in
      let q = only_if (takes_at nocase single s k) (run_end nocase es s (k + 1)) n f in
      run_grows es (j + 1) (k + 1) m n (omega arith) p.1 q.1
  run_grows (End ∷ es) j k m n le e f =
      let p = only_if _ (run_end nocase es s j) m e in
      let q = only_if _ (run_end nocase es s k) n f in
      run_grows es j k m n le p.1 q.1

  -- and within the data, behind its start
  pub run_within : (es : List Element) (a m : ℕ) → a ≤ length s → run_end nocase es s a ≡ Some m → (a ≤ m) × (m ≤ length s)
  run_within [] a m le e = let p : a ≡ m = some_same a m e in (omega arith, omega arith)
  run_within (Star ∷ es) a m le e = let p : a ≡ m = some_same a m e in (omega arith, omega arith)
  run_within (One single ∷ es) a m le e =
      let p = only_if (takes_at nocase single s a) (run_end nocase es s (a + 1)) m e in
      let q = and_parts (ltb a (length s)) (takes nocase single (get_or s a 0)) p.0 in
      let lt : a < length s = ltb-true a (length s) q.0 in
      let w = run_within es (a + 1) m (omega arith) p.1 in
      (omega (arith, w.0), w.1)
  run_within (End ∷ es) a m le e =
      let p = only_if _ (run_end nocase es s a) m e in
      run_within es a m le p.1

  -- where the run matches, that is at the least place or later
  pub least_first : (es : List Element) (from j k n : ℕ) → ((i : ℕ) → from ≤ i → i < j → run_end nocase es s i ≡ None) → from ≤ k → run_end nocase es s k ≡ Some n → j ≤ k
  least_first es from j k n none le is =
      ⊎_elim (λ lt. absurd (none_some (run_end nocase es s k) n (none k le lt) is)) (λ ge. ge) (cases_lt k j)

  module _ (es more : List Element) (from j m : ℕ) (is : behind_star es ≡ Some more) (le : from ≤ j) (within : j ≤ length s)
      (ends : run_end nocase es s j ≡ Some m) (none : (i : ℕ) → from ≤ i → i < j → run_end nocase es s i ≡ None) where
    -- taking the first run at its least place takes no end from what stands behind it
    pub onwards : (a b : ℕ) → from ≤ a → Spans nocase es s a b → Spans nocase (Star ∷ more) s m b
    onwards a b ge t =
        let p = run_first es a b t in
        let behind : Spans nocase (Star ∷ more) s p.0 b = subst (λ (o : Option (List Element)). Behind o p.0 b) is p.2 in
        later more m p.0 b (run_grows es j a m p.0 (least_first es from j a p.0 none ge p.1) ends p.1) behind

    -- and gives none that isn't there
    pub backwards : (b : ℕ) → Spans nocase (Star ∷ more) s m b → Spans nocase es s j b
    backwards b t = run_back es j m b ends (subst (λ (o : Option (List Element)). Behind o m b) (sym is) t)

    pub greedy_turn : (r : Option ℕ) → FindsLongest nocase more s m r → FindsLongest nocase es s from r
    greedy_turn None h = λ b t. h b (onwards t.0 b t.1 t.3)
    greedy_turn (Some b) h = ((j, le, within, backwards b h.0), λ d t. h.1 d (onwards t.0 d t.1 t.3))

  -- no place for the first run, no match
  pub no_run : (es : List Element) (from : ℕ) → ((k : ℕ) → from ≤ k → k ≤ length s → run_end nocase es s k ≡ None) → FindsLongest nocase es s from None
  no_run es from none = λ b t. let p = run_first es t.0 b t.3 in none_some (run_end nocase es s t.0) p.0 (none t.0 t.1 t.2) p.1

  -- the last run at its greatest place has the greatest end
  pub last_run : (es : List Element) (from : ℕ) (r : Option ℕ) → behind_star es ≡ None → IsGreatestRun nocase es s from r → FindsLongest nocase es s from r
  last_run es from None alone h = no_run es from h
  last_run es from (Some b) alone h = (
    (h.0, h.1, h.2, run_back es h.0 b b h.3 (subst (λ (o : Option (List Element)). Behind o b b) (sym alone) refl)),
    λ d t.
        let p = run_first es t.0 d t.3 in
        let same : p.0 ≡ d = subst (λ (o : Option (List Element)). Behind o p.0 d) alone p.2 in
        let before : t.0 ≤ h.0 = ⊎_elim (λ lt. absurd (none_some (run_end nocase es s t.0) p.0 (h.4 t.0 lt t.2) p.1)) (λ ge. ge) (cases_lt h.0 t.0) in
        let grows : p.0 ≤ b = run_grows es t.0 h.0 p.0 b before p.1 h.3 in
        omega arith,
  )

  -- a match lies within the data
  pub span_within : (es : List Element) (a b : ℕ) → a ≤ length s → Spans nocase es s a b → (a ≤ b) × (b ≤ length s)
  span_within [] a b le h = (omega (arith, h), omega (arith, h))
  span_within (Star ∷ es) a b le h = let w = span_within es h.0 b h.2 h.3 in (omega (arith, h.1, w.0), w.1)
  span_within (One single ∷ es) a b le h =
      let lt : a < length s = h.0 in
      let w = span_within es (a + 1) b (omega arith) h.2 in (omega (arith, w.0), w.1)
  span_within (End ∷ es) a b le h = span_within es a b le h.1

  module _ (g : Glob) (bound : ℕ) (one : g.anchored ≡ true → bound ≡ 1) (free : g.anchored ≡ false → bound ≡ length s + 1) where
    -- a match starts at one of the places that are tried
    start_below : (a b : ℕ) → GlobSpan g nocase s a b → a < bound
    start_below a b h = by g.anchored refl
      where
        by : (t : Bool) → g.anchored ≡ t → a < bound
        by true is = let zero_is : a ≡ 0 = h.1 is in let at : bound ≡ 1 = one is in omega arith
        by false is = let at : bound ≡ length s + 1 = free is in omega (arith, h.0)

    -- and those are places where one may start
    start_may : (a : ℕ) → a < bound → (a ≤ length s) × (g.anchored ≡ true → a ≡ 0)
    start_may a lt = (by g.anchored refl, λ is. let at : bound ≡ 1 = one is in omega arith)
      where
        by : (t : Bool) → g.anchored ≡ t → a ≤ length s
        by true is = let at : bound ≡ 1 = one is in omega arith
        by false is = let at : bound ≡ length s + 1 = free is in omega arith

    -- what is sought from a place before which no match of one run begins is the least there is
    pub least_of_all : (from : ℕ) (found : Option (ℕ × ℕ)) → behind_star g.elements ≡ None → ((a b : ℕ) → a < from → ¬ GlobSpan g nocase s a b)
        → IsLeastRun nocase g.elements s from bound found → IsLeastRun nocase g.elements s 0 bound found
    least_of_all from found alone none least = by found least
      where
        none_at : (k : ℕ) → k < bound → k < from → run_end nocase g.elements s k ≡ None
        none_at k within before = of (run_end nocase g.elements s k) refl
          where
            of : (o : Option ℕ) → run_end nocase g.elements s k ≡ o → run_end nocase g.elements s k ≡ None
            of None is = is
            of (Some m) is =
                let may = start_may k within in
                absurd (none k m before (may.0, may.1, run_back g.elements k m m is (subst (λ (o : Option (List Element)). Behind o m m) (sym alone) refl)))

        all_below : (n : ℕ) → n ≤ bound → ((k : ℕ) → from ≤ k → k < n → run_end nocase g.elements s k ≡ None) → (k : ℕ) → 0 ≤ k → k < n → run_end nocase g.elements s k ≡ None
        all_below n within later k above lt = ⊎_elim (λ (before : k < from). none_at k (omega arith) before) (λ (behind : from ≤ k). later k behind lt) (cases_lt k from)

        by : (found : Option (ℕ × ℕ)) → IsLeastRun nocase g.elements s from bound found → IsLeastRun nocase g.elements s 0 bound found
        by None later = all_below bound (omega arith) later
        by (Some p) l = (above_zero p.0, l.1, l.2, let lt : p.0 < bound = l.1 in all_below p.0 (omega arith) l.3)

    pub find_no_start : IsLeastRun nocase g.elements s 0 bound None → FindsFirst g nocase s None
    find_no_start none = λ a b h.
        let p = run_first g.elements a b h.2 in
        none_some (run_end nocase g.elements s a) p.0 (none a (above_zero a) (start_below a b h)) p.1

    module _ (start m : ℕ) (least : IsLeastRun nocase g.elements s 0 bound (Some (start, m))) where
      earliest : (c d : ℕ) → GlobSpan g nocase s c d → start ≤ c
      earliest c d h = let p = run_first g.elements c d h.2 in least_first g.elements 0 start c p.0 least.3 (above_zero c) p.1

      pub find_within : (start ≤ m) × (m ≤ length s)
      find_within = run_within g.elements start m (start_may start least.1).0 least.2

      -- a pattern without a star
      pub find_alone : behind_star g.elements ≡ None → FindsFirst g nocase s (Some (start, m))
      find_alone alone =
          let may = start_may start least.1 in (
            (may.0, may.1, run_back g.elements start m m least.2 (subst (λ (o : Option (List Element)). Behind o m m) (sym alone) refl)),
            earliest,
            λ d h.
                let p = run_first g.elements start d h.2 in
                let same : p.0 ≡ d = subst (λ (o : Option (List Element)). Behind o p.0 d) alone p.2 in
                let one_end : p.0 ≡ m = some_same p.0 m (sym p.1 ∙ least.2) in
                omega arith,
          )

      module _ (more : List Element) (is : behind_star g.elements ≡ Some more) where
        pub find_no_end : FindsLongest nocase more s m None → FindsFirst g nocase s None
        find_no_end none = λ a b h.
            none b (onwards g.elements more 0 start m is (above_zero start) (start_may start least.1).0 least.2 least.3 a b (above_zero a) h.2)

        pub find_longest : (b : ℕ) → FindsLongest nocase more s m (Some b) → FindsFirst g nocase s (Some (start, b))
        find_longest b h =
            let may = start_may start least.1 in (
              (may.0, may.1, backwards g.elements more 0 start m is (above_zero start) may.0 least.2 least.3 b h.0),
              earliest,
              λ d t. h.1 d (onwards g.elements more 0 start m is (above_zero start) may.0 least.2 least.3 start d (above_zero start) t.2),
            )

        pub longest_within : (b : ℕ) → FindsLongest nocase more s m (Some b) → (start ≤ b) × (b ≤ length s)
        longest_within b h =
            let w = span_within (Star ∷ more) m b find_within.1 h.0 in
            let le : start ≤ m = find_within.0 in
            (omega (arith, w.0), w.1)

-- the match of a pattern without a star that may begin anywhere, sought from a place before which none begins
module _ (nocase : Bool) (s : List ℕ) (g : Glob) (from : ℕ) (free : g.anchored ≡ false) (alone : behind_star g.elements ≡ None) (none : (a b : ℕ) → a < from → ¬ GlobSpan g nocase s a b) where
  one : g.anchored ≡ true → length s + 1 ≡ 1
  one anchored = absurd (cc)

  all : g.anchored ≡ false → length s + 1 ≡ length s + 1
  all is = refl

  pub run_found : (found : Option (ℕ × ℕ)) → IsLeastRun nocase g.elements s from (length s + 1) found → FindsFirst g nocase s found
  run_found None l = find_no_start nocase s g (length s + 1) one all (least_of_all nocase s g (length s + 1) one all from None alone none l)
  run_found (Some p) l = find_alone nocase s g (length s + 1) one all p.0 p.1 (least_of_all nocase s g (length s + 1) one all from (Some p) alone none l) alone

  pub run_in : (found : Option (ℕ × ℕ)) → IsLeastRun nocase g.elements s from (length s + 1) found → IfSome found (λ r. (r.0 ≤ r.1) × (r.1 ≤ length s))
  run_in None l = tt
  run_in (Some p) l = find_within nocase s g (length s + 1) one all p.0 p.1 (least_of_all nocase s g (length s + 1) one all from (Some p) alone none l)
