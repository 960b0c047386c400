-- The earliest of several next items, and what later ones change of it.
use Rattle.std.proofs.Common.{◌≡◌, ℕ, zero, suc, ◌<◌, ◌≤◌, List, [], ◌∷◌, Bool, true, false, ◌||◌, Option, Some, None, ◌⊎◌, inl, inr, refl, sym, ap, subst, ◌∙◌, arith}
use Rattle.std.specs.Prelude.{nat_le, nat_lt, is_some, slice_get, if◌then◌else◌}
use Rattle.std.specs.List.{list_all}
use Rattle.std.proofs.lemmas.Bool.{leb-true, leb-false, ltb-true, ltb-false, lt-ltb, lt-leb, le-leb}
use Rattle.child_events.specs.Next.{IsEarliest, IsNext, further, nearer, in_front, earliest, settled, next_of, Arrives, AllArrive, StaysNext, ComesLater}

-- the function gives what the relation says

abbrev IsFound : List (Option ℕ) → Option (ℕ × ℕ) → Type 0
IsFound heads None = (j n : ℕ) → slice_get heads j ≡ Some (Some n) → ⊥
IsFound heads (Some x) = IsEarliest heads x.0 x.1

none_further : (heads : List (Option ℕ)) → IsFound heads None → IsFound (None ∷ heads) None
none_further heads none zero n e = cc
none_further heads none (suc j) n e = none j n e

not_earlier : (heads : List (Option ℕ)) (i m : ℕ) → IsEarliest heads i m → (j n : ℕ) → slice_get (None ∷ heads) j ≡ Some (Some n) → m ≤ n
not_earlier heads i m is zero n e = absurd (let no : Some None ≡ Some (Some n) = e in cc)
not_earlier heads i m is (suc j) n e = is.none_earlier j n e

still_first : (heads : List (Option ℕ)) (i m : ℕ) → IsEarliest heads i m → (j n : ℕ) → j < suc i → slice_get (None ∷ heads) j ≡ Some (Some n) → m < n
still_first heads i m is zero n lt e = absurd (let no : Some None ≡ Some (Some n) = e in cc)
still_first heads i m is (suc j) n lt e = is.first j n (omega (arith, lt)) e

found_further : (heads : List (Option ℕ)) (x : Option (ℕ × ℕ)) → IsFound heads x → IsFound (None ∷ heads) (further x)
found_further heads None is = none_further heads is
found_further heads (Some x) is = record {
  here = is.here;
  none_earlier = not_earlier heads x.0 x.1 is;
  first = still_first heads x.0 x.1 is;
}

same_moment : (m n : ℕ) → Some (Some m) ≡ Some (Some n) → m ≡ n
same_moment m n e = cc

alone_least : (m : ℕ) (heads : List (Option ℕ)) → IsFound heads None → (j n : ℕ) → slice_get (Some m ∷ heads) j ≡ Some (Some n) → m ≤ n
alone_least m heads is zero n e = omega (arith, same_moment m n e)
alone_least m heads is (suc j) n e = absurd (is j n e)

front_least : (m : ℕ) (heads : List (Option ℕ)) (i k : ℕ) → IsEarliest heads i k → m ≤ k → (j n : ℕ) → slice_get (Some m ∷ heads) j ≡ Some (Some n) → m ≤ n
front_least m heads i k is le zero n e = omega (arith, same_moment m n e)
front_least m heads i k is le (suc j) n e = omega (arith, is.none_earlier j n e)

behind_least : (m : ℕ) (heads : List (Option ℕ)) (i k : ℕ) → IsEarliest heads i k → k < m → (j n : ℕ) → slice_get (Some m ∷ heads) j ≡ Some (Some n) → k ≤ n
behind_least m heads i k is lt zero n e = omega (arith, same_moment m n e)
behind_least m heads i k is lt (suc j) n e = is.none_earlier j n e

behind_first : (m : ℕ) (heads : List (Option ℕ)) (i k : ℕ) → IsEarliest heads i k → k < m → (j n : ℕ) → j < suc i → slice_get (Some m ∷ heads) j ≡ Some (Some n) → k < n
behind_first m heads i k is lt zero n below e = omega (arith, same_moment m n e)
behind_first m heads i k is lt (suc j) n below e = is.first j n (omega (arith, below)) e

none_before : (m : ℕ) (heads : List (Option ℕ)) (j n : ℕ) → j < 0 → slice_get (Some m ∷ heads) j ≡ Some (Some n) → m < n
none_before m heads j n lt e = absurd (let no : j < 0 = lt in omega arith)

found_nearer : (m : ℕ) (heads : List (Option ℕ)) (x : ℕ × ℕ) → IsEarliest heads x.0 x.1 → (b : Bool) → nat_le m x.1 ≡ b → IsFound (Some m ∷ heads) (if b then Some (0, m) else Some (suc x.0, x.1))
found_nearer m heads x is true e = record {
  here = refl;
  none_earlier = front_least m heads x.0 x.1 is (leb-true m x.1 e);
  first = none_before m heads;
}
found_nearer m heads x is false e = record {
  here = is.here;
  none_earlier = behind_least m heads x.0 x.1 is (leb-false m x.1 e);
  first = behind_first m heads x.0 x.1 is (leb-false m x.1 e);
}

found_in_front : (m : ℕ) (heads : List (Option ℕ)) (x : Option (ℕ × ℕ)) → IsFound heads x → IsFound (Some m ∷ heads) (nearer m x)
found_in_front m heads None is = record { here = refl; none_earlier = alone_least m heads is; first = none_before m heads }
found_in_front m heads (Some x) is = found_nearer m heads x is (nat_le m x.1) refl

nothing_there : (j n : ℕ) → slice_get [] j ≡ Some (Some n) → ⊥
nothing_there zero n e = cc
nothing_there (suc j) n e = cc

found : (heads : List (Option ℕ)) → IsFound heads (earliest heads)
found [] = nothing_there
found (None ∷ heads) = found_further heads (earliest heads) (found heads)
found (Some m ∷ heads) = found_in_front m heads (earliest heads) (found heads)

-- each has one, or one has none

all_have : (heads : List (Option ℕ)) → list_all is_some heads ≡ true → (j : ℕ) → slice_get heads j ≡ Some None → ⊥
all_have [] e zero n = cc
all_have [] e (suc j) n = cc
all_have (None ∷ heads) e j n = absurd (let no : false ≡ true = e in cc)
all_have (Some m ∷ heads) e zero n = absurd (let no : Some (Some m) ≡ Some None = n in cc)
all_have (Some m ∷ heads) e (suc j) n = all_have heads e j n

one_lacks : (heads : List (Option ℕ)) → list_all is_some heads ≡ false → ((j : ℕ) → slice_get heads j ≡ Some None → ⊥) → ⊥
one_lacks [] e all = absurd (let no : true ≡ false = e in cc)
one_lacks (None ∷ heads) e all = all 0 refl
one_lacks (Some m ∷ heads) e all = one_lacks heads e (λ j. all (suc j))

settled_is : (heads : List (Option ℕ)) (h : ℕ) (x : ℕ × ℕ) → IsEarliest heads x.0 x.1 → (a b : Bool) → nat_lt x.1 h ≡ a → list_all is_some heads ≡ b → IsNext heads h (if a || b then Some x.0 else None)
settled_is heads h x is true b ea eb = (x.1, is, inl (ltb-true x.1 h ea))
settled_is heads h x is false true ea eb = (x.1, is, inr (all_have heads eb))
settled_is heads h x is false false ea eb =
    λ i m other is_settled.
    elim is_settled [
      | inl lt ↦ absurd (let above = ltb-false x.1 h ea in let same = is.none_earlier i m other.here in omega (arith, same, above, other.none_earlier x.0 x.1 is.here, lt))
      | inr all ↦ absurd (one_lacks heads eb all)
    ]

next_by : (heads : List (Option ℕ)) (h : ℕ) (x : Option (ℕ × ℕ)) → IsFound heads x → IsNext heads h (settled heads h x)
next_by heads h None is = λ i m other is_settled. absurd (is i m other.here)
next_by heads h (Some x) is = settled_is heads h x is (nat_lt x.1 h) (list_all is_some heads) refl refl

pub next_is : (heads : List (Option ℕ)) (h : ℕ) → IsNext heads h (next_of heads h)
next_is heads h = next_by heads h (earliest heads) (found heads)

-- later

abbrev IsLate : ℕ → Option (ℕ × ℕ) → Type 0
IsLate h None = Unit {0}
IsLate h (Some x) = h ≤ x.1

-- the earliest stays, or neither is before h
abbrev IsAlike : ℕ → Option (ℕ × ℕ) → Option (ℕ × ℕ) → Type 0
IsAlike h x y = (y ≡ x) ⊎ (IsLate h x × IsLate h y)

late_further : (h : ℕ) (x : Option (ℕ × ℕ)) → IsLate h x → IsLate h (further x)
late_further h None late = tt
late_further h (Some x) late = late

late_by : (h m : ℕ) (x : ℕ × ℕ) (b : Bool) → h ≤ m → h ≤ x.1 → IsLate h (if b then Some (0, m) else Some (suc x.0, x.1))
late_by h m x true le late = le
late_by h m x false le late = late

late_nearer : (h m : ℕ) (x : Option (ℕ × ℕ)) → h ≤ m → IsLate h x → IsLate h (nearer m x)
late_nearer h m None le late = le
late_nearer h m (Some x) le late = late_by h m x (nat_le m x.1) le late

-- an early moment is in front of late ones
early_first : (h m : ℕ) (x : Option (ℕ × ℕ)) → m < h → IsLate h x → nearer m x ≡ Some (0, m)
early_first h m None lt late = refl
early_first h m (Some x) lt late = ap (λ (b : Bool). if b then Some (0, m) else Some (suc x.0, x.1)) (le-leb m x.1 (omega (arith, lt, late)))

-- and a late one behind an early one
late_behind : (h n : ℕ) (x : ℕ × ℕ) → h ≤ n → x.1 < h → nearer n (Some x) ≡ Some (suc x.0, x.1)
late_behind h n x le lt = ap (λ (b : Bool). if b then Some (0, n) else Some (suc x.0, x.1)) (lt-leb n x.1 (omega (arith, le, lt)))

alike_stays : (h m : ℕ) (x y : Option (ℕ × ℕ)) → IsLate h x → IsLate h y → (b : Bool) → nat_le h m ≡ b → IsAlike h (nearer m x) (nearer m y)
alike_stays h m x y lx ly true e = inr (late_nearer h m x (leb-true h m e) lx, late_nearer h m y (leb-true h m e) ly)
alike_stays h m x y lx ly false e = inl (early_first h m y (leb-false h m e) ly ∙ sym (early_first h m x (leb-false h m e) lx))

alike_same : (h n : ℕ) (x : ℕ × ℕ) → h ≤ n → (b : Bool) → nat_le h x.1 ≡ b → IsAlike h (further (Some x)) (nearer n (Some x))
alike_same h n x le true e = inr (leb-true h x.1 e, late_nearer h n (Some x) le (leb-true h x.1 e))
alike_same h n x le false e = inl (late_behind h n x le (leb-false h x.1 e))

alike_comes : (h n : ℕ) (x : Option (ℕ × ℕ)) → h ≤ n → IsAlike h (further x) (nearer n x)
alike_comes h n None le = inr (tt, le)
alike_comes h n (Some x) le = alike_same h n x le (nat_le h x.1) refl

alike_front : (h : ℕ) (a b : Option ℕ) (x y : Option (ℕ × ℕ)) → Arrives h a b → IsAlike h x y → IsAlike h (in_front a x) (in_front b y)
alike_front h (Some m) b x y e alike =
    subst (λ (b : Option ℕ). IsAlike h (nearer m x) (in_front b y)) (sym e)
    (elim alike [ inl same ↦ inl (ap (nearer m) same) | inr late ↦ alike_stays h m x y late.0 late.1 (nat_le h m) refl ])
alike_front h None None x y e alike =
    elim alike [ inl same ↦ inl (ap further same) | inr late ↦ inr (late_further h x late.0, late_further h y late.1) ]
alike_front h None (Some n) x y le alike =
    elim alike [
      | inl same ↦ subst (λ (y : Option (ℕ × ℕ)). IsAlike h (further x) (nearer n y)) (sym same) (alike_comes h n x le)
      | inr late ↦ inr (late_further h x late.0, late_nearer h n y le late.1)
    ]

alike : (h : ℕ) (olds news : List (Option ℕ)) → AllArrive h olds news → IsAlike h (earliest olds) (earliest news)
alike h [] [] all = inl refl
alike h (x ∷ xs) (y ∷ ys) all = alike_front h x y (earliest xs) (earliest ys) all.0 (alike h xs ys all.1)
alike h (x ∷ xs) [] all = absurd all
alike h [] (y ∷ ys) all = absurd all

-- where each has one, nothing changes
unchanged : (h : ℕ) (olds news : List (Option ℕ)) → AllArrive h olds news → list_all is_some olds ≡ true → news ≡ olds
unchanged h [] [] all e = refl
unchanged h (Some m ∷ xs) (y ∷ ys) all e = ap (λ (y : Option ℕ). y ∷ ys) all.0 ∙ ap (λ (l : List (Option ℕ)). Some m ∷ l) (unchanged h xs ys all.1 e)
unchanged h (None ∷ xs) (y ∷ ys) all e = absurd (let no : false ≡ true = e in cc)
unchanged h (x ∷ xs) [] all e = absurd all
unchanged h [] (y ∷ ys) all e = absurd all

early_taken : (heads : List (Option ℕ)) (h : ℕ) (x : ℕ × ℕ) → x.1 < h → settled heads h (Some x) ≡ Some x.0
early_taken heads h x lt = ap (λ (b : Bool). if b || list_all is_some heads then Some x.0 else None) (lt-ltb x.1 h lt)

or_true : (a : Bool) → (a || true) ≡ true
or_true true = refl
or_true false = refl

all_taken : (heads : List (Option ℕ)) (h : ℕ) (x : ℕ × ℕ) → list_all is_some heads ≡ true → settled heads h (Some x) ≡ Some x.0
all_taken heads h x e =
    ap (λ (b : Bool). if nat_lt x.1 h || b then Some x.0 else None) e
    ∙ ap (λ (b : Bool). if b then Some x.0 else None) (or_true (nat_lt x.1 h))

module _ (h h' : ℕ) (olds news : List (Option ℕ)) (le : h ≤ h') (all : AllArrive h olds news) where
  stays_early : (x : ℕ × ℕ) → x.1 < h → IsAlike h (Some x) (earliest news) → next_of news h' ≡ Some x.0
  stays_early x lt alike =
      elim alike [
        | inl same ↦ ap (settled news h') same ∙ early_taken news h' x (omega (arith, lt, le))
        | inr late ↦ absurd (omega (arith, lt, late.0))
      ]

  stays_by : (x : ℕ × ℕ) → earliest olds ≡ Some x → (a b : Bool) → nat_lt x.1 h ≡ a → list_all is_some olds ≡ b → (i : ℕ) → (if a || b then Some x.0 else None) ≡ Some i → next_of news h' ≡ Some i
  stays_by x is true b ea eb i e = stays_early x (ltb-true x.1 h ea) (subst (λ (x : Option (ℕ × ℕ)). IsAlike h x (earliest news)) is (alike h olds news all)) ∙ e
  stays_by x is false true ea eb i e =
      ap (λ (l : List (Option ℕ)). next_of l h') (unchanged h olds news all eb)
      ∙ ap (settled olds h') is
      ∙ all_taken olds h' x eb
      ∙ e
  stays_by x is false false ea eb i e = absurd (let no : None ≡ Some i = e in cc)

  stays_from : (x : Option (ℕ × ℕ)) → earliest olds ≡ x → (i : ℕ) → settled olds h x ≡ Some i → next_of news h' ≡ Some i
  stays_from None is i e = absurd (let no : None ≡ Some i = e in cc)
  stays_from (Some x) is i e = stays_by x is (nat_lt x.1 h) (list_all is_some olds) refl refl i e

pub stays_next : StaysNext
stays_next h h' olds news le all i e = stays_from h h' olds news le all (earliest olds) refl i e

-- nothing is settled, so it is late
late_unsettled : (heads : List (Option ℕ)) (h : ℕ) (x : ℕ × ℕ) (a b : Bool) → nat_lt x.1 h ≡ a → (if a || b then Some x.0 else None) ≡ None → h ≤ x.1
late_unsettled heads h x true b ea e = absurd (let no : Some x.0 ≡ None = e in cc)
late_unsettled heads h x false b ea e = ltb-false x.1 h ea

late_none : (heads : List (Option ℕ)) (h : ℕ) (x : Option (ℕ × ℕ)) → settled heads h x ≡ None → IsLate h x
late_none heads h None e = tt
late_none heads h (Some x) e = late_unsettled heads h x (nat_lt x.1 h) (list_all is_some heads) refl e

late_alike : (h : ℕ) (x y : Option (ℕ × ℕ)) → IsLate h x → IsAlike h x y → IsLate h y
late_alike h x y late alike = elim alike [ inl same ↦ subst (IsLate h) (sym same) late | inr late ↦ late.1 ]

-- what is taken is the earliest
taken_by : (x : ℕ × ℕ) (b : Bool) (i : ℕ) → (if b then Some x.0 else None) ≡ Some i → i ≡ x.0
taken_by x true i e = cc
taken_by x false i e = absurd (let no : None ≡ Some i = e in cc)

taken_late : (news : List (Option ℕ)) (h h' : ℕ) (x : Option (ℕ × ℕ)) → IsFound news x → IsLate h x → (i m : ℕ) → settled news h' x ≡ Some i → slice_get news i ≡ Some (Some m) → h ≤ m
taken_late news h h' None is late i m e at = absurd (let no : None ≡ Some i = e in cc)
taken_late news h h' (Some x) is late i m e at =
    let same = taken_by x (nat_lt x.1 h' || list_all is_some news) i e in
    let here : Some (Some x.1) ≡ Some (Some m) = sym is.here ∙ ap (slice_get news) (sym same) ∙ at in
    omega (arith, late, same_moment x.1 m here)

pub comes_later : ComesLater
comes_later h h' olds news all none i m e at =
    taken_late news h h' (earliest news) (found news)
    (late_alike h (earliest olds) (earliest news) (late_none olds h (earliest olds) none) (alike h olds news all))
    i m e at

-- what is taken is there
taken_there : (heads : List (Option ℕ)) (h i : ℕ) (x : Option ℕ) → x ≡ Some i → IsNext heads h x → (m : ℕ) × (slice_get heads i ≡ Some (Some m))
taken_there heads h i None e is = absurd (let no : None ≡ Some i = e in cc)
taken_there heads h i (Some j) e is =
    let same : j ≡ i = cc in
    (is.0, ap (slice_get heads) (sym same) ∙ is.1.here)

pub next_there : (heads : List (Option ℕ)) (h i : ℕ) → next_of heads h ≡ Some i → (m : ℕ) × (slice_get heads i ≡ Some (Some m))
next_there heads h i e = taken_there heads h i (next_of heads h) e (next_is heads h)

pub is_next : (heads : List (Option ℕ)) (h : ℕ) (r : Option ℕ) → r ≡ next_of heads h → IsNext heads h r
is_next heads h r e = subst (IsNext heads h) (sym e) (next_is heads h)
