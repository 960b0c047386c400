-- What was sought in vain stays so from one test to the next.
use Rattle.std.proofs.Common.{◌≡◌, ◌≢◌, ◌⊎◌, inl, inr, ℕ, zero, suc, ◌+◌, ◌-◌, ◌<◌, ◌≤◌, List, [], ◌∷◌, ◌++◌, length, length-append, take, Bool, true, false, Option, Some, None, refl, sym, ap, subst, ◌∙◌, arith}
use Rattle.std.specs.Prelude.{slice_set, slice_index, slice_index_or, replicate, if◌then◌else◌}
use Rattle.std.proofs.Math.Seq.{take-length}
use Rattle.std.proofs.lemmas.Bool.{cases_eq}
use Rattle.std.proofs.lemmas.List.{get_or-set_other, take-append-le}
use Rattle.circular_buffer.specs.Buffer.{keep_last}
use Rattle.exp_match.specs.Choice.{HasNone}
use Rattle.exp_match.proofs.Lasting.{has_none_in_rest}
use Rattle.expect_core.specs.declared.child.Child.{Child}
use Rattle.expect_core.specs.declared.plan.Plan.{Plan}
use Rattle.expect_core.specs.declared.phase.Heard.{Heard}
use Rattle.expect_core.specs.declared.own.Own.{Own}
use Rattle.expect_core.specs.Owned.{nobody, child_of, bytes_of, with_bytes, with_child, trimmed, told, logged, seen, received}
use Rattle.expect_core.specs.Heard.{Watch, watched}
use Rattle.expect_core.specs.Quiet.{side, TrimsNone}
use Rattle.expect_core.specs.Sought.{IsSought, AreSought, GoesOnSought, FoundNone, Forgets, nothing_sought}

-- what is put at a place is there, or there is nothing before and after
put : (xs : List Child) (i : ℕ) (c : Child) → (slice_index_or (slice_set xs i c) i nobody ≡ c) ⊎ ((slice_index_or (slice_set xs i c) i nobody ≡ nobody) × (slice_index_or xs i nobody ≡ nobody))
put [] i c = inr (refl, refl)
put (x ∷ xs) zero c = inl refl
put (x ∷ xs) (suc i) c = put xs i c

count_put : (counts : List ℕ) (at n : ℕ) → (slice_index (slice_set counts at n) at ≡ n) ⊎ (slice_index (slice_set counts at n) at ≡ 0)
count_put [] at n = inr refl
count_put (m ∷ ms) zero n = inl refl
count_put (m ∷ ms) (suc at) n = count_put ms at n

set_zero : (counts : List ℕ) (at : ℕ) → slice_index (slice_set counts at 0) at ≡ 0
set_zero counts at = elim (count_put counts at 0) [ inl here ↦ here | inr nowhere ↦ nowhere ]

-- one more of those that take part was compared with the child of which nothing is known any more
module _ (p : Plan) (at i : ℕ) (first counts : List ℕ) (before : Forgets i p at first counts) (behind : (k : ℕ) → at ≤ k → slice_index counts k ≡ slice_index first k) where
  pub one_forgotten : (next : List ℕ) → next ≡ slice_set counts at 0 → Forgets i p (at + 1) first next × ((k : ℕ) → at + 1 ≤ k → slice_index next k ≡ slice_index first k)
  one_forgotten next is = (
    (λ k lt. elim (cases_eq k at) [
      | inl same ↦ inl (ap (λ (cs : List ℕ). slice_index cs k) is ∙ subst (λ (j : ℕ). slice_index (slice_set counts at 0) j ≡ 0) (sym same) (set_zero counts at))
      | inr other ↦
          let stays : slice_index next k ≡ slice_index counts k = ap (λ (cs : List ℕ). slice_index cs k) is ∙ get_or-set_other counts at k 0 0 other in
          elim (before k (omega (arith, lt, other))) [
            | inl zero_is ↦ inl (stays ∙ zero_is)
            | inr kept ↦ inr (stays ∙ kept.0, kept.1)
          ]
    ]),
    (λ k le.
        let other : k ≢ at = omega (arith, le) in
        ap (λ (cs : List ℕ). slice_index cs k) is ∙ get_or-set_other counts at k 0 0 other ∙ behind k (omega (arith, le))),
  )

  pub one_kept : (next : List ℕ) → next ≡ counts → (side p at).0 ≢ i → Forgets i p (at + 1) first next × ((k : ℕ) → at + 1 ≤ k → slice_index next k ≡ slice_index first k)
  one_kept next is apart = (
    subst (λ (cs : List ℕ). Forgets i p (at + 1) first cs) (sym is)
        (λ k lt. elim (cases_eq k at) [
          | inl same ↦ inr (behind k (omega (arith, same)), subst (λ (j : ℕ). (side p j).0 ≢ i) (sym same) apart)
          | inr other ↦ before k (omega (arith, lt, other))
        ]),
    (λ k le. ap (λ (cs : List ℕ). slice_index cs k) is ∙ behind k (omega (arith, le))),
  )

-- of a child: what is said is said of its bytes alone
abbrev SoughtIn : Plan → List ℕ → ℕ → List ℕ → Type 0
SoughtIn p groups n bytes = (n ≤ length bytes) × (0 < n → HasNone p.list.entries groups (take n bytes))

module _ (p : Plan) where
  unsought : (w : Watch) (n : ℕ) (o : Own) → n ≡ 0 → IsSought p w n o
  unsought w n o is = (omega arith, λ some. absurd (omega arith))

  all_sought : (groups bytes : List ℕ) → HasNone p.list.entries groups bytes → SoughtIn p groups (length bytes) bytes
  all_sought groups bytes none = (omega arith, λ some. subst (HasNone p.list.entries groups) (sym (take-length bytes)) none)

  -- of another child
  beside : (w : Watch) (i n : ℕ) (c : Child) (o : Own) → w.0 ≢ i → IsSought p w n o → IsSought p w n (with_child i c o)
  beside w i n c o apart sought =
      subst (λ (d : Child). SoughtIn p w.1 n d.kept.bytes) (sym (get_or-set_other o.children i w.0 c nobody apart)) sought

  -- the last bytes of those that were all tested
  trimmed_sought : (w : Watch) (o : Own) → HasNone p.list.entries w.1 (bytes_of w.0 o) → IsSought p w (length (bytes_of w.0 (trimmed w.0 o))) (trimmed w.0 o)
  trimmed_sought w o none =
      let b = bytes_of w.0 o in
      let size = (child_of w.0 o).kept.size in
      let c : Child = record (child_of w.0 o) { kept = record (child_of w.0 o).kept { bytes = keep_last size b } } in
      elim (put o.children w.0 c) [
        | inl here ↦
            subst (λ (d : Child). SoughtIn p w.1 (length d.kept.bytes) d.kept.bytes) (sym here)
            (all_sought w.1 (keep_last size b) (has_none_in_rest p.list.entries w.1 b (length b - size) (omega arith) none))
        | inr nowhere ↦
            subst (λ (d : Child). SoughtIn p w.1 (length d.kept.bytes) d.kept.bytes) (sym nowhere.0) (omega arith, λ some. absurd (omega arith))
      ]

  -- more bytes behind them
  more : (groups bytes piece : List ℕ) (n : ℕ) → SoughtIn p groups n bytes → SoughtIn p groups n (bytes ++ piece)
  more groups bytes piece n sought = (
    omega (arith, sought.0, length-append bytes piece),
    λ some. subst (HasNone p.list.entries groups) (sym (take-append-le n bytes piece sought.0)) (sought.1 some),
  )

  logged_sought : (b : Bool) (w : Watch) (n : ℕ) (text : List ℕ) (o : Own) → IsSought p w n o → IsSought p w n (if b then told text o else o)
  logged_sought true w n text o sought = sought
  logged_sought false w n text o sought = sought

  kept_sought : (w : Watch) (n : ℕ) (piece : List ℕ) (o : Own) → IsSought p w n o → IsSought p w n (with_bytes w.0 (bytes_of w.0 o ++ piece) o)
  kept_sought w n piece o sought =
      let c : Child = record (child_of w.0 o) { kept = record (child_of w.0 o).kept { bytes = bytes_of w.0 o ++ piece } } in
      elim (put o.children w.0 c) [
        | inl here ↦ subst (λ (d : Child). SoughtIn p w.1 n d.kept.bytes) (sym here) (more w.1 (bytes_of w.0 o) piece n sought)
        | inr nowhere ↦ subst (λ (d : Child). SoughtIn p w.1 n d.kept.bytes) (nowhere.1 ∙ sym nowhere.0) sought
      ]

  received_here : (b : Bool) (w : Watch) (n : ℕ) (piece : List ℕ) (o : Own) → IsSought p w n o → IsSought p w n (with_bytes w.0 (bytes_of w.0 o ++ piece) (if b then told piece o else o))
  received_here true w n piece o sought = kept_sought w n piece (told piece o) sought
  received_here false w n piece o sought = kept_sought w n piece o sought

  received_sought : (w : Watch) (i n : ℕ) (piece : List ℕ) (o : Own) → IsSought p w n o → IsSought p w n (received i piece o)
  received_sought w i n piece o sought = elim (cases_eq w.0 i) [
    | inl here ↦ subst (λ (j : ℕ). IsSought p w n (received j piece o)) here (received_here o.log_user w n (seen w.0 piece o) o sought)
    | inr apart ↦ beside w i n _ (logged (seen i piece o) o) apart (logged_sought o.log_user w n (seen i piece o) o sought)
  ]

  -- at first
  none_counted : (m k : ℕ) → slice_index (replicate m 0) k ≡ 0
  none_counted zero k = refl
  none_counted (suc m) zero = refl
  none_counted (suc m) (suc k) = none_counted m k

  pub sought_at_first : (n : ℕ) (counts : List ℕ) (o : Own) → counts ≡ nothing_sought n → AreSought p counts o
  sought_at_first n counts o is = λ k lt. unsought (side p k) (slice_index counts k) o (ap (λ (cs : List ℕ). slice_index cs k) is ∙ none_counted n k)

  -- a piece was taken
  pub sought_behind : (counts : List ℕ) (i : ℕ) (piece : List ℕ) (o new : Own) → new ≡ received i piece o → AreSought p counts o → AreSought p counts new
  sought_behind counts i piece o new is sought = λ k lt.
      subst (IsSought p (side p k) (slice_index counts k)) (sym is) (received_sought (side p k) i (slice_index counts k) piece o (sought k lt))

  -- the one at an index was tested, and nothing chosen
  tested_sought : (at n : ℕ) (counts forgot : List ℕ) (o new : Own) → HasNone p.list.entries (side p at).1 (bytes_of (side p at).0 o) → new ≡ trimmed (side p at).0 o
      → Forgets (side p at).0 p (length (watched p)) counts forgot → n ≡ length (bytes_of (side p at).0 new) → AreSought p counts o → AreSought p (slice_set forgot at n) new
  tested_sought at n counts forgot o new none is forgets count sought = λ k lt. elim (cases_eq k at) [
    | inl same ↦
        subst (λ (j : ℕ). IsSought p (side p j) (slice_index (slice_set forgot at n) j) new) (sym same)
        (elim (count_put forgot at n) [
          | inl here ↦
              subst (λ (m : ℕ). IsSought p (side p at) m new) (sym (here ∙ count))
              (subst (λ (x : Own). IsSought p (side p at) (length (bytes_of (side p at).0 x)) x) (sym is) (trimmed_sought (side p at) o none))
          | inr zero_is ↦ unsought (side p at) _ new zero_is
        ])
    | inr other ↦
        let stays : slice_index (slice_set forgot at n) k ≡ slice_index forgot k = get_or-set_other forgot at k n 0 other in
        elim (forgets k lt) [
          | inl zero_is ↦ unsought (side p k) _ new (stays ∙ zero_is)
          | inr kept ↦
              subst (λ (m : ℕ). IsSought p (side p k) m new) (sym (stays ∙ kept.0))
              (subst (λ (x : Own). IsSought p (side p k) (slice_index counts k) x) (sym is) (beside (side p k) (side p at).0 (slice_index counts k) _ o kept.1 (sought k lt)))
        ]
  ]

  pub test_sought : (r : Option Heard) (w : Watch) (at n : ℕ) (counts forgot after : List ℕ) (o new : Own) → w ≡ side p at → FoundNone r p w o → TrimsNone r p w o new
      → Forgets w.0 p (length (watched p)) counts forgot → after ≡ slice_set forgot at n → n ≡ length (bytes_of w.0 new) → AreSought p counts o → GoesOnSought r p after new
  test_sought None w at n counts forgot after o new is none trims forgets set count sought =
      subst (λ (cs : List ℕ). AreSought p cs new) (sym set)
      (tested_sought at n counts forgot o new (subst (λ (v : Watch). HasNone p.list.entries v.1 (bytes_of v.0 o)) is none) (trims.1 ∙ ap (λ (v : Watch). trimmed v.0 o) is)
      (subst (λ (v : Watch). Forgets v.0 p (length (watched p)) counts forgot) is forgets) (count ∙ ap (λ (v : Watch). length (bytes_of v.0 new)) is) sought)
  test_sought (Some h) w at n counts forgot after o new is none trims forgets set count sought = tt

  -- a wait that goes on
  pub sought_on : (r : Option Heard) (counts : List ℕ) (o : Own) → r ≡ None → GoesOnSought r p counts o → AreSought p counts o
  sought_on None counts o none sought = sought
  sought_on (Some h) counts o none sought = absurd cc
