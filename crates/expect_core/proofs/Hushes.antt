-- What stays quiet from one test to the next.
use Rattle.std.proofs.Common.{◌≡◌, ◌≢◌, ℕ, zero, suc, ◌+◌, ◌-◌, ◌<◌, ◌≤◌, inl, inr, List, [], ◌∷◌, length, drop, Bool, true, false, Option, Some, None, sym, ap, subst, ◌∙◌, arith}
use Rattle.std.specs.Prelude.{◌==◌, nat_le, nat_lt, slice_set, slice_index_or, replicate, if◌then◌else◌}
use Rattle.std.proofs.lemmas.Bool.{cases_eq, leb-true}
use Rattle.std.proofs.lemmas.Bool.Decides.{nat_tests}
use Rattle.std.proofs.lemmas.List.{get_or-set_other, set-get_or, drop_more}
use Rattle.circular_buffer.specs.Buffer.{keep_last}
use Rattle.exp_match.specs.declared.chosen.Chosen.{Chosen}
use Rattle.exp_match.specs.declared.chosen.Chosen.TheVariants as chosen
use Rattle.exp_match.specs.Decide.{decide}
use Rattle.expect_core.specs.declared.child.Child.{Child}
use Rattle.expect_core.specs.declared.lanes.Lane.{Lane}
use Rattle.expect_core.specs.declared.plan.Plan.{Plan}
use Rattle.expect_core.specs.declared.phase.Heard.{Heard}
use Rattle.expect_core.specs.declared.own.Own.{Own}
use Rattle.expect_core.specs.Owned.{nobody, child_of, bytes_of, with_bytes, with_child, trimmed, told, logged, seen, received}
use Rattle.expect_core.specs.Hearing.{goes}
use Rattle.expect_core.specs.Heard.{Watch, watched, Listened, chosen_of, decided, tested}
use Rattle.expect_core.specs.Quiet.{IsQuiet, side, marked, spared, unmarked, AreQuiet, AreQuietBut, GoesOnQuiet, GoesOnQuietBut, TrimsNone}
use Rattle.expect_core.proofs.Turns.{in_list}

-- bytes that fit are all kept
fits_kept : (n : ℕ) (bytes : List ℕ) → length bytes ≤ n → keep_last n bytes ≡ bytes
fits_kept n bytes le = let none : length bytes - n ≡ 0 = omega (arith, le) in ap (λ (k : ℕ). drop k bytes) none

-- where nothing is dropped, all stays as it is
trimmed_back : (i : ℕ) (o : Own) → keep_last (child_of i o).kept.size (bytes_of i o) ≡ bytes_of i o → trimmed i o ≡ o
trimmed_back i o same =
    ap (λ (bytes : List ℕ). with_bytes i bytes o) same
    ∙ ap (λ (children : List Child). record o { children = children }) (set-get_or o.children i nobody)

-- what is quiet of a child is of its bytes alone
abbrev QuietChild : Plan → List ℕ → Child → Type 0
QuietChild p groups c = (decide p.list.entries groups c.kept.bytes c.kept.size ≡ chosen.None) × (keep_last c.kept.size c.kept.bytes ≡ c.kept.bytes)

beside : (p : Plan) (w : Watch) (i : ℕ) (c : Child) (o : Own) → w.0 ≢ i → IsQuiet p w o → IsQuiet p w (with_child i c o)
beside p w i c o apart quiet = subst (QuietChild p w.1) (sym (get_or-set_other o.children i w.0 c nobody apart)) quiet

trimmed_quiet : (p : Plan) (w : Watch) (i : ℕ) (o : Own) → IsQuiet p w o → IsQuiet p w (trimmed i o)
trimmed_quiet p w i o quiet = elim (cases_eq w.0 i) [
  | inl here ↦
      let same : keep_last (child_of i o).kept.size (bytes_of i o) ≡ bytes_of i o = subst (λ (j : ℕ). keep_last (child_of j o).kept.size (bytes_of j o) ≡ bytes_of j o) here quiet.1 in
      subst (IsQuiet p w) (sym (trimmed_back i o same)) quiet
  | inr apart ↦ beside p w i _ o apart quiet
]

logged_quiet : (b : Bool) (p : Plan) (w : Watch) (text : List ℕ) (o : Own) → IsQuiet p w o → IsQuiet p w (if b then told text o else o)
logged_quiet true p w text o quiet = quiet
logged_quiet false p w text o quiet = quiet

received_quiet : (p : Plan) (w : Watch) (i : ℕ) (piece : List ℕ) (o : Own) → w.0 ≢ i → IsQuiet p w o → IsQuiet p w (received i piece o)
received_quiet p w i piece o apart quiet =
    beside p w i _ (logged (seen i piece o) o) apart (logged_quiet o.log_user p w (seen i piece o) o quiet)

-- marks

unmarked_here : (n k : ℕ) → marked k (replicate n false) ≡ true → ⊥
unmarked_here zero k there = absurd cc
unmarked_here (suc n) zero there = absurd cc
unmarked_here (suc n) (suc k) there = unmarked_here n k there

none_marked : (b : Bool) (n k : ℕ) → marked k (if b then [] else replicate n false) ≡ true → ⊥
none_marked true n k there = absurd cc
none_marked false n k there = unmarked_here n k there

set_marked : (marks : List Bool) (at : ℕ) (b : Bool) → marked at (slice_set marks at b) ≡ true → b ≡ true
set_marked [] at b there = absurd cc
set_marked (m ∷ ms) zero b there = there
set_marked (m ∷ ms) (suc at) b there = set_marked ms at b there

-- at first nothing is marked
pub unmarked_quiet : (p : Plan) (n : ℕ) (marks : List Bool) (o : Own) → marks ≡ unmarked n → AreQuiet p marks o
unmarked_quiet p n marks o is = λ k lt there.
    absurd (none_marked (nat_lt n 2) n k (subst (λ (ms : List Bool). marked k ms ≡ true) is there))

pub unmarked_quiet_but : (p : Plan) (n : ℕ) (marks : List Bool) (o : Own) → marks ≡ unmarked n → AreQuietBut None 0 p marks o
unmarked_quiet_but p n marks o is = λ k lt there. inl (unmarked_quiet p n marks o is k lt there)

-- a piece was taken
pub received_but : (p : Plan) (marks : List Bool) (i : ℕ) (piece : List ℕ) (o new : Own) → new ≡ received i piece o → AreQuiet p marks o → AreQuietBut (Some i) 0 p marks new
received_but p marks i piece o new is quiet = λ k lt there. elim (cases_eq (side p k).0 i) [
  | inl here ↦ inr (omega arith, ap (λ (j : ℕ). Some j) here)
  | inr apart ↦ inl (subst (IsQuiet p (side p k)) (sym is) (received_quiet p (side p k) i piece o apart (quiet k lt there)))
]

-- behind the last one all are tested
pub all_quiet : (changed : Option ℕ) (at : ℕ) (p : Plan) (marks : List Bool) (o : Own) → length (watched p) ≤ at → AreQuietBut changed at p marks o → AreQuiet p marks o
all_quiet changed at p marks o le quiet = λ k lt there. elim (quiet k lt there) [
  | inl q ↦ q
  | inr late ↦ let behind = late.0 in absurd (omega (arith, lt, le, behind))
]

-- the one at an index is spared
same_test : (j : ℕ) → (j == j) ≡ true
same_test j = grind (arith, nat_tests)

spared_other : (changed : Option ℕ) (at i : ℕ) (marks : List Bool) → Some i ≡ changed → spared at i changed marks ≡ true → ⊥
spared_other None at i marks e there = absurd cc
spared_other (Some j) at i marks e there =
    let same : i ≡ j = cc in
    let is : (j == i) ≡ true = ap (λ (n : ℕ). j == n) same ∙ same_test j in
    let no : false ≡ true = sym (ap (λ (b : Bool). if b then false else marked at marks) is) ∙ there in
    absurd cc

spared_marked : (changed : Option ℕ) (at i : ℕ) (marks : List Bool) → spared at i changed marks ≡ true → marked at marks ≡ true
spared_marked None at i marks there = there
spared_marked (Some j) at i marks there = past (j == i) there
  where
    past : (b : Bool) → (if b then false else marked at marks) ≡ true → marked at marks ≡ true
    past true e = absurd cc
    past false e = e

module _ (changed : Option ℕ) (at : ℕ) (p : Plan) (lt : at < length (watched p)) where
  spared_quiet : (w : Watch) (marks : List Bool) (o : Own) → w ≡ side p at → spared at w.0 changed marks ≡ true → AreQuietBut changed at p marks o → IsQuiet p (side p at) o
  spared_quiet w marks o is spare quiet = elim (quiet at lt (spared_marked changed at w.0 marks spare)) [
    | inl q ↦ q
    | inr late ↦ absurd (spared_other changed at w.0 marks (ap (λ (v : Watch). Some v.0) is ∙ late.1) spare)
  ]

  -- then nothing is chosen of it, and nothing dropped
  pub spared_goes : (w : Watch) (marks : List Bool) (o : Own) → w ≡ side p at → spared at w.0 changed marks ≡ true → AreQuietBut changed at p marks o → (lanes : List Lane) (k : Own → Listened) → decided (side p at).0 (chosen_of p (side p at) o) lanes o k ≡ k o
  spared_goes w marks o is spare quiet lanes k =
      let q = spared_quiet w marks o is spare quiet in
      ap (λ (c : Chosen). decided (side p at).0 c lanes o k) q.0 ∙ ap k (trimmed_back (side p at).0 o q.1)

  further : (marks : List Bool) (o : Own) → IsQuiet p (side p at) o → AreQuietBut changed at p marks o → AreQuietBut changed (at + 1) p marks o
  further marks o here quiet = λ k below there. elim (cases_eq k at) [
    | inl same ↦ inl (subst (λ (j : ℕ). IsQuiet p (side p j) o) (sym same) here)
    | inr other ↦ elim (quiet k below there) [
      | inl q ↦ inl q
      | inr late ↦ let le = late.0 in inr (omega (arith, le, other), late.1)
    ]
  ]

  pub spared_further : (w : Watch) (marks : List Bool) (o : Own) → w ≡ side p at → spared at w.0 changed marks ≡ true → AreQuietBut changed at p marks o → AreQuietBut changed (at + 1) p marks o
  spared_further w marks o is spare quiet = further marks o (spared_quiet w marks o is spare quiet) quiet

  -- the one at an index was tested, and nothing chosen
  tested_quiet : (marks : List Bool) (o new : Own) (fits : Bool) → (chosen_of p (side p at) o ≡ chosen.None) → new ≡ trimmed (side p at).0 o → fits ≡ nat_le (length (bytes_of (side p at).0 o)) (child_of (side p at).0 o).kept.size → AreQuietBut changed at p marks o → AreQuietBut changed (at + 1) p (slice_set marks at fits) new
  tested_quiet marks o new fits none is fit quiet = λ k below there. elim (cases_eq k at) [
    | inl same ↦
        let w = side p at in
        let mark : fits ≡ true = set_marked marks at fits (subst (λ (j : ℕ). marked j (slice_set marks at fits) ≡ true) same there) in
        let le : length (bytes_of w.0 o) ≤ (child_of w.0 o).kept.size = leb-true (length (bytes_of w.0 o)) (child_of w.0 o).kept.size (sym fit ∙ mark) in
        let kept : keep_last (child_of w.0 o).kept.size (bytes_of w.0 o) ≡ bytes_of w.0 o = fits_kept (child_of w.0 o).kept.size (bytes_of w.0 o) le in
        let back : new ≡ o = is ∙ trimmed_back w.0 o kept in
        inl (subst (λ (j : ℕ). IsQuiet p (side p j) new) (sym same) (subst (IsQuiet p w) (sym back) (none, kept)))
    | inr other ↦
        elim (quiet k below (sym (get_or-set_other marks at k fits false other) ∙ there)) [
          | inl q ↦ inl (subst (IsQuiet p (side p k)) (sym is) (trimmed_quiet p (side p k) (side p at).0 o q))
          | inr late ↦ let le = late.0 in inr (omega (arith, le, other), late.1)
        ]
  ]

  pub test_quiet : (r : Option Heard) (w : Watch) (marks after : List Bool) (o new : Own) (fits : Bool) → w ≡ side p at → after ≡ slice_set marks at fits → TrimsNone r p w o new → fits ≡ nat_le (length (bytes_of w.0 o)) (child_of w.0 o).kept.size → AreQuietBut changed at p marks o → GoesOnQuietBut r changed (at + 1) p after new
  test_quiet None w marks after o new fits is set trims fit quiet =
      subst (λ (ms : List Bool). AreQuietBut changed (at + 1) p ms new) (sym set)
      (tested_quiet marks o new fits (subst (λ (v : Watch). chosen_of p v o ≡ chosen.None) is trims.0) (trims.1 ∙ ap (λ (v : Watch). trimmed v.0 o) is)
      (fit ∙ ap (λ (v : Watch). nat_le (length (bytes_of v.0 o)) (child_of v.0 o).kept.size) is) quiet)
  test_quiet (Some h) w marks after o new fits is set trims fit quiet = tt

  -- one more of those that take part
  pub one_more : (o : Own) (lanes : List Lane) (k : Own → Listened) → tested p (drop at (watched p)) lanes o k ≡ decided (side p at).0 (chosen_of p (side p at) o) lanes o (λ o. tested p (drop (at + 1) (watched p)) lanes o k)
  one_more o lanes k = ap (λ (ws : List Watch). tested p ws lanes o k) (drop_more (watched p) at (16, []) lt)

-- the one at an index, as it is read
pub side_is : (p : Plan) (at : ℕ) (w : Watch) → at < length (watched p) → w ≡ slice_index_or (watched p) at w → w ≡ side p at
side_is p at w lt is = is ∙ in_list (watched p) at w (16, []) lt

-- what a test of it comes to
pub side_goes : (p : Plan) (at : ℕ) (w : Watch) (r : Option Heard) (o new : Own) → at < length (watched p) → w ≡ slice_index_or (watched p) at w → ((lanes : List Lane) (k : Own → Listened) → decided w.0 (chosen_of p w o) lanes o k ≡ goes r lanes new k) → (lanes : List Lane) (k : Own → Listened) → decided (side p at).0 (chosen_of p (side p at) o) lanes o k ≡ goes r lanes new k
side_goes p at w r o new lt is each lanes k =
    ap (λ (v : Watch). decided v.0 (chosen_of p v o) lanes o k) (sym (side_is p at w lt is)) ∙ each lanes k

-- the next one was tested
pub sides_on : (p : Plan) (at count : ℕ) (o o' first : Own) (changed : Option ℕ) (marks : List Bool) (r : Option Heard) → r ≡ None → count ≡ length (watched p) → at < count
    → ((lanes : List Lane) (k : Own → Listened) → decided (side p at).0 (chosen_of p (side p at) o) lanes o k ≡ goes r lanes o' k)
    → GoesOnQuietBut r changed (at + 1) p marks o'
    → ((lanes : List Lane) (k : Own → Listened) → tested p (drop at (watched p)) lanes o k ≡ tested p (watched p) lanes first k)
    → ((lanes : List Lane) (k : Own → Listened) → tested p (drop (at + 1) (watched p)) lanes o' k ≡ tested p (watched p) lanes first k) × AreQuietBut changed (at + 1) p marks o'
sides_on p at count o o' first changed marks None none is below goes quiet before = (
  λ lanes k.
      sym (one_more changed at p (omega (arith, is, below)) o lanes k ∙ goes lanes (λ o. tested p (drop (at + 1) (watched p)) lanes o k)) ∙ before lanes k,
  quiet,
)
sides_on p at count o o' first changed marks (Some h) none is below goes quiet before = absurd cc

-- a wait that goes on leaves those quiet that were
pub quiet_on : (r : Option Heard) (p : Plan) (marks : List Bool) (o : Own) → r ≡ None → GoesOnQuiet r p marks o → AreQuiet p marks o
quiet_on None p marks o none quiet = quiet
quiet_on (Some h) p marks o none quiet = absurd cc
