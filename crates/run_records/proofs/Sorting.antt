-- What a stable sort by moments leaves.
use Rattle.std.proofs.Common.{◌≡◌, ℕ, zero, suc, ◌≤◌, ◌<◌, List, [], ◌∷◌, length, get_or, Bool, refl, sym, ap, ◌∙◌, arith}
use Rattle.std.specs.Prelude.{◌==◌, if◌then◌else◌}
use Rattle.std.specs.List.{filter}
use Rattle.std.specs.List.Sorted.{IsNonDecreasingBy, IsStableByKey, ties}
use Rattle.std.specs.Ordering.{is_lt, nat_cmp}
use Rattle.std.proofs.lemmas.Bool.Decides.{nat_tests}
use Rattle.child_events.specs.declared.event.HallEvent.{HallEvent}
use Rattle.child_events.specs.declared.event.HallEvent.TheVariants as hall
use Rattle.run_records.specs.Joined.{at_moment}
use Rattle.child_hands.specs.Record.{moment_in, AscendsFrom, Ascends}

ascends_by : (l : ℕ) (xs : List HallEvent) → IsNonDecreasingBy moment_in xs → ((d : HallEvent) → 0 < length xs → l ≤ moment_in (get_or xs 0 d)) → AscendsFrom l xs
ascends_by l [] up low = tt
ascends_by l (x ∷ xs) up low = (low x (omega arith), ascends_by (moment_in x) xs (λ i j d le lt. up (suc i) (suc j) d (omega (arith, le)) (omega (arith, lt))) (λ d lt. up zero (suc zero) d (omega arith) (omega (arith, lt))))

pub sorted_ascends : (xs : List HallEvent) → IsNonDecreasingBy moment_in xs → Ascends xs
sorted_ascends xs up = ascends_by 0 xs up (λ d lt. omega arith)

same_filter : (p q : HallEvent → Bool) → ((x : HallEvent) → p x ≡ q x) → (xs : List HallEvent) → filter p xs ≡ filter q xs
same_filter p q same [] = refl
same_filter p q same (x ∷ xs) = ap (λ (b : Bool). if b then x ∷ filter p xs else filter p xs) (same x) ∙ ap (λ (l : List HallEvent). if q x then x ∷ l else l) (same_filter p q same xs)

-- entries of one moment tie
ties_at : (m : ℕ) (x : HallEvent) → ties (λ a b. is_lt (nat_cmp (moment_in a) (moment_in b))) (hall.Tick m) x ≡ (moment_in x == m)
ties_at m x = grind (arith, nat_tests)

pub stable_at : (xs ys : List HallEvent) → IsStableByKey moment_in nat_cmp xs ys → (m : ℕ) → at_moment m ys ≡ at_moment m xs
stable_at xs ys stable m = sym (same_filter _ _ (ties_at m) ys) ∙ stable (hall.Tick m) ∙ same_filter _ _ (ties_at m) xs
