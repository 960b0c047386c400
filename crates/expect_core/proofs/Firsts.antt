-- What is taken as a child's first item is what a wait for this child alone takes.
use Rattle.std.proofs.Common.{◌≡◌, ◌≢◌, ℕ, zero, suc, ◌≤◌, ◌<◌, List, [], ◌∷◌, Bool, true, false, Option, Some, None, inr, refl, sym, ap, subst, ◌∙◌, arith}
use Rattle.std.specs.Prelude.{slice_get, if◌then◌else◌}
use Rattle.child_events.specs.declared.event.Item.{Item}
use Rattle.child_events.specs.Queue.{Queued, stamped}
use Rattle.child_events.specs.Next.{IsNext}
use Rattle.expect_core.specs.Heard.{Watch, at_most, in_time, place_in, head_of, heads}
use Rattle.expect_core.specs.Waits.{FirstIsTaken}

abbrev First : Type 0
First = Option (ℕ × Item) × List Queued

-- a single next item is the earliest, and no other can come
alone : (h m : ℕ) → IsNext (Some m ∷ []) h (Some 0)
alone h m = (m, record { here = refl; none_earlier = none_earlier m; first = λ j n lt is. absurd (let no : j < 0 = lt in omega arith) }, inr (there m))
  where
    none_earlier : (m j n : ℕ) → slice_get (Some m ∷ []) j ≡ Some (Some n) → m ≤ n
    none_earlier m zero n is = let same : m ≡ n = cc in omega (arith, same)
    none_earlier m (suc j) n is = absurd (cc)

    there : (m j : ℕ) → slice_get (Some m ∷ []) j ≢ Some None
    there m zero is = cc
    there m (suc j) is = cc

came : (q : Queued) (qs : List Queued) (b : Bool) → (let r : First = (if b then (Some (stamped q), qs) else (None, q ∷ qs)) in r) ≡ (Some (stamped q), qs) → b ≡ true
came q qs true is = refl
came q qs false is = absurd (let none : None ≡ Some (stamped q) = ap (λ (r : First). r.0) is in cc)

pub first_is_taken : FirstIsTaken
first_is_taken limit h p lanes i groups q qs sides deadline items = (
  λ taken.
      let on_time : at_most q.moment limit ≡ true = subst (λ (d : Option ℕ). in_time limit d q.moment ≡ true) deadline taken.on_time in
      ap (λ (b : Bool). let r : First = (if b then (Some (stamped q), qs) else (None, q ∷ qs)) in r) on_time,
  λ first. record {
    side = 0;
    here = ap (λ (ws : List Watch). place_in ws 0) sides;
    next = subst (λ (hs : List (Option ℕ)). IsNext hs h (Some 0)) (sym (ap (λ (ws : List Watch). heads ws lanes) sides ∙ ap (λ (l : List Queued). head_of l ∷ []) items)) (alone h q.moment);
    first = items;
    on_time = subst (λ (d : Option ℕ). in_time limit d q.moment ≡ true) (sym deadline) (came q qs (at_most q.moment limit) first);
  },
)
