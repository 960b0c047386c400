-- The least of the moments up to which sessions wait.
use Rattle.std.proofs.Common.{◌≡◌, ℕ, zero, suc, ◌<◌, List, [], ◌∷◌, ◌++◌, length, take, drop, min, refl, sym, ap, subst, ◌∙◌, arith, Option, Some, None}
use Rattle.std.specs.Prelude.{slice_index_or, IsTrue}
use Rattle.expect_core.specs.Deadlines.{IsWithin, sooner}
use Rattle.session.specs.Left.{Kept}
use Rattle.session.specs.Quiet.{waits_until, QuietUntil}
use Rattle.dialogue_sched.specs.Deadlines.{soonest, AllQuietUntil}

in_any_order : (a b c : Option ℕ) → sooner (sooner a b) c ≡ sooner a (sooner b c)
in_any_order None b c = refl
in_any_order (Some m) None c = refl
in_any_order (Some m) (Some n) None = refl
in_any_order (Some m) (Some n) (Some o) = ap Some (let same : min (min m n) o ≡ min m (min n o) = omega arith in same)

within_both : (m : ℕ) (a b : Option ℕ) → IsWithin m (sooner a b) → IsWithin m a × IsWithin m b
within_both m None b le = (tt, le)
within_both m (Some x) None le = (le, tt)
within_both m (Some x) (Some y) le = (omega (arith, le), omega (arith, le))

all_sooner : (ks : List Kept) (a b : Option ℕ) → AllQuietUntil ks a → AllQuietUntil ks (sooner a b)
all_sooner [] a b q = tt
all_sooner (k ∷ ks) a b q = (λ lives m le. q.0 lives m (within_both m a b le).0, all_sooner ks a b q.1)

one_more : (ks : List Kept) (k : Kept) (a b : Option ℕ) → AllQuietUntil ks a → (IsTrue k.lives → QuietUntil k b) → AllQuietUntil (ks ++ k ∷ []) (sooner a b)
one_more [] k a b q here = (λ lives m le. here lives m (within_both m a b le).1, tt)
one_more (x ∷ ks) k a b q here = (λ lives m le. q.0 lives m (within_both m a b le).0, one_more ks k a b q.1 here)

-- the least up to a place, and those from there on
pub record SoonestTo (i : ℕ) (ks : List Kept) (last : Option ℕ) : Type 0 where
  pub least : sooner last (soonest (drop i ks)) ≡ soonest ks
  pub quiet : AllQuietUntil (take i ks) last

take_more : (i : ℕ) (ks : List Kept) (k : Kept) → i < length ks → k ≡ slice_index_or ks i k → take (suc i) ks ≡ take i ks ++ k ∷ []
take_more i [] k within at = absurd (let never : i < 0 = within in omega arith)
take_more zero (x ∷ ks) k within at = ap (λ (z : Kept). z ∷ []) (sym at)
take_more (suc i) (x ∷ ks) k within at = ap (λ (xs : List Kept). x ∷ xs) (take_more i ks k (omega (arith, within)) at)

drop_more : (i : ℕ) (ks : List Kept) (k : Kept) → i < length ks → k ≡ slice_index_or ks i k → drop i ks ≡ k ∷ drop (suc i) ks
drop_more i [] k within at = absurd (let never : i < 0 = within in omega arith)
drop_more zero (x ∷ ks) k within at = ap (λ (z : Kept). z ∷ ks) (sym at)
drop_more (suc i) (x ∷ ks) k within at = drop_more i ks k (omega (arith, within)) at

pub soonest_more : (i : ℕ) (ks : List Kept) (k : Kept) (a b : Option ℕ) → SoonestTo i ks a → i < length ks → k ≡ slice_index_or ks i k → b ≡ waits_until k → (IsTrue k.lives → QuietUntil k b) → SoonestTo (suc i) ks (sooner a b)
soonest_more i ks k a b s within at is here = record {
  least = in_any_order a b (soonest (drop (suc i) ks))
      ∙ ap (λ (d : Option ℕ). sooner a (sooner d (soonest (drop (suc i) ks)))) is
      ∙ ap (λ (rest : List Kept). sooner a (soonest rest)) (sym (drop_more i ks k within at))
      ∙ s.least;
  quiet = subst (λ (xs : List Kept). AllQuietUntil xs (sooner a b)) (sym (take_more i ks k within at)) (one_more (take i ks) k a b s.quiet here);
}
