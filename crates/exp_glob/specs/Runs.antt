-- Runs: the elements up to the first star. At a given start, a run has at most one end.
use Rattle.std.specs.Prelude.{◌≡◌, ℕ, ◌+◌, ◌<◌, ◌≤◌, nat_lt, Bool, ◌&&◌, ◌==◌, if◌then◌else◌, List, [], ◌∷◌, length, slice_index, Option, Some, None, MatchOption}
use Rattle.exp_glob.specs.declared.element.Element.{Element}
use Rattle.exp_glob.specs.declared.element.Element.TheVariants.{Star, One, End}
use Rattle.exp_glob.specs.declared.element.Single.{Single}
use Rattle.exp_glob.specs.Spans.{takes, Spans}

-- There is a byte at index a, and the element matches it.
abbrev pub takes_at : Bool → Single → List ℕ → ℕ → Bool
takes_at nocase single s a = nat_lt a (length s) && takes nocase single (slice_index s a)

-- The end of the first run if it matches at a, or `None`.
abbrev pub run_end : Bool → List Element → List ℕ → ℕ → Option ℕ
run_end nocase [] s a = Some a
run_end nocase (Star ∷ es) s a = Some a
run_end nocase (One single ∷ es) s a = if takes_at nocase single s a then run_end nocase es s (a + 1) else None
run_end nocase (End ∷ es) s a = if a == length s then run_end nocase es s a else None

-- The least start from `from` on and below `bound` at which the first run matches, with the run's end.
abbrev pub IsLeastRun : Bool → List Element → List ℕ → ℕ → ℕ → Option (ℕ × ℕ) → Type 0
IsLeastRun nocase es s from bound found =
    MatchOption found ((k : ℕ) → from ≤ k → k < bound → run_end nocase es s k ≡ None)
    (λ p. (from ≤ p.0) × (p.0 < bound) × (run_end nocase es s p.0 ≡ Some p.1) × ((k : ℕ) → from ≤ k → k < p.0 → run_end nocase es s k ≡ None))

-- The end of the first run at the greatest start from `from` on at which it matches.
abbrev pub IsGreatestRun : Bool → List Element → List ℕ → ℕ → Option ℕ → Type 0
IsGreatestRun nocase es s from found =
    MatchOption found ((k : ℕ) → from ≤ k → k ≤ length s → run_end nocase es s k ≡ None)
    (λ b. (j : ℕ) × (from ≤ j) × (j ≤ length s) × (run_end nocase es s j ≡ Some b) × ((k : ℕ) → j < k → k ≤ length s → run_end nocase es s k ≡ None))

-- The greatest end of a match of a star and the later elements, from a given start on.
abbrev pub FindsLongest : Bool → List Element → List ℕ → ℕ → Option ℕ → Type 0
FindsLongest nocase es s from found =
    MatchOption found ((b : ℕ) → ¬ Spans nocase (Star ∷ es) s from b)
    (λ b. Spans nocase (Star ∷ es) s from b × ((d : ℕ) → Spans nocase (Star ∷ es) s from d → d ≤ b))
