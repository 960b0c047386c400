-- What a glob pattern matches, and which match a search finds.
use Rattle.std.specs.Prelude.{◌≡◌, ℕ, ◌≤◌, Bool, true, List, length, Option, MatchOption}
pub use Rattle.exp_glob.specs.Matching.{in_range, range_after, class_has, takes, Spans}
use Rattle.exp_glob.specs.declared.pattern.Glob.{Glob}

-- The pattern matches s from a to b.
abbrev pub GlobSpan : Glob → Bool → List ℕ → ℕ → ℕ → Type 0
GlobSpan g nocase s a b = (a ≤ length s) × (g.anchored ≡ true → a ≡ 0) × Spans nocase g.elements s a b

-- The match starts first, and is the longest one from there.
abbrev pub IsFirstSpan : Glob → Bool → List ℕ → ℕ → ℕ → Type 0
IsFirstSpan g nocase s a b =
    GlobSpan g nocase s a b
    × ((c d : ℕ) → GlobSpan g nocase s c d → a ≤ c)
    × ((d : ℕ) → GlobSpan g nocase s a d → d ≤ b)

-- The result of a search: that match, or `None` if there is no match.
abbrev pub FindsFirst : Glob → Bool → List ℕ → Option (ℕ × ℕ) → Type 0
FindsFirst g nocase s found = MatchOption found ((a b : ℕ) → ¬ GlobSpan g nocase s a b) (λ p. IsFirstSpan g nocase s p.0 p.1)
