-- The search for an exact pattern.
use Rattle.std.specs.Prelude.{◌≡◌, ℕ, ◌+◌, ◌<◌, ◌≤◌, Bool, true, false, ◌&&◌, ◌==◌, if◌then◌else◌, List, [], ◌∷◌, length, drop, slice_index, Option, Some, None, MatchOption}
use Rattle.std.specs.Char.{to_ascii_lowercase}
use Rattle.exp_glob.specs.Search.{first_below}

-- Two bytes are equal. Without case, the two cases of an ASCII letter are equal.
abbrev pub alike : Bool → ℕ → ℕ → Bool
alike nocase b c = if nocase then to_ascii_lowercase b == to_ascii_lowercase c else b == c

-- The text occurs in the bytes at index k.
abbrev pub StandsAt : Bool → List ℕ → List ℕ → ℕ → Type 0
StandsAt nocase text bytes k =
    (k + length text ≤ length bytes)
    × ((j : ℕ) → j < length text → alike nocase (slice_index bytes (k + j)) (slice_index text j) ≡ true)

-- The result of a search: the least index of the text, with its end. `None` if the text doesn't occur.
abbrev pub FindsExact : Bool → List ℕ → List ℕ → Option (ℕ × ℕ) → Type 0
FindsExact nocase text bytes found =
    MatchOption found ((k : ℕ) → ¬ StandsAt nocase text bytes k)
    (λ s. StandsAt nocase text bytes s.0 × (s.1 ≡ s.0 + length text) × ((k : ℕ) → StandsAt nocase text bytes k → s.0 ≤ k))

-- The same search as a function.

-- The bytes begin with the text.
abbrev pub begins : Bool → List ℕ → List ℕ → Bool
begins nocase [] bytes = true
begins nocase (c ∷ text) [] = false
begins nocase (c ∷ text) (b ∷ bytes) = alike nocase b c && begins nocase text bytes

-- The span of the text if it occurs at index k.
abbrev pub text_at : Bool → List ℕ → List ℕ → ℕ → Option (ℕ × ℕ)
text_at nocase text bytes k = if begins nocase text (drop k bytes) then Some (k, k + length text) else None

-- The least index of the text, with its end.
unfoldable pub find_text : Bool → List ℕ → List ℕ → Option (ℕ × ℕ)
find_text nocase text bytes = first_below (text_at nocase text bytes) (length bytes + 1)
