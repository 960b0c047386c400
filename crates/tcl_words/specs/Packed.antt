-- Texts that are stored one after another in one array of bytes.
use Rattle.std.specs.Prelude.{◌≡◌, ℕ, zero, suc, ◌≤◌, List, [], ◌∷◌, take, drop}

-- The texts that end at these positions. The first text begins at `at`.
abbrev pub cut : ℕ → List ℕ → List ℕ → List (List ℕ)
cut at [] bytes = []
cut at (end ∷ ends) bytes = drop at (take end bytes) ∷ cut end ends bytes

-- The positions don't decrease from `at` to `last`, which is the last of them.
abbrev pub Rise : ℕ → List ℕ → ℕ → Type 0
Rise at [] last = at ≡ last
Rise at (end ∷ ends) last = (at ≤ end) × Rise end ends last

-- The position of the text with this index. For an index past the last one, the end of the last text.
abbrev pub begin : ℕ → List ℕ → ℕ → ℕ
begin at ends zero = at
begin at [] (suc i) = at
begin at (end ∷ ends) (suc i) = begin end ends i
