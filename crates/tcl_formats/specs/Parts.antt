-- The parts of a text, one after another.
use Rattle.std.specs.Prelude.{ℕ, zero, suc, List, [], ◌∷◌, Option, Some, None, option_map}

module _ {X : Type 0} where
  abbrev pub with_part : (ℕ → Option (List X)) → Option (X × ℕ) → Option (List X)
  with_part others None = None
  with_part others (Some p) = option_map (λ l. p.0 ∷ l) (others p.1)

  -- The parts of a text without its first k bytes. `part b text` is the part that begins with the byte b, and how many
  -- of the bytes after b belong to it.
  abbrev pub parts_from : (ℕ → List ℕ → Option (X × ℕ)) → ℕ → List ℕ → Option (List X)
  parts_from part k [] = Some []
  parts_from part (suc k) (b ∷ text) = parts_from part k text
  parts_from part zero (b ∷ text) = with_part (λ k. parts_from part k text) (part b text)
