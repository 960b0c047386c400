-- Short names as numbers that compare like the names.
use Rattle.std.specs.Prelude.{◌≡◌, ℕ, zero, suc, ◌<◌, ◌≤◌, List, [], ◌∷◌, length, take, slice_index}
use Rattle.std.specs.Int.{w128, to_be_bytes}
use Rattle.std.specs.Slice.Scan.{big_endian}

-- n bytes: a text, padded with zeros. The byte c follows them.
abbrev pub padded : ℕ → List ℕ → ℕ → List ℕ
padded zero text c = c ∷ []
padded (suc n) [] c = 0 ∷ padded n [] c
padded (suc n) (b ∷ text) c = b ∷ padded n text c

abbrev pub text_in : List ℕ → List ℕ
text_in bytes = take (slice_index bytes 15) bytes

-- The number of a text of at most 15 bytes, and the text of such a number.
abbrev pub key_of : List ℕ → ℕ
key_of text = big_endian 0 (padded 15 text (length text))

abbrev pub text_of : ℕ → List ℕ
text_of key = text_in (to_be_bytes w128 key)

abbrev pub Small : List ℕ → Type 0
Small xs = (k : ℕ) → slice_index xs k < 256

pub record IsKey (key : ℕ) : Type 0 where
  pub small : Small (text_of key)
  pub few : length (text_of key) ≤ 15
  pub is : key ≡ key_of (text_of key)
