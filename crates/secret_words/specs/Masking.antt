-- Texts in which names stand in place of secrets. From left to right, at each place the longest secret that begins there
-- is replaced by its name. Of equal secrets the first one counts.
use Rattle.std.specs.Prelude.{ℕ, ◌+◌, ◌-◌, ◌==◌, nat_lt, Bool, true, false, ◌&&◌, List, [], ◌∷◌, ◌++◌, length, slice_get, Option, Some, None, if◌then◌else◌}
use Rattle.secret_words.specs.declared.masking.Found.{Found}
use Rattle.secret_words.specs.declared.secrets.Secret.{Secret}

-- A text begins with these bytes.
abbrev pub begins : List ℕ → List ℕ → Bool
begins [] text = true
begins (b ∷ front) [] = false
begins (b ∷ front) (c ∷ text) = (b == c) && begins front text

-- No secret. Its length is 0.
abbrev pub nothing : Found
nothing = record { place = 0; size = 0 }

-- The secret with this index, if it is longer than the one found before, and the text begins with it.
abbrev pub longer : List ℕ → Found → ℕ → Secret → Found
longer text found n s = if nat_lt found.size (length s.bytes) && begins s.bytes text then record { place = n; size = length s.bytes } else found

abbrev pub longest_in : List ℕ → Found → ℕ → List Secret → Found
longest_in text found n [] = found
longest_in text found n (s ∷ ss) = longest_in text (longer text found n s) (n + 1) ss

-- The longest secret that a text begins with.
abbrev pub longest : List Secret → List ℕ → Found
longest ss text = longest_in text nothing 0 ss

-- The name of a secret. Empty if there is none.
abbrev pub name_in : Option Secret → List ℕ
name_in None = []
name_in (Some s) = s.name

-- What stands for the first byte of a text, given the longest secret there.
abbrev pub first_text : List Secret → Found → ℕ → List ℕ
first_text ss found b = if found.size == 0 then b ∷ [] else name_in (slice_get ss found.place)

-- What stands for the first byte of a text: itself, or the name of a secret that begins there. Nothing if the first n
-- bytes still belong to a secret.
abbrev pub shown_at : List Secret → ℕ → ℕ → List ℕ → List ℕ
shown_at ss n b text = if n == 0 then first_text ss (longest ss text) b else []

-- The number of bytes after the first one that still belong to a secret.
abbrev pub hidden_behind : List Secret → ℕ → List ℕ → ℕ
hidden_behind ss n text = if n == 0 then (longest ss text).size - 1 else n - 1

-- A text whose first n bytes still belong to a secret.
abbrev pub masked_from : List Secret → ℕ → List ℕ → List ℕ
masked_from ss n [] = []
masked_from ss n (b ∷ bs) = shown_at ss n b (b ∷ bs) ++ masked_from ss (hidden_behind ss n (b ∷ bs)) bs

-- A text, with a name in place of each secret.
abbrev pub masked : List Secret → List ℕ → List ℕ
masked ss text = masked_from ss 0 text
