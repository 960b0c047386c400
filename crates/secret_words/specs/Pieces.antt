-- Texts that come in pieces. The end of a piece that may be the front of a secret waits for the next piece.
use Rattle.std.specs.Prelude.{◌≡◌, ◌⊎◌, ℕ, ◌==◌, nat_lt, Bool, true, not, ◌&&◌, List, [], ◌∷◌, ◌++◌, length, if◌then◌else◌}
use Rattle.std.specs.List.{list_any}
use Rattle.secret_words.specs.declared.secrets.Secret.{Secret}
use Rattle.secret_words.specs.Masking.{begins, shown_at, hidden_behind, masked}

-- A secret begins with this text, and is longer.
abbrev pub is_front : List ℕ → Secret → Bool
is_front text s = nat_lt (length text) (length s.bytes) && begins text s.bytes

-- A text may be the front of a secret. Its first n bytes belong to a secret that begins before it.
abbrev pub waits : List Secret → ℕ → List ℕ → Bool
waits ss n text = (n == 0) && list_any (is_front text) ss

-- What is given of a text, up to what waits for more.
abbrev pub given_from : List Secret → ℕ → List ℕ → List ℕ
given_from ss n [] = []
given_from ss n (b ∷ bs) = if waits ss n (b ∷ bs) then [] else shown_at ss n b (b ∷ bs) ++ given_from ss (hidden_behind ss n (b ∷ bs)) bs

-- What waits for more at the end of a text.
abbrev pub held_from : List Secret → ℕ → List ℕ → List ℕ
held_from ss n [] = []
held_from ss n (b ∷ bs) = if waits ss n (b ∷ bs) then b ∷ bs else held_from ss (hidden_behind ss n (b ∷ bs)) bs

abbrev pub given : List Secret → List ℕ → List ℕ
given ss text = given_from ss 0 text

abbrev pub held : List Secret → List ℕ → List ℕ
held ss text = held_from ss 0 text

-- What is given of pieces, one after another, and what is still held of them at the end.
abbrev pub given_of : List Secret → List ℕ → List (List ℕ) → List ℕ
given_of ss before [] = []
given_of ss before (p ∷ ps) = given ss (before ++ p) ++ given_of ss (held ss (before ++ p)) ps

abbrev pub held_of : List Secret → List ℕ → List (List ℕ) → List ℕ
held_of ss before [] = before
held_of ss before (p ∷ ps) = held_of ss (held ss (before ++ p)) ps

abbrev pub joined : List (List ℕ) → List ℕ
joined [] = []
joined (p ∷ ps) = p ++ joined ps

-- What is given of pieces, and then what is held at their end, is the whole text with a name in place of each secret.
abbrev pub PiecesAreWhole : Type 0
PiecesAreWhole = (ss : List Secret) (ps : List (List ℕ)) → given_of ss [] ps ++ masked ss (held_of ss [] ps) ≡ masked ss (joined ps)

-- What is held is empty, or shorter than a secret that begins with it.
abbrev pub HoldsLess : Type 0
HoldsLess = (ss : List Secret) (text : List ℕ) → (held ss text ≡ []) ⊎ (list_any (is_front (held ss text)) ss ≡ true)

-- No secret begins at any place of a text.
abbrev pub is_free : List Secret → List ℕ → Bool
is_free ss [] = true
is_free ss (b ∷ bs) = not (list_any (λ s. begins s.bytes (b ∷ bs)) ss) && is_free ss bs

-- A text in which no secret occurs is unchanged.
abbrev pub FreeIsUnchanged : Type 0
FreeIsUnchanged = (ss : List Secret) (text : List ℕ) → is_free ss text ≡ true → masked ss text ≡ text
