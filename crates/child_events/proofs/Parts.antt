-- The parts of a text round a separator.
use Rattle.std.proofs.Common.{◌≡◌, ℕ, ◌+◌, ◌<◌, List, [], ◌∷◌, ◌++◌, length, take, drop, get_or, Bool, false, refl, sym, ap, subst, ◌≤◌, ◌∙◌, eq-eqb}
use Rattle.std.specs.Prelude.{◌==◌, if◌then◌else◌}
use Rattle.std.specs.List.{AllByRecursion}
use Rattle.std.proofs.lemmas.List.{drop_more, take_all, take-append-drop}
use Rattle.child_events.specs.Reading.{in_front, parts}

-- no byte is the separator
abbrev pub Without : ℕ → List ℕ → Type 0
Without sep w = AllByRecursion (λ b. (b == sep) ≡ false) w

-- a text without a separator is its only part
pub parts_whole : (sep : ℕ) (w : List ℕ) → Without sep w → parts sep w ≡ w ∷ []
parts_whole sep [] h = refl
parts_whole sep (b ∷ w) h =
    ap (λ (t : Bool). if t then [] ∷ parts sep w else in_front b (parts sep w)) h.0 ∙ ap (in_front b) (parts_whole sep w h.1)

-- and in front of a separator it is the first
pub parts_first : (sep : ℕ) (w rest : List ℕ) → Without sep w → parts sep (w ++ sep ∷ rest) ≡ w ∷ parts sep rest
parts_first sep [] rest h = ap (λ (t : Bool). if t then [] ∷ parts sep rest else in_front sep (parts sep rest)) (eq-eqb sep sep refl)
parts_first sep (b ∷ w) rest h =
    ap (λ (t : Bool). if t then [] ∷ parts sep (w ++ sep ∷ rest) else in_front b (parts sep (w ++ sep ∷ rest))) h.0
    ∙ ap (in_front b) (parts_first sep w rest h.1)

-- a text round its separator at i
pub around : (bytes : List ℕ) (i : ℕ) → i < length bytes → bytes ≡ take i bytes ++ get_or bytes i 0 ∷ drop (i + 1) bytes
around bytes i lt = sym (take-append-drop i bytes) ∙ ap (λ (r : List ℕ). take i bytes ++ r) (drop_more bytes i 0 lt)

-- a separator at i, with none in front of it
pub parts_at : (sep : ℕ) (bytes : List ℕ) (i : ℕ) → i < length bytes → get_or bytes i 0 ≡ sep → Without sep (take i bytes) → parts sep bytes ≡ take i bytes ∷ parts sep (drop (i + 1) bytes)
parts_at sep bytes i lt is none =
    ap (parts sep) (around bytes i lt ∙ ap (λ (b : ℕ). take i bytes ++ b ∷ drop (i + 1) bytes) is)
    ∙ parts_first sep (take i bytes) (drop (i + 1) bytes) none

pub parts_none : (sep : ℕ) (bytes : List ℕ) (i : ℕ) → length bytes ≤ i → Without sep (take i bytes) → parts sep bytes ≡ bytes ∷ []
parts_none sep bytes i le none = parts_whole sep bytes (subst (Without sep) (take_all i bytes le) none)
