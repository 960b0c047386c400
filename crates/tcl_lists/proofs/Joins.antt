-- Words joined behind a text, which is the first word's where it has bytes.
use Rattle.std.proofs.Common.{◌≡◌, ℕ, List, [], ◌∷◌, refl}
use Rattle.std.specs.Prelude.{if◌then◌else◌}
use Rattle.tcl_words.specs.Lists.{is_empty}
use Rattle.tcl_lists.specs.Joining.{joined, joined_to, full, pruned, with_word}

abbrev pub onward : List ℕ → List (List ℕ) → List ℕ
onward [] ws = joined ws
onward (b ∷ bytes) ws = joined_to (b ∷ bytes) ws

onward_step : (text p : List ℕ) (ws : List (List ℕ)) → onward (with_word text p) ws ≡ onward text (if is_empty p then ws else p ∷ ws)
onward_step text [] ws = refl
onward_step [] (b ∷ p) ws = refl
onward_step (a ∷ text) (b ∷ p) ws = refl

pub onward_word : (text w : List ℕ) (ws : List (List ℕ)) → onward (with_word text (pruned w)) (full ws) ≡ onward text (full (w ∷ ws))
onward_word text w ws = onward_step text (pruned w) (full ws)

pub onward_end : (text : List ℕ) → onward text [] ≡ text
onward_end [] = refl
onward_end (b ∷ bytes) = refl
