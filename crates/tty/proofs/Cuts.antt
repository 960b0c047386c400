-- Lines that are typed, with one byte more.
use Rattle.std.proofs.Common.{◌≡◌, ℕ, Bool, true, false, cond, ◌||◌, ◌&&◌, List, [], ◌∷◌, ◌++◌, refl, ap, ◌∙◌}
use Rattle.tty.specs.declared.action.Action.{Action}
use Rattle.tty.specs.Editing.{ends_line, edited}
use Rattle.tty.specs.Segments.{Segments, rest, line, in_front, segments, rest_of, open_text}
use Rattle.tty.specs.Handed.{Handed, ends_input, line_action, with_action, handed_lines}
use Rattle.tty.specs.Buffer.{text_after}
use Rattle.tty.proofs.Edits.{text_when, edited_last}

abbrev snoc : ℕ → Segments → Segments
snoc b (rest t) = cond (ends_line b) (line t b (rest [])) (rest (t ++ b ∷ []))
snoc b (line t d s) = line t d (snoc b s)

front_snoc : (a b : ℕ) (s : Segments) → in_front a (snoc b s) ≡ snoc b (in_front a s)
front_snoc a b (rest t) = go (ends_line b)
  where
    go : (x : Bool) → in_front a (cond x (line t b (rest [])) (rest (t ++ b ∷ []))) ≡ cond x (line (a ∷ t) b (rest [])) (rest (a ∷ (t ++ b ∷ [])))
    go true = refl
    go false = refl
front_snoc a b (line t d s) = refl

segments_last : (u : List ℕ) (b : ℕ) → segments (u ++ b ∷ []) ≡ snoc b (segments u)
segments_last [] b = refl
segments_last (a ∷ u) b = ap (λ (s : Segments). cond (ends_line a) (line [] a s) (in_front a s)) (segments_last u b) ∙ go (ends_line a)
  where
    go : (x : Bool) → cond x (line [] a (snoc b (segments u))) (in_front a (snoc b (segments u))) ≡ snoc b (cond x (line [] a (segments u)) (in_front a (segments u)))
    go true = refl
    go false = front_snoc a b (segments u)

abbrev pub made : List Action → List ℕ → Bool → Handed
made actions waiting ended = record { actions = actions; waiting = waiting; ended = ended }

abbrev pub actions_after : Bool → Bool → Action → List Action → List Action
actions_after over ends a actions = cond over actions (cond ends (actions ++ a ∷ []) actions)

abbrev after_when : Bool → ℕ → Handed → Handed
after_when d b h = made (actions_after h.ended d (line_action b h.waiting) h.actions) (text_when d b h.waiting) (h.ended || (d && ends_input b h.waiting))

-- what a byte more hands over
abbrev pub after : ℕ → Handed → Handed
after b h = after_when (ends_line b) b h

rest_after : (b : ℕ) (t : List ℕ) (e d : Bool) → handed_lines e (cond d (line t b (rest [])) (rest (t ++ b ∷ []))) ≡ after_when d b (handed_lines e (rest t))
rest_after b t true true = refl
rest_after b t false true = refl
rest_after b t true false = ap (λ (w : List ℕ). made [] w true) (edited_last t b)
rest_after b t false false = ap (λ (w : List ℕ). made [] w false) (edited_last t b)

action_after : (e : Bool) (a : Action) (b : ℕ) (h : Handed) → with_action e a (after b h) ≡ after b (with_action e a h)
action_after true a b h = refl
action_after false a b h =
    ap (λ (acts : List Action). made acts (text_after b h.waiting) (h.ended || (ends_line b && ends_input b h.waiting))) (go h.ended (ends_line b))
  where
    go : (x d : Bool) → a ∷ actions_after x d (line_action b h.waiting) h.actions ≡ actions_after x d (line_action b h.waiting) (a ∷ h.actions)
    go true d = refl
    go false true = refl
    go false false = refl

handed_snoc : (b : ℕ) (s : Segments) (e : Bool) → handed_lines e (snoc b s) ≡ after b (handed_lines e s)
handed_snoc b (rest t) e = rest_after b t e (ends_line b)
handed_snoc b (line t d s) e =
    ap (with_action e (line_action d (edited t))) (handed_snoc b s (e || ends_input d (edited t)))
    ∙ action_after e (line_action d (edited t)) b (handed_lines (e || ends_input d (edited t)) s)

pub handed_last : (e : Bool) (u : List ℕ) (b : ℕ) → handed_lines e (segments (u ++ b ∷ [])) ≡ after b (handed_lines e (segments u))
handed_last e u b = ap (handed_lines e) (segments_last u b) ∙ handed_snoc b (segments u) e

same_waiting : (e : Bool) (a : Action) (h : Handed) → (with_action e a h).waiting ≡ h.waiting
same_waiting true a h = refl
same_waiting false a h = refl

waiting_of : (s : Segments) (e : Bool) → (handed_lines e s).waiting ≡ edited (rest_of s)
waiting_of (rest t) e = refl
waiting_of (line t d s) e =
    same_waiting e (line_action d (edited t)) (handed_lines (e || ends_input d (edited t)) s) ∙ waiting_of s (e || ends_input d (edited t))

-- what waits is the text of the line that isn't ended
pub waiting_is : (e : Bool) (u : List ℕ) → (handed_lines e (segments u)).waiting ≡ open_text u
waiting_is e u = waiting_of (segments u) e
