-- The buffer comes to what the lines are.
use Rattle.std.proofs.Common.{◌≡◌, ℕ, Bool, true, false, cond, ◌||◌, ◌&&◌, List, [], ◌∷◌, ◌++◌, refl, sym, ap, ◌∙◌, append_assoc}
use Rattle.std.proofs.lemmas.List.{append-nil}
use Rattle.tty.specs.declared.action.Action.{Action}
use Rattle.tty.specs.declared.given.Given.{Given}
use Rattle.tty.specs.Editing.{is_empty, ends_line}
use Rattle.tty.specs.Segments.{segments, open_text}
use Rattle.tty.specs.Handed.{Handed, ends_input, line_action, handed_lines}
use Rattle.tty.specs.Echo.{echo_by, echo_behind}
use Rattle.tty.specs.Buffer.{text_after, handing, with_line, with_echo, run}
use Rattle.tty.proofs.Cuts.{actions_after, after, handed_last, waiting_is}

abbrev pub given : List Action → Bool → List ℕ → Given
given actions ended echo = record { actions = actions; ended = ended; echo = echo }

line_step : (actions : List Action) (w : List ℕ) (x : Bool) (k : List ℕ) (b : ℕ)
    → with_line b w (given actions x k) ≡ given (actions_after x (ends_line b) (line_action b w) actions) (x || (ends_line b && ends_input b w)) k
line_step actions w x k b = go (ends_line b) x
  where
    go : (d y : Bool) → cond d (handing b w (given actions y k)) (given actions y k) ≡ given (actions_after y d (line_action b w) actions) (y || (d && ends_input b w)) k
    go true true = refl
    go true false = refl
    go false true = refl
    go false false = refl

echo_step : (on empty : Bool) (b : ℕ) (actions : List Action) (x : Bool) (k : List ℕ) → with_echo on empty b (given actions x k) ≡ given actions x (k ++ cond on (echo_by empty b) [])
echo_step true empty b actions x k = refl
echo_step false empty b actions x k = ap (given actions x) (sym (append-nil k))

abbrev pub heard : Bool → List ℕ → List ℕ → List ℕ
heard on u bs = cond on (echo_behind u bs) []

heard_none : (on : Bool) (u k : List ℕ) → k ++ heard on u [] ≡ k
heard_none true u k = append-nil k
heard_none false u k = append-nil k

heard_more : (on : Bool) (u k : List ℕ) (b : ℕ) (bs : List ℕ) → (k ++ cond on (echo_by (is_empty (open_text u)) b) []) ++ heard on (u ++ b ∷ []) bs ≡ k ++ heard on u (b ∷ bs)
heard_more true u k b bs = append_assoc k (echo_by (is_empty (open_text u)) b) (echo_behind (u ++ b ∷ []) bs)
heard_more false u k b bs = append_assoc k [] []

abbrev pub state : Handed → List ℕ → List ℕ × Given
state h k = (h.waiting, given h.actions h.ended k)

abbrev run_from : Bool → List ℕ → Handed → List ℕ → List ℕ × Given
run_from on bs h k = run on bs h.waiting (given h.actions h.ended k)

one_byte : (on : Bool) (b : ℕ) (bs : List ℕ) (h : Handed) (k : List ℕ) → run_from on (b ∷ bs) h k ≡ run_from on bs (after b h) (k ++ cond on (echo_by (is_empty h.waiting) b) [])
one_byte on b bs h k =
    ap (λ (g : Given). run on bs (text_after b h.waiting) g)
    (ap (with_echo on (is_empty h.waiting) b) (line_step h.actions h.waiting h.ended k b)
    ∙ echo_step on (is_empty h.waiting) b (actions_after h.ended (ends_line b) (line_action b h.waiting) h.actions) (h.ended || (ends_line b && ends_input b h.waiting)) k)

-- bytes behind others
pub buffered : (on e : Bool) (bs u k : List ℕ) → run_from on bs (handed_lines e (segments u)) k ≡ state (handed_lines e (segments (u ++ bs))) (k ++ heard on u bs)
buffered on e [] u k =
    ap (state (handed_lines e (segments u))) (sym (heard_none on u k))
    ∙ ap (λ (v : List ℕ). state (handed_lines e (segments v)) (k ++ heard on u [])) (sym (append-nil u))
buffered on e (b ∷ bs) u k =
    one_byte on b bs (handed_lines e (segments u)) k
    ∙ ap (λ (h : Handed). run_from on bs h (k ++ cond on (echo_by (is_empty (handed_lines e (segments u)).waiting) b) [])) (sym (handed_last e u b))
    ∙ ap (λ (w : List ℕ). run_from on bs (handed_lines e (segments (u ++ b ∷ []))) (k ++ cond on (echo_by (is_empty w) b) [])) (waiting_is e u)
    ∙ buffered on e bs (u ++ b ∷ []) (k ++ cond on (echo_by (is_empty (open_text u)) b) [])
    ∙ ap (λ (v : List ℕ). state (handed_lines e (segments v)) ((k ++ cond on (echo_by (is_empty (open_text u)) b) []) ++ heard on (u ++ b ∷ []) bs)) (append_assoc u (b ∷ []) bs)
    ∙ ap (state (handed_lines e (segments (u ++ b ∷ bs)))) (heard_more on u k b bs)
