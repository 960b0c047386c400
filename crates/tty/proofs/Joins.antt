-- Sends, one after the other, come to what all their bytes come to at once.
use Rattle.std.proofs.Common.{◌≡◌, ℕ, Bool, true, false, ◌||◌, ◌&&◌, List, [], ◌∷◌, ◌++◌, refl, sym, ap, ◌∙◌, append_assoc}
use Rattle.std.specs.List.{concat}
use Rattle.std.proofs.lemmas.List.{append-nil, map-append}
use Rattle.tty.specs.declared.action.Action.{Action}
use Rattle.tty.specs.Editing.{is_empty, ends_line}
use Rattle.tty.specs.Segments.{segments, open_text}
use Rattle.tty.specs.Handed.{Handed, ends_input, line_action, read_byte, received, handed_lines}
use Rattle.tty.specs.Echo.{echo_by, echo_behind}
use Rattle.tty.specs.Buffer.{text_after}
use Rattle.tty.specs.Sends.{Waits, all_plain, handed_by, line_after, echo_of, SameAsJoined}
use Rattle.tty.proofs.Cuts.{made, actions_after, after, handed_last, waiting_is}
use Rattle.tty.proofs.Buffers.{heard}
use Rattle.tty.proofs.Plain.{plain_handed, plain_open, sent_plain}
use Rattle.tty.proofs.Sent.{waits, lines_handed, echo_heard}

abbrev afters : List ℕ → Handed → Handed
afters [] h = h
afters (b ∷ bs) h = afters bs (after b h)

after_all : (e : Bool) (bs u : List ℕ) → handed_lines e (segments (u ++ bs)) ≡ afters bs (handed_lines e (segments u))
after_all e [] u = ap (λ (v : List ℕ). handed_lines e (segments v)) (append-nil u)
after_all e (b ∷ bs) u =
    ap (λ (v : List ℕ). handed_lines e (segments v)) (sym (append_assoc u (b ∷ []) bs))
    ∙ after_all e bs (u ++ b ∷ []) ∙ ap (afters bs) (handed_last e u b)

-- with actions in front
abbrev shift : List Action → Handed → Handed
shift p h = made (p ++ h.actions) h.waiting h.ended

shifted : (x d : Bool) (a : Action) (p acts : List Action) → actions_after x d a (p ++ acts) ≡ p ++ actions_after x d a acts
shifted true d a p acts = refl
shifted false true a p acts = append_assoc p acts (a ∷ [])
shifted false false a p acts = refl

after_shift : (b : ℕ) (p : List Action) (h : Handed) → after b (shift p h) ≡ shift p (after b h)
after_shift b p h =
    ap (λ (acts : List Action). made acts (text_after b h.waiting) (h.ended || (ends_line b && ends_input b h.waiting))) (shifted h.ended (ends_line b) (line_action b h.waiting) p h.actions)

afters_shift : (bs : List ℕ) (p : List Action) (h : Handed) → afters bs (shift p h) ≡ shift p (afters bs h)
afters_shift [] p h = refl
afters_shift (b ∷ bs) p h = ap (afters bs) (after_shift b p h) ∙ afters_shift bs p (after b h)

from_here : (h : Handed) → h ≡ shift h.actions (made [] h.waiting h.ended)
from_here h = ap (λ (acts : List Action). made acts h.waiting h.ended) (sym (append-nil h.actions))

two_lines : (e : Bool) (w x y : List ℕ) (h : Handed) → h ≡ handed_lines e (segments (w ++ x)) → all_plain h.waiting ≡ true
    → handed_lines e (segments (w ++ (x ++ y))) ≡ shift h.actions (handed_lines h.ended (segments (h.waiting ++ y)))
two_lines e w x y h is plain =
    ap (λ (v : List ℕ). handed_lines e (segments v)) (sym (append_assoc w x y)) ∙ after_all e y (w ++ x)
    ∙ ap (afters y) (sym is ∙ from_here h)
    ∙ afters_shift y h.actions (made [] h.waiting h.ended)
    ∙ ap (λ (k : Handed). shift h.actions (afters y k)) (sym (plain_handed h.ended h.waiting plain))
    ∙ ap (shift h.actions) (sym (after_all h.ended y h.waiting))

echo_split : (x y u : List ℕ) → echo_behind u (x ++ y) ≡ echo_behind u x ++ echo_behind (u ++ x) y
echo_split [] y u = ap (λ (v : List ℕ). echo_behind v y) (sym (append-nil u))
echo_split (b ∷ x) y u =
    let one = echo_by (is_empty (open_text u)) b in
    ap (λ (t : List ℕ). one ++ t) (echo_split x y (u ++ b ∷ []))
    ∙ sym (append_assoc one (echo_behind (u ++ b ∷ []) x) (echo_behind ((u ++ b ∷ []) ++ x) y))
    ∙ ap (λ (v : List ℕ). (one ++ echo_behind (u ++ b ∷ []) x) ++ echo_behind v y) (append_assoc u (b ∷ []) x)

open_last : (u : List ℕ) (b : ℕ) → open_text (u ++ b ∷ []) ≡ text_after b (open_text u)
open_last u b =
    sym (waiting_is false (u ++ b ∷ [])) ∙ ap (λ (h : Handed). h.waiting) (handed_last false u b) ∙ ap (text_after b) (waiting_is false u)

echo_alike : (y u v : List ℕ) → open_text u ≡ open_text v → echo_behind u y ≡ echo_behind v y
echo_alike [] u v h = refl
echo_alike (b ∷ y) u v h =
    ap (λ (t : List ℕ). echo_by (is_empty t) b ++ echo_behind (u ++ b ∷ []) y) h
    ∙ ap (λ (r : List ℕ). echo_by (is_empty (open_text v)) b ++ r) (echo_alike y (u ++ b ∷ []) (v ++ b ∷ []) (open_last u b ∙ ap (text_after b) h ∙ sym (open_last v b)))

two_echoes : (on e : Bool) (w x y : List ℕ) (h : Handed) → h ≡ handed_lines e (segments (w ++ x)) → all_plain h.waiting ≡ true → heard on w (x ++ y) ≡ heard on w x ++ heard on h.waiting y
two_echoes false e w x y h is plain = refl
two_echoes true e w x y h is plain =
    echo_split x y w
    ∙ ap (λ (r : List ℕ). echo_behind w x ++ r) (echo_alike y (w ++ x) h.waiting (sym (waiting_is e (w ++ x)) ∙ ap (λ (k : Handed). k.waiting) (sym is) ∙ sym (plain_open h.waiting plain)))

plain_behind : (l : Waits) (x : List ℕ) → l.modes.icanon ≡ true → all_plain l.waiting ≡ true → all_plain (handed_by l x).waiting ≡ true
plain_behind l x edits plain =
    ap (λ (h : Handed). all_plain h.waiting) (sym (lines_handed l.modes l.waiting l.ended x edits)) ∙ sent_plain l.ended l.waiting (received l.modes x) plain

two_sends : (l : Waits) (x y : List ℕ) → l.modes.icanon ≡ true → all_plain l.waiting ≡ true → handed_by l (x ++ y) ≡ shift (handed_by l x).actions (handed_by (line_after l x) y)
two_sends l x y edits plain =
    sym (lines_handed l.modes l.waiting l.ended (x ++ y) edits)
    ∙ ap (λ (r : List ℕ). handed_lines l.ended (segments (l.waiting ++ r))) (map-append (read_byte l.modes) x y)
    ∙ two_lines l.ended l.waiting (received l.modes x) (received l.modes y) (handed_by l x) (sym (lines_handed l.modes l.waiting l.ended x edits)) (plain_behind l x edits plain)
    ∙ ap (shift (handed_by l x).actions) (lines_handed l.modes (handed_by l x).waiting (handed_by l x).ended y edits)

both_echoes : (l : Waits) (x y : List ℕ) → l.modes.icanon ≡ true → all_plain l.waiting ≡ true → echo_of l (x ++ y) ≡ echo_of l x ++ echo_of (line_after l x) y
both_echoes l x y edits plain =
    sym (echo_heard l.modes l.waiting (x ++ y) edits)
    ∙ ap (heard l.modes.echo l.waiting) (map-append (read_byte l.modes) x y)
    ∙ two_echoes l.modes.echo l.ended l.waiting (received l.modes x) (received l.modes y) (handed_by l x) (sym (lines_handed l.modes l.waiting l.ended x edits)) (plain_behind l x edits plain)
    ∙ ap (λ (t : List ℕ). t ++ heard l.modes.echo (handed_by l x).waiting (received l.modes y)) (echo_heard l.modes l.waiting x edits)
    ∙ ap (λ (t : List ℕ). echo_of l x ++ t) (echo_heard l.modes (handed_by l x).waiting y edits)

nothing_sent : (l : Waits) → l.modes.icanon ≡ true → all_plain l.waiting ≡ true → made [] l.waiting l.ended ≡ handed_by l []
nothing_sent l edits plain =
    sym (plain_handed l.ended l.waiting plain) ∙ ap (λ (v : List ℕ). handed_lines l.ended (segments v)) (sym (append-nil l.waiting))
    ∙ lines_handed l.modes l.waiting l.ended [] edits

nothing_heard : (on : Bool) (w : List ℕ) → [] ≡ heard on w []
nothing_heard true w = refl
nothing_heard false w = refl

pub sends_join : (xs : List (List ℕ)) (l : Waits) → l.modes.icanon ≡ true → all_plain l.waiting ≡ true → SameAsJoined l xs
sends_join [] l edits plain = record {
  actions = ap (λ (h : Handed). h.actions) (nothing_sent l edits plain);
  echo = nothing_heard l.modes.echo l.waiting ∙ echo_heard l.modes l.waiting [] edits;
  line = ap (λ (h : Handed). waits l.modes h.waiting h.ended) (nothing_sent l edits plain);
}
sends_join (x ∷ xs) l edits plain =
    let more = sends_join xs (line_after l x) edits (plain_behind l x edits plain) in
    let pair = two_sends l x (concat xs) edits plain in
    record {
      actions = ap (λ (acts : List Action). (handed_by l x).actions ++ acts) more.actions ∙ sym (ap (λ (h : Handed). h.actions) pair);
      echo = ap (λ (t : List ℕ). echo_of l x ++ t) more.echo ∙ sym (both_echoes l x (concat xs) edits plain);
      line = more.line ∙ sym (ap (λ (h : Handed). waits l.modes h.waiting h.ended) pair);
    }
