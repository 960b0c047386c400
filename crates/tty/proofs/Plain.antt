-- A line that waits holds no byte that ends or edits a line.
use Rattle.std.proofs.Common.{◌≡◌, ℕ, zero, suc, Bool, true, false, not, cond, eqb, ◌||◌, ◌&&◌, List, [], ◌∷◌, ◌++◌, refl, sym, ap, ◌∙◌}
use Rattle.std.specs.List.{list_any}
use Rattle.tty.specs.declared.given.Given.{Given}
use Rattle.tty.specs.Editing.{ends_line, behind_kill, without_first_erase, erase_count, times, erased, edited}
use Rattle.tty.specs.Segments.{Segments, rest, line, in_front, segments, rest_of, open_text}
use Rattle.tty.specs.Handed.{Handed, handed_lines}
use Rattle.tty.specs.Buffer.{without_last, clears, text_after, given_after, run}
use Rattle.tty.specs.Sends.{is_plain, all_plain}
use Rattle.tty.proofs.Cuts.{made}
use Rattle.tty.proofs.Buffers.{given, heard, state, buffered}

and_true : (a b : Bool) → a && b ≡ true → (a ≡ true) × (b ≡ true)
and_true true b h = (refl, h)
and_true false b h = absurd (cc)

none_of : (x y z : Bool) → not (x || y || z) ≡ true → (x ≡ false) × (y ≡ false) × (z ≡ false)
none_of true y z h = absurd (cc)
none_of false true z h = absurd (cc)
none_of false false true h = absurd (cc)
none_of false false false h = (refl, refl, refl)

push_plain : (t : List ℕ) (b : ℕ) → all_plain t ≡ true → is_plain b ≡ true → all_plain (t ++ b ∷ []) ≡ true
push_plain [] b h p = ap (λ (x : Bool). x && true) p
push_plain (a ∷ t) b h p =
    let q = and_true (is_plain a) (all_plain t) h in
    ap (λ (x : Bool). x && all_plain (t ++ b ∷ [])) q.0 ∙ push_plain t b q.1 p

front_plain : (t : List ℕ) → all_plain t ≡ true → all_plain (without_last t) ≡ true
front_plain [] h = refl
front_plain (a ∷ []) h = refl
front_plain (a ∷ c ∷ t) h =
    let q = and_true (is_plain a) (all_plain (c ∷ t)) h in
    ap (λ (x : Bool). x && all_plain (without_last (c ∷ t))) q.0 ∙ front_plain (c ∷ t) q.1

plain_after : (b : ℕ) (t : List ℕ) → all_plain t ≡ true → all_plain (text_after b t) ≡ true
plain_after b t h = go (clears b) (eqb b 127) refl refl
  where
    go : (x y : Bool) → clears b ≡ x → eqb b 127 ≡ y → all_plain (cond x [] (cond y (without_last t) (t ++ b ∷ []))) ≡ true
    go true y ix iy = refl
    go false true ix iy = front_plain t h
    go false false ix iy = push_plain t b h (ap (λ (z : Bool). not (z || eqb b 127)) ix ∙ ap (λ (z : Bool). not (false || z)) iy)

pub run_plain : (on : Bool) (bs t : List ℕ) (g : Given) → all_plain t ≡ true → all_plain (run on bs t g).0 ≡ true
run_plain on [] t g h = h
run_plain on (b ∷ bs) t g h = run_plain on bs (text_after b t) (given_after on b t g) (plain_after b t h)

plain_lines : (w : List ℕ) → all_plain w ≡ true → segments w ≡ rest w
plain_lines [] h = refl
plain_lines (b ∷ w) h =
    let q = and_true (is_plain b) (all_plain w) h in
    let n = none_of (ends_line b) (eqb b 21) (eqb b 127) q.0 in
    ap (λ (x : Bool). cond x (line [] b (segments w)) (in_front b (segments w))) n.0 ∙ ap (in_front b) (plain_lines w q.1)

no_kills : (w : List ℕ) → all_plain w ≡ true → list_any (λ c. eqb c 21) w ≡ false
no_kills [] h = refl
no_kills (b ∷ w) h =
    let q = and_true (is_plain b) (all_plain w) h in
    let n = none_of (ends_line b) (eqb b 21) (eqb b 127) q.0 in
    ap (λ (x : Bool). x || list_any (λ c. eqb c 21) w) n.1 ∙ no_kills w q.1

plain_kill : (w : List ℕ) → all_plain w ≡ true → behind_kill w ≡ w
plain_kill [] h = refl
plain_kill (b ∷ w) h =
    let q = and_true (is_plain b) (all_plain w) h in
    let n = none_of (ends_line b) (eqb b 21) (eqb b 127) q.0 in
    ap (λ (x : Bool). cond x (behind_kill w) (cond (eqb b 21) w (b ∷ w))) (no_kills w q.1) ∙ ap (λ (x : Bool). cond x w (b ∷ w)) n.1

no_erases : (w : List ℕ) → all_plain w ≡ true → erase_count w ≡ zero
no_erases [] h = refl
no_erases (b ∷ w) h =
    let q = and_true (is_plain b) (all_plain w) h in
    let n = none_of (ends_line b) (eqb b 21) (eqb b 127) q.0 in
    ap (λ (x : Bool). cond x (suc (erase_count w)) (erase_count w)) n.2 ∙ no_erases w q.1

plain_text : (w : List ℕ) → all_plain w ≡ true → edited w ≡ w
plain_text w h = ap erased (plain_kill w h) ∙ ap (λ (k : ℕ). times k without_first_erase w) (no_erases w h)

pub plain_handed : (e : Bool) (w : List ℕ) → all_plain w ≡ true → handed_lines e (segments w) ≡ made [] w e
plain_handed e w h = ap (handed_lines e) (plain_lines w h) ∙ ap (λ (v : List ℕ). made [] v e) (plain_text w h)

pub plain_open : (w : List ℕ) → all_plain w ≡ true → open_text w ≡ w
plain_open w h = ap (λ (s : Segments). edited (rest_of s)) (plain_lines w h) ∙ plain_text w h

-- what the buffer makes of bytes that are sent to a line
pub buffer_sent : (on e : Bool) (w x : List ℕ) → all_plain w ≡ true → run on x w (given [] e []) ≡ state (handed_lines e (segments (w ++ x))) (heard on w x)
buffer_sent on e w x h =
    ap (λ (l : Handed). run on x l.waiting (given l.actions l.ended [])) (sym (plain_handed e w h)) ∙ buffered on e x w []

-- and then it waits as well
pub sent_plain : (e : Bool) (w x : List ℕ) → all_plain w ≡ true → all_plain (handed_lines e (segments (w ++ x))).waiting ≡ true
sent_plain e w x h =
    ap (λ (p : List ℕ × Given). all_plain p.0) (sym (buffer_sent true e w x h)) ∙ run_plain true x w (given [] e []) h
