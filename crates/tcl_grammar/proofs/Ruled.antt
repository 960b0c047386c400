-- A text has a next command just where the rules give it that one, and none just where they leave nothing.
use Rattle.std.proofs.Common.{◌≡◌, ℕ, ◌+◌, ◌<◌, ◌≤◌, List, [], ◌∷◌, length, drop, Option, Some, None, Result, Ok, Err, refl, sym, ap, ◌∙◌, subst, length-drop, arith}
use Rattle.std.proofs.lemmas.List.{drop-drop}
use Rattle.tcl_words.specs.declared.faults.WordFault.{WordFault}
use Rattle.tcl_words.specs.Lists.{plus}
use Rattle.tcl_words.specs.Pieces.{Spelled}
use Rattle.tcl_words.specs.Commands.{Read, ◌>>=◌, start, words, inside_of, command_at, next_command}
use Rattle.tcl_grammar.specs.CommandRules.{Before, Command, top, deepest, IsNext, IsLast}
use Rattle.tcl_grammar.proofs.Gaps.{Stands, before_of, before_stands, start_passes, start_here, start_nothing}
use Rattle.tcl_grammar.proofs.Followed.{TookCommand, command_read}
use Rattle.tcl_grammar.proofs.Derived.{first_words}

-- the words that were read at a place, and the place behind them
abbrev found_from : ℕ → Read (List Spelled) → Result (Option (List Spelled × ℕ)) WordFault
found_from i (Err e) = Err e
found_from i (Ok p) = Ok (Some (p.0, i + p.1))

from_is : (i : ℕ) (r : Read (List Spelled)) → ◌>>=◌ {B = Option (List Spelled × ℕ)} r (λ p. Ok (Some (p.0, i + p.1))) ≡ found_from i r
from_is i (Err e) = refl
from_is i (Ok p) = refl

same_words : (v w : List Spelled) (i j : ℕ) → ◌≡◌ {A = Read (List Spelled)} (Ok (v, i)) (Ok (w, j)) → (v ≡ w) × (i ≡ j)
same_words v w i j is =
    let pair : ◌≡◌ {A = List Spelled × ℕ} (v, i) (w, j) = cc in
    (ap (λ (p : List Spelled × ℕ). p.0) pair, ap (λ (p : List Spelled × ℕ). p.1) pair)

same_found : (v w : List Spelled) (i j : ℕ) → ◌≡◌ {A = Result (Option (List Spelled × ℕ)) WordFault} (Ok (Some (v, i))) (Ok (Some (w, j))) → (v ≡ w) × (i ≡ j)
same_found v w i j is =
    let pair : ◌≡◌ {A = List Spelled × ℕ} (v, i) (w, j) = cc in
    (ap (λ (p : List Spelled × ℕ). p.0) pair, ap (λ (p : List Spelled × ℕ). p.1) pair)

-- The words of a command that begins n bytes behind a place, and how many bytes they take.
record WordsAt (text : List ℕ) (at n : ℕ) (ws : List Spelled) (next : ℕ) : Type 0 where
  k : ℕ
  is : words (inside_of deepest) (drop (at + n) text) ≡ Ok (ws, k)
  place : next ≡ at + n + k

words_found : (text : List ℕ) (at n : ℕ) (ws : List Spelled) (next : ℕ) (r : Read (List Spelled)) → words (inside_of deepest) (drop (at + n) text) ≡ r
    → found_from (at + n) r ≡ Ok (Some (ws, next)) → WordsAt text at n ws next
words_found text at n ws next (Err e) read is = absurd (cc)
words_found text at n ws next (Ok p) read is =
    let same = same_found p.0 ws (at + n + p.1) next is in
    record { k = p.1; is = read ∙ ap (λ x. Ok (x, p.1)) same.0; place = sym same.1 }

some_text : (s : List ℕ) (n : ℕ) → start s ≡ Some n → 0 < length s
some_text [] n is = let none = start_nothing in absurd (cc)
some_text (b ∷ s) n is = omega arith

-- what the rules give is read
read_at : (text : List ℕ) (at next : ℕ) (ws : List Spelled) → next ≤ length text → TookCommand deepest (drop at text) ws (drop next text) → next_command text at ≡ Ok (Some (ws, next))
unfolding next_command
read_at text at next ws within t =
    let s : List ℕ = drop at text in
    let some = some_text s t.j t.begins in
    let place : at + t.j + t.k ≡ next = omega (arith, t.within, ap length t.rest, length-drop (t.j + t.k) s, length-drop at text, length-drop next text) in
    let here : words (inside_of deepest) (drop (at + t.j) text) ≡ Ok (ws, t.k) = ap (words (inside_of deepest)) (sym (drop-drop t.j at text)) ∙ t.is in
    ap (command_at at text) t.begins ∙ from_is (at + t.j) (words (inside_of deepest) (drop (at + t.j) text)) ∙ ap (found_from (at + t.j)) here ∙ ap (λ (i : ℕ). Ok (Some (ws, i))) place

pub next_is : (text : List ℕ) (at next : ℕ) (ws : List Spelled) → IsNext text at ws next → next_command text at ≡ Ok (Some (ws, next))
next_is text at next ws h = read_at text at next ws h.0 (command_read deepest top (drop at text) ws (drop next text) h.1)

-- what the rules give is what was read
same_next : (text : List ℕ) (at next n : ℕ) (ws v : List Spelled) (r : List ℕ) → Command deepest top (drop at text) v r → TookCommand deepest (drop at text) v r → start (drop at text) ≡ Some n → WordsAt text at n ws next
    → IsNext text at ws next
same_next text at next n ws v r all t begins w =
    let same_start : ◌≡◌ {A = Option ℕ} (Some t.j) (Some n) = sym t.begins ∙ begins in
    let j : t.j ≡ n = cc in
    let place : drop t.j (drop at text) ≡ drop (at + n) text = drop-drop t.j at text ∙ ap (λ (x : ℕ). drop (at + x) text) j in
    let here : words (inside_of deepest) (drop t.j (drop at text)) ≡ Ok (ws, w.k) = ap (words (inside_of deepest)) place ∙ w.is in
    let same = same_words v ws t.k w.k (sym t.is ∙ here) in
    let k : t.k ≡ w.k = same.1 in
    let some = some_text (drop at text) n begins in
    let total : at + (t.j + t.k) ≡ next = omega (arith, w.place) in
    let rest : r ≡ drop next text = t.rest ∙ drop-drop (t.j + t.k) at text ∙ ap (λ (x : ℕ). drop x text) total in
    (omega (arith, t.within, length-drop at text, total, some), subst (λ x. Command deepest top (drop at text) ws x) rest (subst (λ x. Command deepest top (drop at text) x r) same.0 all))

-- what is read is given by the rules
derived_at : (text : List ℕ) (at next n : ℕ) (ws : List Spelled) → start (drop at text) ≡ Some n → WordsAt text at n ws next → (m : List ℕ) → Before (drop at text) m → start m ≡ Some 0
    → m ≡ drop (at + n) text → Stands m → IsNext text at ws next
derived_at text at next n ws begins w [] before starts place stands = let none = start_nothing in absurd (cc)
derived_at text at next n ws begins w (b ∷ m) before starts place stands =
    let i = first_words deepest b m (ws, w.k) stands (ap (words (inside_of deepest)) place ∙ w.is) in
    let l = i.later in
    let all = Command.some_words deepest top (drop at text) (b ∷ m) i.next l.rest i.value l.value before i.derived l.derived in
    same_next text at next n ws (i.value ∷ l.value) l.rest all (command_read deepest top (drop at text) (i.value ∷ l.value) l.rest all) begins w

starts_at_zero : (m : List ℕ) (j n : ℕ) → Stands m → plus j (start m) ≡ Some n → (start m ≡ Some 0) × (j ≡ n)
starts_at_zero [] j n stands is = let none : plus j (start []) ≡ None = ap (plus j) start_nothing in absurd (cc)
starts_at_zero (b ∷ m) j n stands is =
    let here = start_here b m stands in
    let both : ◌≡◌ {A = Option ℕ} (Some (j + 0)) (Some n) = sym (ap (plus j) here) ∙ is in
    let same : j + 0 ≡ n = cc in
    (here, omega arith)

found_at : (text : List ℕ) (at next : ℕ) (ws : List Spelled) (o : Option ℕ) → start (drop at text) ≡ o → command_at at text o ≡ Ok (Some (ws, next)) → IsNext text at ws next
found_at text at next ws None begins is = absurd (cc)
found_at text at next ws (Some n) begins is =
    let s : List ℕ = drop at text in
    let before = before_of s in
    let m : List ℕ = before.rest in
    let stands = before_stands s m before.derived in
    let t = start_passes s m before.derived in
    let z = starts_at_zero m t.n n stands (sym t.is ∙ begins) in
    let place : m ≡ drop (at + n) text = t.rest ∙ ap (λ (x : ℕ). drop x s) z.1 ∙ drop-drop n at text in
    derived_at text at next n ws begins (words_found text at n ws next (words (inside_of deepest) (drop (at + n) text)) refl (sym (from_is (at + n) (words (inside_of deepest) (drop (at + n) text))) ∙ is)) m before.derived z.0 place stands

pub is_next : (text : List ℕ) (at next : ℕ) (ws : List Spelled) → next_command text at ≡ Ok (Some (ws, next)) → IsNext text at ws next
unfolding next_command
is_next text at next ws is = found_at text at next ws (start (drop at text)) refl is

-- nothing is left

last_at : (text : List ℕ) (at : ℕ) → start (drop at text) ≡ None → IsLast text at
last_at text at none =
    let s : List ℕ = drop at text in
    let before = before_of s in
    by before.rest before.derived
  where
    by : (m : List ℕ) → Before (drop at text) m → IsLast text at
    by [] h = h
    by (b ∷ m) h =
        let t = start_passes (drop at text) (b ∷ m) h in
        let here : start (drop at text) ≡ Some (t.n + 0) = t.is ∙ ap (plus t.n) (start_here b m (before_stands (drop at text) (b ∷ m) h)) in
        absurd (let no : ◌≡◌ {A = Option ℕ} None (Some (t.n + 0)) = sym none ∙ here in cc)

none_found : (text : List ℕ) (at : ℕ) (o : Option ℕ) → command_at at text o ≡ Ok None → o ≡ None
none_found text at None is = refl
none_found text at (Some n) is = absurd (by (words (inside_of deepest) (drop (at + n) text)) (sym (from_is (at + n) (words (inside_of deepest) (drop (at + n) text))) ∙ is))
  where
    by : (r : Read (List Spelled)) → found_from (at + n) r ≡ Ok None → ⊥
    by (Err e) q = cc
    by (Ok p) q = cc

pub is_last : (text : List ℕ) (at : ℕ) → next_command text at ≡ Ok None → IsLast text at
unfolding next_command
is_last text at is = last_at text at (none_found text at (start (drop at text)) is)

pub last_is : (text : List ℕ) (at : ℕ) → IsLast text at → next_command text at ≡ Ok None
unfolding next_command
last_is text at h =
    let t = start_passes (drop at text) [] h in
    let none : start (drop at text) ≡ None = t.is ∙ ap (plus t.n) start_nothing in
    ap (command_at at text) none

-- so the rules give one command at most

pub one_next : (text : List ℕ) (at j k : ℕ) (v w : List Spelled) → IsNext text at v j → IsNext text at w k → (v ≡ w) × (j ≡ k)
one_next text at j k v w g h = same_found v w j k (sym (next_is text at j v g) ∙ next_is text at k w h)

-- and none where there is a fault
pub fault_is : (text : List ℕ) (at next : ℕ) (ws : List Spelled) (e : WordFault) → next_command text at ≡ Err e → (¬ IsNext text at ws next) × (¬ IsLast text at)
fault_is text at next ws e is = (λ h. let read = next_is text at next ws h in cc, λ h. let none = last_is text at h in cc)
