-- What the rules derive is accepted.
use Rattle.std.proofs.Common.{◌≡◌, ℕ, ◌+◌, ◌-◌, ◌<◌, ◌≤◌, Bool, true, false, List, [], ◌∷◌, drop, get_or, Some, eqb, refl, sym, ap, ◌∙◌, arith}
use Rattle.std.proofs.lemmas.Bool.{eqb-true}
use Rattle.std.proofs.lemmas.Bool.Decides.{nat_tests}
use Rattle.std.proofs.lemmas.List.{get_or-drop}
use Rattle.tcl_words.proofs.Readings.{reading_step, reading_end}
use Rattle.exp_match.specs.declared.token.Token.{Token}
use Rattle.exp_match.specs.declared.token.Token.TheVariants as token
use Rattle.exp_match.specs.declared.token.Nesting.{Nesting}
use Rattle.exp_match.specs.Grammar.{Re, Seq, Piece, Atom, Times, Repeat, alone, either, empty, next, start, end, once, repeated, any, group, plain_group, character, literal, exactly, at_least, between, greedy, lazy}
use Rattle.exp_match.specs.Grammar as grammar
use Rattle.exp_match.specs.Scan.{accepts, accepts_step, behind, behind_token, go_on, token_at, outermost, is_special, is_set, is_digit, escaped, with_lazy, count, class}
use Rattle.exp_match.proofs.Counts.{neither}
use Rattle.exp_match.proofs.Numbers.{number_digit, standing, exactly_reads, at_least_reads, between_reads}
use Rattle.exp_match.proofs.Heads.{class_reads, class_without_reads, escape_reads, escape_no_set}

abbrev at_depth : ℕ → ℕ → Bool → Nesting
at_depth o l f = record { opened = o; left = l; repeatable = f }

-- a token is accepted where what stands behind it is
passes : (c : ℕ) (s t : List ℕ) (k : Token) (j : ℕ) → token_at c s ≡ Some (k, j) → t ≡ drop j s → (n m : Nesting) → behind n k ≡ Some m → accepts t m ≡ true → accepts (c ∷ s) n ≡ true
unfolding accepts
passes c s t k j is e n m goes h =
    ap (λ (f : Nesting → Bool). f n) (reading_step (λ n. eqb n.opened 0) accepts_step c s)
    ∙ ap (behind_token (λ k. accepts (drop k s)) n) is ∙ ap (go_on (accepts (drop j s))) goes ∙ ap (λ (x : List ℕ). accepts x m) (sym e) ∙ h

at_end : (l : ℕ) (f : Bool) → accepts [] (at_depth 0 l f) ≡ true
unfolding accepts
at_end l f = ap (λ (g : Nesting → Bool). g (at_depth 0 l f)) (reading_end (λ n. eqb n.opened 0) accepts_step)

bound : (c : ℕ) (s : List ℕ) → token_at c s ≡ Some (token.Bound, 0) → (o l : ℕ) → accepts s (at_depth o l false) ≡ true → (f : Bool) → accepts (c ∷ s) (at_depth o l f) ≡ true
bound c s is o l h f = passes c s s token.Bound 0 is refl (at_depth o l f) (at_depth o l false) refl h

atom : (c : ℕ) (s t : List ℕ) (j : ℕ) → token_at c s ≡ Some (token.Atom, j) → t ≡ drop j s → (o l : ℕ) → accepts t (at_depth o l true) ≡ true → (f : Bool) → accepts (c ∷ s) (at_depth o l f) ≡ true
atom c s t j is e o l h f = passes c s t token.Atom j is e (at_depth o l f) (at_depth o l true) refl h

repeat : (c : ℕ) (s t : List ℕ) (j : ℕ) → token_at c s ≡ Some (token.Repeat, j) → t ≡ drop j s → (o l : ℕ) → accepts t (at_depth o l false) ≡ true → accepts (c ∷ s) (at_depth o l true) ≡ true
repeat c s t j is e o l h = passes c s t token.Repeat j is e (at_depth o l true) (at_depth o l false) refl h

some_left : (l : ℕ) → 0 < l → eqb l 0 ≡ false
some_left l h = grind (arith, nat_tests)

-- the inside of a group, and what stands behind its end
group_open : (c : ℕ) (s t : List ℕ) (j o l : ℕ) → token_at c s ≡ Some (token.Open, j) → t ≡ drop j s → 0 < l → accepts t (at_depth (o + 1) (l - 1) false) ≡ true → (f : Bool) → accepts (c ∷ s) (at_depth o l f) ≡ true
group_open c s t j o l is e some h f = passes c s t token.Open j is e (at_depth o l f) (at_depth (o + 1) (l - 1) false) (rw (some_left l some) refl) h

closed : (t : List ℕ) → token_at 41 t ≡ Some (token.Close, 0)
unfolding token_at
closed t = refl

group_close : (t : List ℕ) (o l : ℕ) → 0 < l → accepts t (at_depth o l true) ≡ true → (f : Bool) → accepts (41 ∷ t) (at_depth (o + 1) (l - 1) f) ≡ true
group_close t o l some h f =
    let down : o + 1 - 1 ≡ o = omega arith in
    let up : l - 1 + 1 ≡ l = omega arith in
    let one_open : eqb (o + 1) 0 ≡ false = some_left (o + 1) (omega arith) in
    let state : at_depth (o + 1 - 1) (l - 1 + 1) true ≡ at_depth o l true = ap (λ (i : ℕ). at_depth i (l - 1 + 1) true) down ∙ ap (λ (i : ℕ). at_depth o i true) up in
    passes 41 t t token.Close 0 (closed t) refl (at_depth (o + 1) (l - 1) f) (at_depth (o + 1 - 1) (l - 1 + 1) true) (rw one_open refl) (ap (accepts t) state ∙ h)

-- tokens

bar_token : (s : List ℕ) → token_at 124 s ≡ Some (token.Bound, 0)
unfolding token_at
bar_token s = refl

start_token : (s : List ℕ) → token_at 94 s ≡ Some (token.Bound, 0)
unfolding token_at
start_token s = refl

end_token : (s : List ℕ) → token_at 36 s ≡ Some (token.Bound, 0)
unfolding token_at
end_token s = refl

any_token : (s : List ℕ) → token_at 46 s ≡ Some (token.Atom, 0)
unfolding token_at
any_token s = refl

star_token : (s : List ℕ) → token_at 42 s ≡ Some (token.Repeat, with_lazy s 0)
unfolding token_at
star_token s = refl

plus_token : (s : List ℕ) → token_at 43 s ≡ Some (token.Repeat, with_lazy s 0)
unfolding token_at
plus_token s = refl

optional_token : (s : List ℕ) → token_at 63 s ≡ Some (token.Repeat, with_lazy s 0)
unfolding token_at
optional_token s = refl

count_token : (s : List ℕ) (k : ℕ) → is_digit (get_or s 0 0) ≡ true → count s ≡ Some k → token_at 123 s ≡ Some (token.Repeat, with_lazy s k)
unfolding token_at
count_token s k d e = rw (d, e) refl

brace_token : (s : List ℕ) → is_digit (get_or s 0 0) ≡ false → token_at 123 s ≡ Some (token.Atom, 0)
unfolding token_at
brace_token s d = rw d refl

class_token : (s : List ℕ) (k : ℕ) → class s ≡ Some k → token_at 91 s ≡ Some (token.Atom, k)
unfolding token_at
class_token s k e = rw e refl

set_token : (c : ℕ) (s : List ℕ) → is_set c ≡ true → token_at 92 (c ∷ s) ≡ Some (token.Atom, 1)
unfolding token_at
set_token c s e = rw e refl

character_token : (v k : ℕ) (s : List ℕ) → is_set (get_or s 0 0) ≡ false → escaped s ≡ Some (v, k) → token_at 92 s ≡ Some (token.Atom, k)
unfolding token_at
character_token v k s dark e = rw (dark, e) refl

group_token : (s : List ℕ) → eqb (get_or s 0 0) 63 ≡ false → token_at 40 s ≡ Some (token.Open, 0)
unfolding token_at
group_token s e = rw e refl

plain_group_token : (s : List ℕ) → token_at 40 (63 ∷ 58 ∷ s) ≡ Some (token.Open, 2)
unfolding token_at
plain_group_token s = refl

literal_token : (c : ℕ) (s : List ℕ) → is_special c ≡ false → token_at c s ≡ Some (token.Atom, 0)
unfolding token_at
literal_token c s e =
    let a = neither _ (eqb c 36) e in
    let b = neither _ (eqb c 94) a.0 in
    let f = neither _ (eqb c 123) b.0 in
    let h = neither _ (eqb c 91) f.0 in
    let i = neither _ (eqb c 124) h.0 in
    let j = neither _ (eqb c 41) i.0 in
    let k = neither _ (eqb c 40) j.0 in
    let l = neither _ (eqb c 63) k.0 in
    let m = neither _ (eqb c 42) l.0 in
    let n = neither _ (eqb c 43) m.0 in
    let o = neither (eqb c 92) (eqb c 46) n.0 in
    rw (i.1, b.1, a.1, m.1, n.1, l.1, f.1, k.1, j.1, h.1, o.0) refl

-- no pattern begins with `?`
atom_head : (d : ℕ) (s t : List ℕ) → Atom d s t → eqb (get_or s 0 0) 63 ≡ false
atom_head d s t (any d' s') = refl
atom_head d s t (group d' s' t' r) = refl
atom_head d s t (plain_group d' s' t' r) = refl
atom_head d s t (grammar.class d' s' t' q c) = refl
atom_head d s t (grammar.class_without d' s' t' c) = refl
atom_head d s t (character d' v s' t' q) = refl
atom_head d s t (grammar.set d' c s' q) = refl
atom_head d s t (grammar.brace d' s' q) = refl
atom_head d s t (literal d' c s' q) = no_question c q
  where
    no_question : (c : ℕ) → is_special c ≡ false → eqb c 63 ≡ false
    no_question c e =
        let a = neither _ (eqb c 36) e in
        let b = neither _ (eqb c 94) a.0 in
        let f = neither _ (eqb c 123) b.0 in
        let h = neither _ (eqb c 91) f.0 in
        let i = neither _ (eqb c 124) h.0 in
        let j = neither _ (eqb c 41) i.0 in
        let k = neither _ (eqb c 40) j.0 in
        (neither _ (eqb c 63) k.0).1

piece_head : (d : ℕ) (s t : List ℕ) → Piece d s t → eqb (get_or s 0 0) 63 ≡ false
piece_head d s t (start d' s') = refl
piece_head d s t (end d' s') = refl
piece_head d s t (once d' s' t' a) = atom_head d s t a
piece_head d s t (repeated d' s' u t' a r) = atom_head d s u a

seq_head : (d : ℕ) (s t : List ℕ) → Seq d s t → eqb (get_or t 0 0) 63 ≡ false → eqb (get_or s 0 0) 63 ≡ false
seq_head d s t (empty d' s') h = h
seq_head d s t (next d' s' u t' p q) h = piece_head d s u p

re_head : (d : ℕ) (s t : List ℕ) → Re d s t → eqb (get_or t 0 0) 63 ≡ false → eqb (get_or s 0 0) 63 ≡ false
re_head d s t (alone d' s' t' q) h = seq_head d s t q h
re_head d s t (either d' s' t' u q r) h = seq_head d s (124 ∷ t') q refl

-- a repetition begins with the token that is read there; behind its `?` it goes on one further
record TimesToken (s t : List ℕ) : Type 0 where
  first : ℕ
  rest : List ℕ
  length : ℕ
  whole : s ≡ first ∷ rest
  is : token_at first rest ≡ Some (token.Repeat, with_lazy rest length)
  left : t ≡ drop length rest

times_read : (s t : List ℕ) → Times s t → TimesToken s t
times_read s t (grammar.star s') = record { first = 42; rest = s'; length = 0; whole = refl; is = star_token s'; left = refl }
times_read s t (grammar.plus s') = record { first = 43; rest = s'; length = 0; whole = refl; is = plus_token s'; left = refl }
times_read s t (grammar.optional s') = record { first = 63; rest = s'; length = 0; whole = refl; is = optional_token s'; left = refl }
times_read s t (exactly m s' t' n) =
    let r = exactly_reads m s' t n in
    record { first = 123; rest = s'; length = r.0; whole = refl; is = count_token s' r.0 (number_digit m s' (125 ∷ t) n) r.1; left = r.2 }
times_read s t (at_least m s' t' n) =
    let r = at_least_reads m s' t n in
    record { first = 123; rest = s'; length = r.0; whole = refl; is = count_token s' r.0 (number_digit m s' (44 ∷ 125 ∷ t) n) r.1; left = r.2 }
times_read s t (between m n s' u t' low high le) =
    let r = between_reads m n s' u t low high le in
    record { first = 123; rest = s'; length = r.0; whole = refl; is = count_token s' r.0 (number_digit m s' (44 ∷ u) low) r.1; left = r.2 }

-- behind a repetition no other is accepted
refused : (t : List ℕ) (o l : ℕ) → accepts (63 ∷ t) (at_depth o l false) ≡ false
unfolding accepts token_at
refused t o l = ap (λ (f : Nesting → Bool). f (at_depth o l false)) (reading_step (λ n. eqb n.opened 0) accepts_step 63 t)

no_question_behind : (t : List ℕ) (o l : ℕ) → accepts t (at_depth o l false) ≡ true → eqb (get_or t 0 0) 63 ≡ false
no_question_behind [] o l h = refl
no_question_behind (c ∷ t) o l h = by (eqb c 63) refl
  where
    by : (b : Bool) → eqb c 63 ≡ b → eqb c 63 ≡ false
    by false e = e
    by true e =
        let bad : true ≡ false = sym h ∙ ap (λ (x : ℕ). accepts (x ∷ t) (at_depth o l false)) (eqb-true c 63 e) ∙ refused t o l in
        absurd (cc)

repeat_goes : (s t : List ℕ) → Repeat s t → (o l : ℕ) → accepts t (at_depth o l false) ≡ true → accepts s (at_depth o l true) ≡ true
repeat_goes s t (greedy s' t' x) o l h =
    let r = times_read s t x in
    let place : r.length + 0 ≡ r.length = omega arith in
    let none : eqb (get_or r.rest r.length 0) 63 ≡ false =
    ap (λ (i : ℕ). eqb (get_or r.rest i 0) 63) (sym place) ∙ ap (λ (c : ℕ). eqb c 63) (sym (get_or-drop r.length r.rest 0 0)) ∙ ap (λ (x : List ℕ). eqb (get_or x 0 0) 63) (sym r.left)
    ∙ no_question_behind t o l h in
    let is : token_at r.first r.rest ≡ Some (token.Repeat, r.length) = r.is ∙ rw none refl in
    ap (λ (x : List ℕ). accepts x (at_depth o l true)) r.whole ∙ repeat r.first r.rest t r.length is r.left o l h
repeat_goes s t (lazy s' t' x) o l h =
    let r = times_read s (63 ∷ t) x in
    let p = standing r.rest r.length 63 t r.left in
    let is : token_at r.first r.rest ≡ Some (token.Repeat, r.length + 1) = r.is ∙ rw p.0 refl in
    ap (λ (x : List ℕ). accepts x (at_depth o l true)) r.whole ∙ repeat r.first r.rest t (r.length + 1) is p.1 o l h

-- accepted whatever may be repeated
abbrev Goes : List ℕ → ℕ → ℕ → Type 0
Goes s o l = (f : Bool) → accepts s (at_depth o l f) ≡ true

mutual
  pub re_goes : (d : ℕ) (s t : List ℕ) → Re d s t → (o l : ℕ) → d ≤ l → Goes t o l → Goes s o l
  re_goes d s t (alone d' s' t' q) o l le h = seq_goes d s t q o l le h
  re_goes d s t (either d' s' u t' q r) o l le h = seq_goes d s (124 ∷ u) q o l le (bound 124 u (bar_token u) o l (re_goes d u t r o l le h false))

  seq_goes : (d : ℕ) (s t : List ℕ) → Seq d s t → (o l : ℕ) → d ≤ l → Goes t o l → Goes s o l
  seq_goes d s t (empty d' s') o l le h = h
  seq_goes d s t (next d' s' u t' p q) o l le h = piece_goes d s u p o l le (seq_goes d u t q o l le h)

  piece_goes : (d : ℕ) (s t : List ℕ) → Piece d s t → (o l : ℕ) → d ≤ l → Goes t o l → Goes s o l
  piece_goes d s t (start d' s') o l le h = bound 94 s' (start_token s') o l (h false)
  piece_goes d s t (end d' s') o l le h = bound 36 s' (end_token s') o l (h false)
  piece_goes d s t (once d' s' t' a) o l le h = atom_goes d s t a o l le (h true)
  piece_goes d s t (repeated d' s' u t' a r) o l le h = atom_goes d s u a o l le (repeat_goes u t r o l (h false))

  atom_goes : (d : ℕ) (s t : List ℕ) → Atom d s t → (o l : ℕ) → d ≤ l → accepts t (at_depth o l true) ≡ true → Goes s o l
  atom_goes d s t (any d' s') o l le h = atom 46 s' s' 0 (any_token s') refl o l h
  atom_goes d s t (group d' s' t' r) o l le h =
      group_open 40 s' s' 0 o l (group_token s' (re_head d' s' (41 ∷ t) r refl)) refl (omega arith) (re_goes d' s' (41 ∷ t) r (o + 1) (l - 1) (omega arith) (group_close t o l (omega arith) h) false)
  atom_goes d s t (plain_group d' s' t' r) o l le h =
      group_open 40 (63 ∷ 58 ∷ s') s' 2 o l (plain_group_token s') refl (omega arith) (re_goes d' s' (41 ∷ t) r (o + 1) (l - 1) (omega arith) (group_close t o l (omega arith) h) false)
  atom_goes d s t (grammar.class d' s' t' q c) o l le h = let r = class_reads s' t q c in atom 91 s' t r.0 (class_token s' r.0 r.1) r.2 o l h
  atom_goes d s t (grammar.class_without d' s' t' c) o l le h = let r = class_without_reads s' t c in atom 91 (94 ∷ s') t r.0 (class_token (94 ∷ s') r.0 r.1) r.2 o l h
  atom_goes d s t (character d' v s' t' q) o l le h =
      let r = escape_reads v s' t q in atom 92 s' t r.0 (character_token v r.0 s' (escape_no_set v s' t q) r.1) r.2 o l h
  atom_goes d s t (grammar.set d' c s' q) o l le h = atom 92 (c ∷ s') s' 1 (set_token c s' q) refl o l h
  atom_goes d s t (grammar.brace d' s' q) o l le h = atom 123 s' s' 0 (brace_token s' q) refl o l h
  atom_goes d s t (literal d' c s' q) o l le h = atom c s' s' 0 (literal_token c s' q) refl o l h

pub followed : (s : List ℕ) → Re 50 s [] → accepts s outermost ≡ true
followed s r = re_goes 50 s [] r 0 50 (omega arith) (at_end 50) false
