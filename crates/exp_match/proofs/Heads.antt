-- The classes of the rules are read as such.
use Rattle.std.proofs.Common.{◌≡◌, ℕ, zero, suc, ◌+◌, ◌-◌, ◌<◌, ◌≤◌, nat_le, Bool, true, false, not, ◌&&◌, ◌||◌, List, ◌∷◌, drop, get_or, Option, Some, None, IfSome, eqb, refl, sym, ap, ◌∙◌, subst, ⊎_elim, arith}
use Rattle.std.proofs.lemmas.Bool.{eqb-true}
use Rattle.std.proofs.lemmas.Bool.Decides.{nat_tests}
use Rattle.std.proofs.lemmas.List.{drop-drop}
use Rattle.tcl_words.specs.Lists.{plus}
use Rattle.tcl_words.proofs.Readings.{reading_step}
use Rattle.exp_match.specs.Grammar.{Pair, Escape, Item, Name, Member, Members, Class, digits, quote, byte, unicode, plain, escape, alnum, alpha, cntrl, digit, lower, print, space, upper, xdigit, one, range, over, dash, more, bracket_first, dash_first, member_first}
use Rattle.exp_match.specs.Grammar as grammar
use Rattle.exp_match.specs.Scan.{quoted, pair, escaped, is_set, is_mark, is_class_char, item, makes_range, begins_set, begins_name, named, member, may_end, members, members_step, plain_class, class}
use Rattle.exp_match.proofs.Tokens.{member_is}
use Rattle.exp_match.proofs.Counts.{neither}
use Rattle.exp_match.proofs.Meant.{either_of}

not_so : (t : Bool) → not t ≡ true → t ≡ false
not_so false e = refl
not_so true e = absurd (cc)

le_leb : (m n : ℕ) → m ≤ n → nat_le m n ≡ true
le_leb m n h = grind (arith, nat_tests)

-- a text that begins with no ] -
abbrev Head : List ℕ → Type 0
Head s = (eqb (get_or s 0 0) 93 ≡ false) × (eqb (get_or s 0 0) 45 ≡ false) × (s ≡ get_or s 0 0 ∷ drop 1 s)

-- no backslash, no `]`, no `-`, and no bracket with a mark behind it
class_char_not : (c : ℕ) (s : List ℕ) → is_class_char c s ≡ true
    → (eqb c 92 ≡ false) × (eqb c 93 ≡ false) × (eqb c 45 ≡ false) × (eqb c 91 && is_mark (get_or s 0 0) ≡ false)
class_char_not c s t =
    let a = neither ((eqb c 92 || eqb c 93) || eqb c 45) (eqb c 91 && is_mark (get_or s 0 0)) (not_so _ t) in
    let b = neither (eqb c 92 || eqb c 93) (eqb c 45) a.0 in
    let d = neither (eqb c 92) (eqb c 93) b.0 in
    (d.0, d.1, b.1, a.1)

item_head : (v : ℕ) (s t : List ℕ) → Item v s t → Head s
item_head v s t (plain c s' p) = let n = class_char_not c s' p in (n.1, n.2, refl)
item_head v s t (escape v' s' t' e) = (refl, refl, refl)

member_head : (s t : List ℕ) → Member s t → Head s
member_head s t (one v s' t' i) = item_head v s t i
member_head s t (range v w s' t' u i j le) = item_head v s (45 ∷ t') i
member_head s t (grammar.set c s' p) = (refl, refl, refl)
member_head s t (grammar.named s' t' n) = (refl, refl, refl)

-- escapes

pair_reads : (v : ℕ) (s t : List ℕ) → Pair v s t → (pair s ≡ Some v) × (t ≡ drop 2 s)
pair_reads v s t (digits h i s' p q) = (rw (p, q) refl, refl)

-- what isn't quoted is another character
apart : (c b v : ℕ) → quoted c ≡ Some v → quoted b ≡ None → eqb c b ≡ false
apart c b v q none = by (eqb c b) refl
  where
    by : (t : Bool) → eqb c b ≡ t → eqb c b ≡ false
    by false e = e
    by true e = let bad : None ≡ Some v = sym none ∙ ap quoted (sym (eqb-true c b e)) ∙ q in absurd (cc)

pub escape_reads : (v : ℕ) (s t : List ℕ) → Escape v s t → (k : ℕ) × (escaped s ≡ Some (v, k)) × (t ≡ drop k s)
unfolding escaped
escape_reads v s t (quote c v' s' q) = (1, rw (apart c 120 v q refl, apart c 117 v q refl, q) refl, refl)
escape_reads v s t (byte v' s' t' p) = let r = pair_reads v s' t p in (3, rw r.0 refl, r.1)
escape_reads v s t (unicode a b s' u t' p q n) =
    let r = pair_reads a s' u p in
    let l = pair_reads b u t q in
    let low : pair (drop 2 s') ≡ Some b = ap pair (sym r.1) ∙ l.0 in
    (5, rw (r.0, low, n) refl, l.1 ∙ ap (drop 2) r.1 ∙ drop-drop 2 2 s')

item_reads : (v : ℕ) (s t : List ℕ) → Item v s t → (k : ℕ) × (item s ≡ Some (v, k)) × (t ≡ drop k s)
item_reads v s t (plain c s' p) = let n = class_char_not c s' p in (1, rw (p, n.0) refl, refl)
item_reads v s t (escape v' s' t' e) =
    let r = escape_reads v s' t e in
    let m : suc r.0 ≡ r.0 + 1 = omega arith in
    (r.0 + 1, rw r.1 refl, r.2 ∙ ap (λ (i : ℕ). drop i (92 ∷ s')) m)

-- a set is no quoted character
set_unquoted : (c : ℕ) → is_set c ≡ true → quoted c ≡ None
set_unquoted c t =
    let at = λ (b : ℕ) (r : quoted b ≡ None) (e : eqb c b ≡ true). subst (λ (x : ℕ). quoted x ≡ None) (sym (eqb-true c b e)) r in
    ⊎_elim
    (λ a. ⊎_elim
    (λ b. ⊎_elim
    (λ d. ⊎_elim
    (λ e. ⊎_elim (at 100 refl) (at 115 refl) (either_of (eqb c 100) (eqb c 115) e))
    (at 119 refl) (either_of (eqb c 100 || eqb c 115) (eqb c 119) d))
    (at 68 refl) (either_of (eqb c 100 || eqb c 115 || eqb c 119) (eqb c 68) b))
    (at 83 refl) (either_of (eqb c 100 || eqb c 115 || eqb c 119 || eqb c 68) (eqb c 83) a))
    (at 87 refl) (either_of (eqb c 100 || eqb c 115 || eqb c 119 || eqb c 68 || eqb c 83) (eqb c 87) t)

pub quoted_no_set : (c v : ℕ) → quoted c ≡ Some v → is_set c ≡ false
quoted_no_set c v q = by (is_set c) refl
  where
    by : (t : Bool) → is_set c ≡ t → is_set c ≡ false
    by false e = e
    by true e = let bad : None ≡ Some v = sym (set_unquoted c e) ∙ q in absurd (cc)

pub escape_no_set : (v : ℕ) (s t : List ℕ) → Escape v s t → is_set (get_or s 0 0) ≡ false
escape_no_set v s t (quote c v' s' q) = quoted_no_set c v q
escape_no_set v s t (byte v' s' t' p) = refl
escape_no_set v s t (unicode a b s' u t' p q n) = refl

item_no_set : (v : ℕ) (s t : List ℕ) → Item v s t → begins_set s ≡ false
item_no_set v s t (plain c s' p) = let n = class_char_not c s' p in rw n.0 refl
item_no_set v s t (escape v' s' t' e) = escape_no_set v s' t e

no_colon : (bracket colon dot equals : Bool) → bracket && ((colon || dot) || equals) ≡ false → bracket && colon ≡ false
no_colon false colon dot equals e = refl
no_colon true false dot equals e = refl
no_colon true true dot equals e = absurd (cc)

item_no_name : (v : ℕ) (s t : List ℕ) → Item v s t → begins_name s ≡ false
item_no_name v s t (plain c s' p) =
    let n = class_char_not c s' p in no_colon (eqb c 91) (eqb (get_or s' 0 0) 58) (eqb (get_or s' 0 0) 46) (eqb (get_or s' 0 0) 61) n.3
item_no_name v s t (escape v' s' t' e) = refl

name_reads : (s t : List ℕ) → Name s t → (k : ℕ) × (named s ≡ Some k) × (t ≡ drop k s)
unfolding named
name_reads s t (alnum t') = (7, refl, refl)
name_reads s t (alpha t') = (7, refl, refl)
name_reads s t (cntrl t') = (7, refl, refl)
name_reads s t (digit t') = (7, refl, refl)
name_reads s t (lower t') = (7, refl, refl)
name_reads s t (print t') = (7, refl, refl)
name_reads s t (space t') = (7, refl, refl)
name_reads s t (upper t') = (7, refl, refl)
name_reads s t (xdigit t') = (8, refl, refl)

member_reads : (s t : List ℕ) → Member s t → makes_range t ≡ false → (k : ℕ) × (member s ≡ Some k) × (t ≡ drop k s)
unfolding member
member_reads s t (one v s' t' i) no_range =
    let r = item_reads v s t i in
    let here : makes_range (drop r.0 s) ≡ false = subst (λ (x : List ℕ). makes_range x ≡ false) r.2 no_range in
    (r.0, rw (item_no_set v s t i, item_no_name v s t i, r.1, here) refl, r.2)
member_reads s t (range v w s' u t' i j le) no_range =
    let r = item_reads v s (45 ∷ u) i in
    let q = item_reads w u t j in
    let h = item_head w u t j in
    let here : makes_range (drop r.0 s) ≡ true = subst (λ (x : List ℕ). makes_range x ≡ true) r.2 (rw h.0 refl) in
    let next : drop (r.0 + 1) s ≡ u = sym (drop-drop 1 r.0 s) ∙ ap (drop 1) (sym r.2) in
    let second : item (drop (r.0 + 1) s) ≡ Some (w, q.0) = ap item next ∙ q.1 in
    let order : nat_le v w ≡ true = le_leb v w le in
    (r.0 + 1 + q.0, rw (item_no_set v s (45 ∷ u) i, item_no_name v s (45 ∷ u) i, r.1, here, second, order) refl, q.2 ∙ ap (drop q.0) (sym next) ∙ drop-drop q.0 (r.0 + 1) s)
member_reads s t (grammar.set c s' p) no_range = (2, rw p refl, refl)
member_reads s t (grammar.named s' t' n) no_range = let r = name_reads s' t n in (2 + r.0, rw r.1 refl, r.2 ∙ drop-drop r.0 2 s)

members_cons : (c : ℕ) (s : List ℕ) → members (c ∷ s) ≡ members_step (λ k. members (drop k s)) c s
unfolding members
members_cons c s = reading_step None members_step c s

-- a member, and what is read behind it
member_then : (c : ℕ) (s : List ℕ) (k j : ℕ) → may_end c ≡ false → member (c ∷ s) ≡ Some k → 0 < k → members (drop k (c ∷ s)) ≡ Some j → members (c ∷ s) ≡ Some (k + j)
member_then c s zero j goes is positive behind = absurd (omega arith)
member_then c s (suc k) j goes is positive behind =
    let same : suc k - 1 ≡ k = omega arith in
    let read : members (drop (suc k - 1) s) ≡ Some j = ap (λ (i : ℕ). members (drop i s)) same ∙ behind in
    members_cons c s ∙ rw (goes, is, read) refl

member_step : (s u : List ℕ) (j : ℕ) → Member s u → makes_range u ≡ false → members u ≡ Some j → (k : ℕ) × (members s ≡ Some (k + j)) × (u ≡ drop k s)
member_step s u j m no_range behind =
    let r = member_reads s u m no_range in
    let h = member_head s u m in
    let positive : 0 < r.0 = (subst (λ (o : Option ℕ). IfSome o (λ (k : ℕ). (0 < k) × Member s (drop k s))) r.1 (member_is s)).0 in
    let c = get_or s 0 0 in
    let rest = drop 1 s in
    let goes : may_end c ≡ false = rw (h.0, h.1) refl in (
      r.0,
      ap members h.2 ∙ member_then c rest r.0 j goes (ap member (sym h.2) ∙ r.1) positive (ap (λ (x : List ℕ). members (drop r.0 x)) (sym h.2) ∙ ap members (sym r.2) ∙ behind),
      r.2,
    )

head_no_range : (s : List ℕ) → Head s → makes_range s ≡ false
head_no_range s h = rw h.1 refl

members_read : (s t : List ℕ) → Members s t → (makes_range s ≡ false) × ((k : ℕ) × (members s ≡ Some k) × (t ≡ drop k s))
members_read s t (over s') = (refl, (1, members_cons 93 t, refl))
members_read s t (dash s') = (refl, (2, members_cons 45 (93 ∷ t), refl))
members_read s t (more s' u t' m ms) =
    let e = members_read u t ms in
    let r = member_step s u e.1.0 m e.0 e.1.1 in
    (head_no_range s (member_head s u m), (r.0 + e.1.0, r.1, e.1.2 ∙ ap (drop e.1.0) r.2 ∙ drop-drop e.1.0 r.0 s))

plain_class_reads : (s t : List ℕ) → Class s t → (k : ℕ) × (plain_class s ≡ Some k) × (t ≡ drop k s)
plain_class_reads s t (bracket_first s' t' ms) = let r = (members_read s' t ms).1 in (1 + r.0, ap (plus 1) r.1, r.2 ∙ drop-drop r.0 1 (93 ∷ s'))
plain_class_reads s t (dash_first s' t' ms) = let r = (members_read s' t ms).1 in (1 + r.0, ap (plus 1) r.1, r.2 ∙ drop-drop r.0 1 (45 ∷ s'))
plain_class_reads s t (member_first s' u t' m ms) =
    let r = (members_read s t (more s u t m ms)).1 in
    let h = member_head s u m in
    (r.0, rw (h.0, h.1, r.1) refl, r.2)

pub class_reads : (s t : List ℕ) → eqb (get_or s 0 0) 94 ≡ false → Class s t → (k : ℕ) × (class s ≡ Some k) × (t ≡ drop k s)
unfolding class
class_reads s t e c = let r = plain_class_reads s t c in (r.0, rw (e, r.1) refl, r.2)

pub class_without_reads : (s t : List ℕ) → Class s t → (k : ℕ) × (class (94 ∷ s) ≡ Some k) × (t ≡ drop k (94 ∷ s))
unfolding class
class_without_reads s t c = let r = plain_class_reads s t c in (1 + r.0, ap (plus 1) r.1, r.2 ∙ drop-drop r.0 1 (94 ∷ s))
