-- The escapes and classes that are read are those of the rules.
use Rattle.std.proofs.Common.{◌≡◌, ◌≢◌, ℕ, zero, suc, ◌+◌, ◌-◌, ◌*◌, ◌<◌, ◌≤◌, nat_le, Bool, true, false, cond, ◌&&◌, ◌||◌, List, [], ◌∷◌, ◌++◌, length, drop, get_or, Option, Some, None, IfSome, option_map, eqb, refl, sym, ap, ◌∙◌, subst, arith}
use Rattle.std.specs.Prelude.{codes, option_and_then}
use Rattle.std.specs.Char.{digit_value}
use Rattle.std.proofs.lemmas.Bool.{eqb-true}
use Rattle.std.proofs.lemmas.Bool.Decides.{nat_tests}
use Rattle.std.proofs.lemmas.List.{drop-drop}
use Rattle.tcl_words.specs.Lists.{plus}
use Rattle.tcl_words.proofs.ListGraph.{course_induction}
use Rattle.exp_match.specs.Grammar.{Pair, Escape, Item, Name, Member, Members, Class, Atom, digits, quote, byte, unicode, plain, escape, alnum, alpha, cntrl, digit, lower, print, space, upper, xdigit, one, range, over, dash, more, bracket_first, dash_first, member_first}
use Rattle.exp_match.specs.Grammar as grammar
use Rattle.exp_match.specs.Scan.{quoted, is_hex, pair, is_surrogate, unless_surrogate, two_pairs, escaped, is_set, is_class_char, item, makes_range, range_to, member_from, begins_set, begins_name, begins, begins_with_five, named, member, may_end, ending, behind_member, members, members_step, plain_class, class}
use Rattle.exp_match.proofs.Accepting.{both_of}

-- a choice by a test, with the test's answer known
pub by_test : {A : Type 0} (P : A → Type 0) (t : Bool) (x y : A) → (t ≡ true → P x) → (t ≡ false → P y) → P (cond t x y)
by_test P true x y p q = p refl
by_test P false x y p q = q refl

-- what stands at the front
pub front : (s : List ℕ) (c : ℕ) → c ≢ 0 → get_or s 0 0 ≡ c → s ≡ c ∷ drop 1 s
front [] c some e = absurd (some (sym e))
front (b ∷ s) c some e = ap (λ (x : ℕ). x ∷ s) e

pub front_two : (s : List ℕ) (b c : ℕ) → b ≢ 0 → c ≢ 0 → get_or s 0 0 ≡ b → get_or s 1 0 ≡ c → s ≡ b ∷ c ∷ drop 2 s
front_two [] b c some other e f = absurd (some (sym e))
front_two (x ∷ []) b c some other e f = absurd (other (sym f))
front_two (x ∷ y ∷ s) b c some other e f = ap (λ (i : ℕ). i ∷ y ∷ s) e ∙ ap (λ (i : ℕ). b ∷ i ∷ s) f

-- escapes

hex_some : (c : ℕ) → is_hex c ≡ true → c ≢ 0
hex_some c t e = let bad : is_hex 0 ≡ true = subst (λ (x : ℕ). is_hex x ≡ true) e t in absurd (cc)

pair_is : (s : List ℕ) → IfSome (pair s) (λ (v : ℕ). Pair v s (drop 2 s))
pair_is s =
    by_test (λ (o : Option ℕ). IfSome o (λ (v : ℕ). Pair v s (drop 2 s))) (is_hex (get_or s 0 0) && is_hex (get_or s 1 0)) _ _
    (λ t. let p = both_of _ _ t in
    subst (λ (x : List ℕ). Pair (16 * digit_value (get_or s 0 0) + digit_value (get_or s 1 0)) x (drop 2 s))
    (sym (front_two s (get_or s 0 0) (get_or s 1 0) (hex_some _ p.0) (hex_some _ p.1) refl refl)) (digits (get_or s 0 0) (get_or s 1 0) (drop 2 s) p.0 p.1))
    (λ t. tt)

abbrev IsEscape : List ℕ → ℕ × ℕ → Type 0
IsEscape s p = Escape p.0 s (drop p.1 s)

byte_is : (s : List ℕ) (o : Option ℕ) → IfSome o (λ (v : ℕ). Pair v s (drop 2 s)) → IfSome {T = ℕ × ℕ} (option_map (λ v. (v, 3)) o) (IsEscape (120 ∷ s))
byte_is s None h = tt
byte_is s (Some v) h = byte v s (drop 2 s) h

abbrev IsUnicode : List ℕ → Option ℕ → Type 0
IsUnicode s o = IfSome o (λ (v : ℕ). Escape v (117 ∷ s) (drop 4 s))

low_is : (s : List ℕ) (a : ℕ) → Pair a s (drop 2 s) → (o : Option ℕ) → IfSome o (λ (b : ℕ). Pair b (drop 2 s) (drop 2 (drop 2 s)))
    → IsUnicode s (option_and_then (λ b. unless_surrogate (256 * a + b)) o)
low_is s a high None h = tt
low_is s a high (Some b) h =
    by_test (IsUnicode s) (is_surrogate (256 * a + b)) _ _ (λ t. tt)
    (λ t. subst (Escape (256 * a + b) (117 ∷ s)) (drop-drop 2 2 s) (unicode a b s (drop 2 s) (drop 2 (drop 2 s)) high h t))

high_is : (s : List ℕ) (o : Option ℕ) → IfSome o (λ (a : ℕ). Pair a s (drop 2 s))
    → IsUnicode s (option_and_then (λ a. option_and_then (λ b. unless_surrogate (256 * a + b)) (pair (drop 2 s))) o)
high_is s None h = tt
high_is s (Some a) h = low_is s a h (pair (drop 2 s)) (pair_is (drop 2 s))

unicode_is : (s : List ℕ) (o : Option ℕ) → IsUnicode s o → IfSome {T = ℕ × ℕ} (option_map (λ v. (v, 5)) o) (IsEscape (117 ∷ s))
unicode_is s None h = tt
unicode_is s (Some v) h = h

quoted_is : (c : ℕ) (s : List ℕ) (o : Option ℕ) → quoted c ≡ o → IfSome {T = ℕ × ℕ} (option_map (λ v. (v, 1)) o) (IsEscape (c ∷ s))
quoted_is c s None e = tt
quoted_is c s (Some v) e = quote c v s e

pub escaped_is : (s : List ℕ) → IfSome {T = ℕ × ℕ} (escaped s) (IsEscape s)
unfolding escaped
escaped_is [] = tt
escaped_is (c ∷ s) =
    by_test (λ (o : Option (ℕ × ℕ)). IfSome o (IsEscape (c ∷ s))) (eqb c 120) _ _
    (λ e. subst (λ (x : ℕ). IfSome {T = ℕ × ℕ} (option_map (λ v. (v, 3)) (pair s)) (IsEscape (x ∷ s))) (sym (eqb-true c 120 e)) (byte_is s (pair s) (pair_is s)))
    (λ e. by_test (λ (o : Option (ℕ × ℕ)). IfSome o (IsEscape (c ∷ s))) (eqb c 117) _ _
    (λ f. subst (λ (x : ℕ). IfSome {T = ℕ × ℕ} (option_map (λ v. (v, 5)) (two_pairs s)) (IsEscape (x ∷ s))) (sym (eqb-true c 117 f)) (unicode_is s (two_pairs s) (high_is s (pair s) (pair_is s))))
    (λ f. quoted_is c s (quoted c) refl))

-- items

abbrev IsItem : List ℕ → ℕ × ℕ → Type 0
IsItem s p = (0 < p.1) × Item p.0 s (drop p.1 s)

escaped_item_is : (s : List ℕ) (o : Option (ℕ × ℕ)) → IfSome o (IsEscape s) → IfSome {T = ℕ × ℕ} (option_map (λ p. (p.0, p.1 + 1)) o) (IsItem (92 ∷ s))
escaped_item_is s None h = tt
escaped_item_is s (Some p) h =
    let m : suc p.1 ≡ p.1 + 1 = omega arith in
    (omega arith, subst (λ (i : ℕ). Item p.0 (92 ∷ s) (drop i (92 ∷ s))) m (escape p.0 s (drop p.1 s) h))

pub item_is : (s : List ℕ) → IfSome {T = ℕ × ℕ} (item s) (IsItem s)
item_is [] = tt
item_is (c ∷ s) =
    by_test (λ (o : Option (ℕ × ℕ)). IfSome o (IsItem (c ∷ s))) (eqb c 92) _ _
    (λ e. subst (λ (x : ℕ). IfSome {T = ℕ × ℕ} (option_map (λ p. (p.0, p.1 + 1)) (escaped s)) (IsItem (x ∷ s))) (sym (eqb-true c 92 e)) (escaped_item_is s (escaped s) (escaped_is s)))
    (λ e. by_test (λ (o : Option (ℕ × ℕ)). IfSome o (IsItem (c ∷ s))) (is_class_char c s) _ _ (λ t. (omega arith, plain c s t)) (λ t. tt))

-- members

abbrev IsMember : List ℕ → ℕ → Type 0
IsMember s k = (0 < k) × Member s (drop k s)

pub leb_le : (m n : ℕ) → nat_le m n ≡ true → m ≤ n
leb_le m n e = grind (arith, nat_tests)

set_some : (c : ℕ) → is_set c ≡ true → c ≢ 0
set_some c t e = let bad : is_set 0 ≡ true = subst (λ (x : ℕ). is_set x ≡ true) e t in absurd (cc)

-- a `-` with the characters behind it
dash_at : (s : List ℕ) (k : ℕ) → makes_range (drop k s) ≡ true → drop k s ≡ 45 ∷ drop (k + 1) s
dash_at s k t =
    let p = both_of _ _ t in
    front (drop k s) 45 (λ z. omega arith) (eqb-true _ 45 p.0) ∙ ap (λ (x : List ℕ). 45 ∷ x) (drop-drop 1 k s)

range_is : (s : List ℕ) (v k : ℕ) → 0 < k → Item v s (45 ∷ drop (k + 1) s) → (o : Option (ℕ × ℕ)) → IfSome o (IsItem (drop (k + 1) s)) → IfSome (range_to v k o) (IsMember s)
range_is s v k some it None h = tt
range_is s v k some it (Some p) h =
    by_test (λ (o : Option ℕ). IfSome o (IsMember s)) (nat_le v p.0) _ _
    (λ e. (omega arith, subst (Member s) (drop-drop p.1 (k + 1) s) (range v p.0 s (drop (k + 1) s) (drop p.1 (drop (k + 1) s)) it h.1 (leb_le v p.0 e))))
    (λ e. tt)

member_from_is : (s : List ℕ) (o : Option (ℕ × ℕ)) → IfSome o (IsItem s) → IfSome (member_from s o) (IsMember s)
member_from_is s None h = tt
member_from_is s (Some p) h =
    by_test (λ (o : Option ℕ). IfSome o (IsMember s)) (makes_range (drop p.1 s)) _ _
    (λ t. range_is s p.0 p.1 h.0 (subst (Item p.0 s) (dash_at s p.1 t) h.1) (item (drop (p.1 + 1) s)) (item_is (drop (p.1 + 1) s)))
    (λ t. (h.0, one p.0 s (drop p.1 s) h.1))

-- names of classes

begins_is : (w s : List ℕ) → begins w s ≡ true → s ≡ w ++ drop (length w) s
begins_is [] s e = refl
begins_is (b ∷ w) [] e = absurd (cc)
begins_is (b ∷ w) (c ∷ s) e =
    let p = both_of (eqb c b) (begins w s) e in
    ap (λ (x : ℕ). x ∷ s) (eqb-true c b p.0) ∙ ap (λ (x : List ℕ). b ∷ x) (begins_is w s p.1)

abbrev IsName : List ℕ → ℕ → Type 0
IsName s k = Name s (drop k s)

name_from : (w s : List ℕ) → begins w s ≡ true → ((t : List ℕ) → Name (w ++ t) t) → IsName s (length w)
name_from w s e make = subst (λ (x : List ℕ). Name x (drop (length w) s)) (sym (begins_is w s e)) (make (drop (length w) s))

one_of_two : (P : Type 0) (a b : Bool) → (a ≡ true → P) → (b ≡ true → P) → a || b ≡ true → P
one_of_two P true b f g e = f refl
one_of_two P false b f g e = g e

five_is : (s : List ℕ) → begins_with_five s ≡ true → IsName s 7
five_is s =
    one_of_two (IsName s 7) _ _ (one_of_two (IsName s 7) _ _ (one_of_two (IsName s 7) _ _ (one_of_two (IsName s 7) _ _ (one_of_two (IsName s 7) _ _ (one_of_two (IsName s 7) _ _ (one_of_two (IsName s 7) _ _
    (λ e. name_from (codes "alnum:]") s e alnum)
    (λ e. name_from (codes "alpha:]") s e alpha))
    (λ e. name_from (codes "cntrl:]") s e cntrl))
    (λ e. name_from (codes "digit:]") s e digit))
    (λ e. name_from (codes "lower:]") s e lower))
    (λ e. name_from (codes "print:]") s e print))
    (λ e. name_from (codes "space:]") s e space))
    (λ e. name_from (codes "upper:]") s e upper)

named_is : (s : List ℕ) → IfSome (named s) (IsName s)
unfolding named
named_is s =
    by_test (λ (o : Option ℕ). IfSome o (IsName s)) (begins_with_five s) _ _ (λ e. five_is s e)
    (λ f. by_test (λ (o : Option ℕ). IfSome o (IsName s)) (begins (codes "xdigit:]") s) _ _ (λ e. name_from (codes "xdigit:]") s e xdigit) (λ e. tt))

name_member : (s : List ℕ) → s ≡ 91 ∷ 58 ∷ drop 2 s → (o : Option ℕ) → IfSome o (IsName (drop 2 s)) → IfSome (plus 2 o) (IsMember s)
name_member s e None h = tt
name_member s e (Some k) h =
    (omega arith, subst (Member s) (drop-drop k 2 s) (subst (λ (x : List ℕ). Member x (drop k (drop 2 s))) (sym e) (grammar.named (drop 2 s) (drop k (drop 2 s)) h)))

pub member_is : (s : List ℕ) → IfSome (member s) (IsMember s)
unfolding member
member_is s =
    by_test (λ (o : Option ℕ). IfSome o (IsMember s)) (begins_set s) _ _
    (λ t. let p = both_of _ _ t in
    (omega arith, subst (λ (x : List ℕ). Member x (drop 2 s)) (sym (front_two s 92 (get_or s 1 0) (λ z. omega arith) (set_some _ p.1) (eqb-true _ 92 p.0) refl)) (grammar.set (get_or s 1 0) (drop 2 s) p.1)))
    (λ f. by_test (λ (o : Option ℕ). IfSome o (IsMember s)) (begins_name s) _ _
    (λ t. let p = both_of _ _ t in
    name_member s (front_two s 91 58 (λ z. omega arith) (λ z. omega arith) (eqb-true _ 91 p.0) (eqb-true _ 58 p.1)) (named (drop 2 s)) (named_is (drop 2 s)))
    (λ g. member_from_is s (item s) (item_is s)))

-- the end of a class

is_dash : (c : ℕ) → may_end c ≡ true → eqb c 93 ≡ false → c ≡ 45
is_dash c t e = grind (arith, nat_tests)

abbrev AreMembers : List ℕ → Option ℕ → Type 0
AreMembers s o = IfSome o (λ (k : ℕ). Members s (drop k s))

ending_is : (c : ℕ) (s : List ℕ) → may_end c ≡ true → AreMembers (c ∷ s) (ending c s)
ending_is c s t =
    by_test (AreMembers (c ∷ s)) (eqb c 93) _ _ (λ e. subst (λ (x : ℕ). Members (x ∷ s) s) (sym (eqb-true c 93 e)) (over s))
    (λ e. by_test (AreMembers (c ∷ s)) (eqb (get_or s 0 0) 93) _ _
    (λ f. subst (λ (x : List ℕ). Members x (drop 1 s))
    (sym (ap (λ (x : ℕ). x ∷ s) (is_dash c t e) ∙ ap (λ (x : List ℕ). 45 ∷ x) (front s 93 (λ z. omega arith) (eqb-true _ 93 f)))) (dash (drop 1 s)))
    (λ f. tt))

behind_is : (c : ℕ) (s : List ℕ) → ((k : ℕ) → AreMembers (drop k s) (members (drop k s))) → (o : Option ℕ) → IfSome o (IsMember (c ∷ s))
    → AreMembers (c ∷ s) (behind_member (λ k. members (drop k s)) o)
behind_is c s ih None h = tt
behind_is c s ih (Some zero) h = absurd (omega (arith, h.0))
behind_is c s ih (Some (suc k)) h =
    let same : suc k - 1 ≡ k = omega arith in
    subst (λ (i : ℕ). AreMembers (c ∷ s) (plus (suc k) (members (drop i s)))) (sym same) (by (members (drop k s)) (ih k))
  where
    by : (o : Option ℕ) → AreMembers (drop k s) o → AreMembers (c ∷ s) (plus (suc k) o)
    by None l = tt
    by (Some j) l = subst (Members (c ∷ s)) (drop-drop j (suc k) (c ∷ s)) (more (c ∷ s) (drop k s) (drop j (drop k s)) h.1 l)

members_turn : (c : ℕ) (s : List ℕ) → ((k : ℕ) → AreMembers (drop k s) (members (drop k s))) → AreMembers (c ∷ s) (members_step (λ k. members (drop k s)) c s)
members_turn c s ih =
    by_test (AreMembers (c ∷ s)) (may_end c) _ _ (λ t. ending_is c s t) (λ t. behind_is c s ih (member (c ∷ s)) (member_is (c ∷ s)))

pub members_are : (s : List ℕ) → AreMembers s (members s)
unfolding members
members_are s = course_induction None members_step AreMembers tt members_turn s 0

-- members that don't begin with the end
no_end : (s t : List ℕ) → Members s t → may_end (get_or s 0 0) ≡ false → Class s t
no_end s t (over s') e = absurd (cc)
no_end s t (dash s') e = absurd (cc)
no_end s t (more s' u t' m ms) e = member_first s u t m ms

abbrev IsClass : List ℕ → Option ℕ → Type 0
IsClass s o = IfSome o (λ (k : ℕ). Class s (drop k s))

first_is : (s : List ℕ) (c : ℕ) → s ≡ c ∷ drop 1 s → ((t : List ℕ) → Members (drop 1 s) t → Class (c ∷ drop 1 s) t) → (o : Option ℕ) → AreMembers (drop 1 s) o → IsClass s (plus 1 o)
first_is s c e make None h = tt
first_is s c e make (Some k) h = subst (Class s) (drop-drop k 1 s) (subst (λ (x : List ℕ). Class x (drop k (drop 1 s))) (sym e) (make (drop k (drop 1 s)) h))

plain_is : (s : List ℕ) → may_end (get_or s 0 0) ≡ false → (o : Option ℕ) → AreMembers s o → IsClass s o
plain_is s e None h = tt
plain_is s e (Some k) h = no_end s (drop k s) h e

plain_class_is : (s : List ℕ) → IsClass s (plain_class s)
plain_class_is s =
    by_test (IsClass s) (may_end (get_or s 0 0)) _ _
    (one_of_two (IsClass s (plus 1 (members (drop 1 s)))) (eqb (get_or s 0 0) 93) (eqb (get_or s 0 0) 45)
    (λ e. first_is s 93 (front s 93 (λ z. omega arith) (eqb-true _ 93 e)) (bracket_first (drop 1 s)) (members (drop 1 s)) (members_are (drop 1 s)))
    (λ e. first_is s 45 (front s 45 (λ z. omega arith) (eqb-true _ 45 e)) (dash_first (drop 1 s)) (members (drop 1 s)) (members_are (drop 1 s))))
    (λ e. plain_is s e (members s) (members_are s))

pub class_is : (s : List ℕ) → IfSome (class s) (λ (k : ℕ). (d : ℕ) → Atom d (91 ∷ s) (drop k s))
unfolding class
class_is s =
    by_test (λ (o : Option ℕ). IfSome o (λ (k : ℕ). (d : ℕ) → Atom d (91 ∷ s) (drop k s))) (eqb (get_or s 0 0) 94) _ _
    (λ e. without (front s 94 (λ z. omega arith) (eqb-true _ 94 e)) (plain_class (drop 1 s)) (plain_class_is (drop 1 s)))
    (λ e. within e (plain_class s) (plain_class_is s))
  where
    without : s ≡ 94 ∷ drop 1 s → (o : Option ℕ) → IsClass (drop 1 s) o → IfSome (plus 1 o) (λ (k : ℕ). (d : ℕ) → Atom d (91 ∷ s) (drop k s))
    without e None l = tt
    without e (Some k) l = λ d. subst (λ (x : List ℕ). Atom d (91 ∷ x) (drop (1 + k) s)) (sym e) (subst (Atom d (91 ∷ 94 ∷ drop 1 s)) (drop-drop k 1 s) (grammar.class_without d (drop 1 s) (drop k (drop 1 s)) l))

    within : eqb (get_or s 0 0) 94 ≡ false → (o : Option ℕ) → IsClass s o → IfSome o (λ (k : ℕ). (d : ℕ) → Atom d (91 ∷ s) (drop k s))
    within e None l = tt
    within e (Some k) l = λ d. grammar.class d s (drop k s) e l
