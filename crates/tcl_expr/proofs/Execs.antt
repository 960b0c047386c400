-- Running a tree's instructions gives the tree's value.
use Rattle.std.proofs.Common.{◌≡◌, ℕ, zero, suc, Bool, true, false, List, [], ◌∷◌, ◌++◌, length, drop, Option, Some, None, Result, Ok, Err, ℤ, refl, ap, sym, ◌∙◌, append_assoc, if◌then◌else◌}
use Rattle.tcl_expr.specs.declared.faults.ExprFault.{ExprFault}
use Rattle.tcl_expr.specs.Truth.{truth_of}
use Rattle.tcl_expr.specs.Tree.{Tree, number, word, operand, unary, binary, lazy, choice}
use Rattle.tcl_expr.specs.Instr.{Instr, apply, combine, test, truth, branch, skip, join, postfix}
use Rattle.tcl_expr.specs.Value.{Valued, valued, failed, asks, ◌>>=◌, computed, prefixed, combined, on_truth, on_test, decides, bit, bit_text, second, eval}
use Rattle.tcl_expr.specs.Run.{put, does, exec}

abbrev pub Texts : Type 0
Texts = List (List ℕ)

-- what a value goes on to
abbrev pub after : List Instr → Texts → List ℕ → Texts → Valued
after rest st v vs = exec rest 0 (v ∷ st) vs

-- skipped instructions
pub exec_skip : (code : List Instr) (k : ℕ) (st vs : Texts) → exec code k st vs ≡ exec (drop k code) 0 st vs
unfolding exec
exec_skip [] zero st vs = refl
exec_skip [] (suc k) st vs = refl
exec_skip (i ∷ code) zero st vs = refl
exec_skip (i ∷ code) (suc k) st vs = exec_skip code k st vs

pub exec_past : (xs rest : List Instr) (st vs : Texts) → exec (xs ++ rest) (length xs) st vs ≡ exec rest 0 st vs
unfolding exec
exec_past [] rest st vs = refl
exec_past (x ∷ xs) rest st vs = exec_past xs rest st vs

-- the same, and one further instruction
pub exec_past_one : (xs : List Instr) (i : Instr) (rest : List Instr) (st vs : Texts) → exec (xs ++ (i ∷ rest)) (suc (length xs)) st vs ≡ exec rest 0 st vs
unfolding exec
exec_past_one [] i rest st vs = refl
exec_past_one (x ∷ xs) i rest st vs = exec_past_one xs i rest st vs

pub exec_one : (i : Instr) (rest : List Instr) (st vs : Texts) → exec (i ∷ rest) 0 st vs ≡ does i (exec rest) st vs
unfolding exec
exec_one i rest st vs = refl

pub bind_assoc : (r : Valued) (f g : List ℕ → Texts → Valued) → ((r >>= f) >>= g) ≡ (r >>= λ v vs. f v vs >>= g)
bind_assoc (valued v vs) f g = refl
bind_assoc (failed e) f g = refl
bind_assoc (asks w) f g = refl

pub bind_same : (r : Valued) (f g : List ℕ → Texts → Valued) → ((v : List ℕ) (vs : Texts) → f v vs ≡ g v vs) → (r >>= f) ≡ (r >>= g)
bind_same (valued v vs) f g e = e v vs
bind_same (failed e) f g s = refl
bind_same (asks w) f g s = refl

pub put_is : (rest : List Instr) (st vs : Texts) (r : Result ℤ ExprFault) → put (exec rest) st vs r ≡ (computed vs r >>= after rest st)
put_is rest st vs (Ok z) = refl
put_is rest st vs (Err e) = refl

-- a test, by what both sides make of its truth value
pub test_is : (a : List ℕ) (t : Option Bool) (f : Bool → Valued) (g : Bool → Valued) (k : List ℕ → Texts → Valued)
    → ((b : Bool) → f b ≡ (g b >>= k)) → on_test a t f ≡ (on_test a t g >>= k)
test_is a None f g k e = refl
test_is a (Some b) f g k e = e b

lazy_goes : (c : Bool) (v : List ℕ) (x : Valued) (y : Valued) (vs : Texts) (k : List ℕ → Texts → Valued) → y ≡ (x >>= k)
    → (if c then k v vs else y) ≡ ((if c then valued v vs else x) >>= k)
lazy_goes true v x y vs k e = refl
lazy_goes false v x y vs k e = e

choice_goes : (c : Bool) (x x' y y' : Valued) (k : List ℕ → Texts → Valued) → x' ≡ (x >>= k) → y' ≡ (y >>= k)
    → (if c then x' else y') ≡ ((if c then x else y) >>= k)
choice_goes true x x' y y' k e f = e
choice_goes false x x' y y' k e f = f

if_same : (c : Bool) (x x' y y' : Valued) → x ≡ x' → y ≡ y' → (if c then x else y) ≡ (if c then x' else y')
if_same true x x' y y' e f = e
if_same false x x' y y' e f = f

whole_code : (c a b : Tree) (rest : List Instr) → postfix (choice c a b) ++ rest
    ≡ postfix c ++ (branch (suc (length (postfix a))) ∷ (postfix a ++ (skip (length (postfix b)) ∷ (postfix b ++ (join ∷ rest)))))
unfolding postfix
whole_code c a b rest =
    append_assoc (postfix c) (branch (suc (length (postfix a))) ∷ (postfix a ++ (skip (length (postfix b)) ∷ (postfix b ++ (join ∷ []))))) rest
    ∙ ap (λ k. postfix c ++ (branch (suc (length (postfix a))) ∷ k))
    (append_assoc (postfix a) (skip (length (postfix b)) ∷ (postfix b ++ (join ∷ []))) rest
    ∙ ap (λ k. postfix a ++ (skip (length (postfix b)) ∷ k)) (append_assoc (postfix b) (join ∷ []) rest))

pub exec-postfix : (t : Tree) (rest : List Instr) (st vs : Texts) → exec (postfix t ++ rest) 0 st vs ≡ (eval t vs >>= after rest st)
unfolding exec postfix eval
exec-postfix (number z) rest st vs = refl
exec-postfix (word w) rest st vs = refl
exec-postfix (operand w) rest st [] = refl
exec-postfix (operand w) rest st (v ∷ vs) = refl
exec-postfix (unary op t) rest st vs =
    ap (λ c. exec c 0 st vs) (append_assoc (postfix t) (apply op ∷ []) rest)
    ∙ exec-postfix t (apply op ∷ rest) st vs
    ∙ bind_same (eval t vs) (after (apply op ∷ rest) st) _ (λ a us. put_is rest st us (prefixed op a))
    ∙ sym (bind_assoc (eval t vs) (λ a us. computed us (prefixed op a)) (after rest st))
exec-postfix (binary op l r) rest st vs =
    ap (λ c. exec c 0 st vs) (append_assoc (postfix l) (postfix r ++ (combine op ∷ [])) rest)
    ∙ exec-postfix l ((postfix r ++ (combine op ∷ [])) ++ rest) st vs
    ∙ bind_same (eval l vs) (after ((postfix r ++ (combine op ∷ [])) ++ rest) st) _ (λ a us.
    ap (λ c. exec c 0 (a ∷ st) us) (append_assoc (postfix r) (combine op ∷ []) rest)
    ∙ exec-postfix r (combine op ∷ rest) (a ∷ st) us
    ∙ bind_same (eval r us) (after (combine op ∷ rest) (a ∷ st)) _ (λ b ws. put_is rest st ws (combined op a b))
    ∙ sym (bind_assoc (eval r us) (λ b ws. computed ws (combined op a b)) (after rest st)))
    ∙ sym (bind_assoc (eval l vs) (λ a us. eval r us >>= λ b ws. computed ws (combined op a b)) (after rest st))
exec-postfix (lazy op l r) rest st vs =
    ap (λ c. exec c 0 st vs) (append_assoc (postfix l) (test op (suc (length (postfix r))) ∷ (postfix r ++ (truth op ∷ []))) rest)
    ∙ exec-postfix l (test op (suc (length (postfix r))) ∷ ((postfix r ++ (truth op ∷ [])) ++ rest)) st vs
    ∙ bind_same (eval l vs) (after (test op (suc (length (postfix r))) ∷ ((postfix r ++ (truth op ∷ [])) ++ rest)) st) _ (λ a us.
    test_is a (truth_of a) _ (λ t. if decides op t then valued (bit_text t) us else (eval r us >>= second)) (after rest st) (λ t.
    if_same (decides op t) _ (after rest st (bit_text t) us) _ (exec (postfix r ++ (truth op ∷ rest)) 0 st us)
    (ap (λ c. exec c (suc (length (postfix r))) (bit_text t ∷ st) us) (append_assoc (postfix r) (truth op ∷ []) rest)
    ∙ exec_past_one (postfix r) (truth op) rest (bit_text t ∷ st) us)
    (ap (λ c. exec c 0 st us) (append_assoc (postfix r) (truth op ∷ []) rest))
    ∙ lazy_goes (decides op t) (bit_text t) (eval r us >>= second) (exec (postfix r ++ (truth op ∷ rest)) 0 st us) us (after rest st)
    (exec-postfix r (truth op ∷ rest) st us
    ∙ bind_same (eval r us) (after (truth op ∷ rest) st) _ (λ b ws. put_is rest st ws (on_truth b (truth_of b) (λ t. Ok (bit t))))
    ∙ sym (bind_assoc (eval r us) second (after rest st)))))
    ∙ sym (bind_assoc (eval l vs) (λ a us. on_test a (truth_of a) (λ t. if decides op t then valued (bit_text t) us else (eval r us >>= second))) (after rest st))
exec-postfix (choice c a b) rest st vs =
    let tail : List Instr = postfix b ++ (join ∷ rest) in
    let middle : List Instr = postfix a ++ (skip (length (postfix b)) ∷ tail) in
    ap (λ k. exec k 0 st vs) (whole_code c a b rest)
    ∙ exec-postfix c (branch (suc (length (postfix a))) ∷ middle) st vs
    ∙ bind_same (eval c vs) (after (branch (suc (length (postfix a))) ∷ middle) st) _ (λ x us.
    test_is x (truth_of x) _ (λ t. if t then eval a us else eval b us) (after rest st) (λ t.
    choice_goes t (eval a us) (exec middle 0 st us) (eval b us) (exec middle (suc (length (postfix a))) st us) (after rest st)
    (exec-postfix a (skip (length (postfix b)) ∷ tail) st us
    ∙ bind_same (eval a us) (after (skip (length (postfix b)) ∷ tail) st) _ (λ v ws. exec_past (postfix b) (join ∷ rest) (v ∷ st) ws))
    (exec_past_one (postfix a) (skip (length (postfix b))) tail st us
    ∙ exec-postfix b (join ∷ rest) st us)))
    ∙ sym (bind_assoc (eval c vs) (λ x us. on_test x (truth_of x) (λ t. if t then eval a us else eval b us)) (after rest st))
