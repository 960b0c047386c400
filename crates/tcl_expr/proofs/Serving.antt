-- An evaluation's progress, and what it stands for.
use Rattle.std.proofs.Common.{◌≡◌, ℕ, zero, suc, ◌+◌, ◌-◌, ◌<◌, ◌≤◌, true, List, [], ◌∷◌, ◌++◌, map, reverse, length, length-append, drop, get_or, Some, refl, ap, sym, ◌∙◌, append_assoc, arith}
use Rattle.std.specs.List.{list_all}
use Rattle.std.proofs.Math.ListN.{set, get_or-append}
use Rattle.std.proofs.lemmas.List.{drop-append-le, reverse-append, get_or-reverse, length-reverse}
use Rattle.std.proofs.lemmas.Bool.Decides.{nat_tests}
use Rattle.tcl_expr.specs.declared.stack.StackEntry.{StackEntry}
use Rattle.tcl_expr.specs.declared.stack.StackEntry.TheVariants as items
use Rattle.tcl_expr.specs.Tree.{Tree}
use Rattle.tcl_expr.specs.Instr.{Instr, postfix}
use Rattle.tcl_expr.specs.Value.{Valued, valued, failed, asks, ◌>>=◌, eval}
use Rattle.tcl_expr.specs.Run.{exec}
use Rattle.tcl_expr.specs.Stack.{item_text, is_below, first}
use Rattle.tcl_expr.proofs.Execs.{Texts, after, exec-postfix, bind_same}

append_none : (xs : List Instr) → xs ++ [] ≡ xs
append_none [] = refl
append_none (x ∷ xs) = ap (λ l. x ∷ l) (append_none xs)

bind_valued : (r : Valued) → (r >>= valued) ≡ r
bind_valued (valued v vs) = refl
bind_valued (failed e) = refl
bind_valued (asks w) = refl

-- all instructions, from the start
pub exec_all : (t : Tree) (vs : Texts) → exec (postfix t) 0 [] vs ≡ eval t vs
unfolding exec
exec_all t vs =
    ap (λ c. exec c 0 [] vs) (sym (append_none (postfix t)))
    ∙ exec-postfix t [] [] vs
    ∙ bind_same (eval t vs) (after [] []) valued (λ v us. refl)
    ∙ bind_valued (eval t vs)

-- ---- values that wait

pub all_later : (n m : ℕ) → n ≤ m → (xs : List StackEntry) → list_all (is_below n) xs ≡ true → list_all (is_below m) xs ≡ true
all_later n m le [] h = refl
all_later n m le (items.Number z ∷ xs) h = all_later n m le xs h
all_later n m le (items.Word w ∷ xs) h = all_later n m le xs h
all_later n m le (items.Given k ∷ xs) h =
    let here : k < n = grind (arith, nat_tests) in
    let more : list_all (is_below n) xs ≡ true = grind (arith, nat_tests) in
    let r = all_later n m le xs more in
    grind (arith, nat_tests)

-- the next operand is in use
pub taken_below : (n : ℕ) (xs : List StackEntry) → list_all (is_below n) xs ≡ true → list_all (is_below (n + 1)) (items.Given n ∷ xs) ≡ true
taken_below n xs h =
    let r = all_later n (n + 1) (omega arith) xs h in
    grind (arith, nat_tests)

-- the operands in use keep their texts
pub texts_kept : (given : Texts) (v : List ℕ) (xs : List StackEntry) → list_all (is_below (length given)) xs ≡ true → map (item_text (given ++ v ∷ [])) xs ≡ map (item_text given) xs
texts_kept given v [] h = refl
texts_kept given v (items.Number z ∷ xs) h = ap (λ l. item_text given (items.Number z) ∷ l) (texts_kept given v xs h)
texts_kept given v (items.Word w ∷ xs) h = ap (λ l. item_text given (items.Word w) ∷ l) (texts_kept given v xs h)
texts_kept given v (items.Given k ∷ xs) h =
    let here : k < length given = grind (arith, nat_tests) in
    let more : list_all (is_below (length given)) xs ≡ true = grind (arith, nat_tests) in
    ap (λ x. x ∷ map (item_text (given ++ v ∷ [])) xs) (get_or-append given (v ∷ []) [] k here)
    ∙ ap (λ l. item_text given (items.Given k) ∷ l) (texts_kept given v xs more)

-- a further operand was given
pub given_serves : (t : Tree) (given : Texts) (used at : ℕ) (stack : List StackEntry) (v : List ℕ) → used ≤ length given → list_all (is_below used) stack ≡ true
    → ((more : Texts) → exec (drop at (postfix t)) 0 (map (item_text given) stack) (drop used given ++ more) ≡ eval t (given ++ more))
    → (more : Texts) → exec (drop at (postfix t)) 0 (map (item_text (given ++ v ∷ [])) stack) (drop used (given ++ v ∷ []) ++ more) ≡ eval t ((given ++ v ∷ []) ++ more)
given_serves t given used at stack v le below serves more =
    ap (λ st. exec (drop at (postfix t)) 0 st (drop used (given ++ v ∷ []) ++ more)) (texts_kept given v stack (all_later used (length given) le stack below))
    ∙ ap (λ vs. exec (drop at (postfix t)) 0 (map (item_text given) stack) (vs ++ more)) (drop-append-le used given (v ∷ []) le)
    ∙ ap (λ vs. exec (drop at (postfix t)) 0 (map (item_text given) stack) vs) (append_assoc (drop used given) (v ∷ []) more)
    ∙ serves (v ∷ more)
    ∙ ap (eval t) (sym (append_assoc given (v ∷ []) more))

-- ---- the stack

reverse_cons : (x : StackEntry) (xs : List StackEntry) → reverse (x ∷ xs) ≡ reverse xs ++ (x ∷ [])
reverse_cons x xs = reverse-append (x ∷ []) xs

reverse_some : (x : StackEntry) (xs : List StackEntry) → 0 < length (reverse (x ∷ xs))
reverse_some x xs = omega (arith, ap length (reverse_cons x xs), length-append (reverse xs) (x ∷ []))

pub drop_one : (xs ys : List StackEntry) → 0 < length xs → drop 1 (xs ++ ys) ≡ drop 1 xs ++ ys
drop_one [] ys h = absurd (omega arith)
drop_one (x ∷ xs) ys h = refl

pub reverse_set : (xs : List StackEntry) (x : StackEntry) → 0 < length xs → reverse (set xs (length xs - 1) x) ≡ x ∷ drop 1 (reverse xs)
reverse_set [] x h = absurd (omega arith)
reverse_set (y ∷ []) x h = refl
reverse_set (y ∷ (z ∷ xs)) x h =
    let last : suc (length (z ∷ xs)) - 1 ≡ suc (length (z ∷ xs) - 1) = omega arith in
    ap (λ k. reverse (set (y ∷ (z ∷ xs)) k x)) last
    ∙ reverse_cons y (set (z ∷ xs) (length (z ∷ xs) - 1) x)
    ∙ ap (λ l. l ++ (y ∷ [])) (reverse_set (z ∷ xs) x (omega arith))
    ∙ ap (λ l. x ∷ l) (sym (drop_one (reverse (z ∷ xs)) (y ∷ []) (reverse_some z xs)))
    ∙ ap (λ l. x ∷ drop 1 l) (sym (reverse_cons y (z ∷ xs)))

pub first_at : (xs : List StackEntry) (d : StackEntry) → 0 < length xs → first xs ≡ Some (get_or xs 0 d)
first_at [] d h = absurd (omega arith)
first_at (x ∷ xs) d h = refl

pub second_at : (xs : List StackEntry) (d : StackEntry) → 1 < length xs → first (drop 1 xs) ≡ Some (get_or xs 1 d)
second_at [] d h = absurd (omega arith)
second_at (x ∷ []) d h = absurd (omega arith)
second_at (x ∷ (y ∷ xs)) d h = refl

-- the one before the last
pub second_behind : (xs : List StackEntry) (d : StackEntry) → 1 < length xs → Some (get_or xs (length xs - 2) d) ≡ first (drop 1 (reverse xs))
second_behind xs d h =
    let place : length xs - 1 - 1 ≡ length xs - 2 = omega arith in
    ap (λ k. Some (get_or xs k d)) (sym place) ∙ ap Some (sym (get_or-reverse xs 1 d h)) ∙ sym (second_at (reverse xs) d (rw length-reverse h))

-- no operand is given there
pub past_end : (given : Texts) (k : ℕ) → length given ≤ k → get_or given k [] ≡ []
past_end [] k h = refl
past_end (v ∷ given) zero h = absurd (omega arith)
past_end (v ∷ given) (suc k) h = past_end given k (omega arith)
