-- An evaluation reads no more operands than stand in the expression.
use Rattle.std.proofs.Common.{◌≡◌, ℕ, ◌+◌, ◌<◌, ◌≤◌, Bool, true, false, List, [], ◌∷◌, length, Option, Some, None, Result, Ok, Err, ℤ, arith, if◌then◌else◌}
use Rattle.tcl_words.specs.Pieces.{Spelled}
use Rattle.tcl_expr.specs.declared.faults.ExprFault.{ExprFault}
use Rattle.tcl_expr.specs.Truth.{truth_of}
use Rattle.tcl_expr.specs.Tree.{Tree, number, word, operand, unary, binary, lazy, choice}
use Rattle.tcl_expr.specs.Value.{Valued, valued, failed, asks, ◌>>=◌, computed, prefixed, combined, on_truth, on_test, decides, bit, bit_text, second, eval, known, faulty, needs, outcome_of, outcome, operands_in}

abbrev Texts : Type 0
Texts = List (List ℕ)

-- at most n of the operands were used
abbrev Within : ℕ → Texts → Valued → Type 0
Within n vs (valued v us) = length vs ≤ length us + n
Within n vs (failed e) = Unit {0}
Within n vs (asks w) = length vs < n

later : (m n : ℕ) (vs us : Texts) (r : Valued) → length vs ≤ length us + m → Within n us r → Within (m + n) vs r
later m n vs us (valued v ws) h w = omega arith
later m n vs us (failed e) h w = tt
later m n vs us (asks s) h w = omega arith

more : (m n : ℕ) (vs : Texts) (r : Valued) → m ≤ n → Within m vs r → Within n vs r
more m n vs (valued v ws) h w = omega arith
more m n vs (failed e) h w = tt
more m n vs (asks s) h w = omega arith

bound : (m n : ℕ) (vs : Texts) (r : Valued) (f : List ℕ → Texts → Valued) → Within m vs r → ((v : List ℕ) (us : Texts) → Within n us (f v us)) → Within (m + n) vs (r >>= f)
bound m n vs (valued v us) f h g = later m n vs us (f v us) h (g v us)
bound m n vs (failed e) f h g = tt
bound m n vs (asks w) f h g = omega arith

none_used : (vs : Texts) (r : Result ℤ ExprFault) → Within 0 vs (computed vs r)
none_used vs (Ok z) = omega arith
none_used vs (Err e) = tt

tested : (n : ℕ) (vs : Texts) (a : List ℕ) (t : Option Bool) (f : Bool → Valued) → ((b : Bool) → Within n vs (f b)) → Within n vs (on_test a t f)
tested n vs a None f h = tt
tested n vs a (Some b) f h = h b

either : (n : ℕ) (vs : Texts) (b : Bool) (x y : Valued) → Within n vs x → Within n vs y → Within n vs (if b then x else y)
either n vs true x y h k = h
either n vs false x y h k = k

within : (t : Tree) (vs : Texts) → Within (operands_in t) vs (eval t vs)
unfolding eval
within (number z) vs = omega arith
within (word w) vs = omega arith
within (operand w) [] = omega arith
within (operand w) (v ∷ vs) = omega arith
within (unary op t) vs = more (operands_in t + 0) (operands_in t) vs _ (omega arith) (bound (operands_in t) 0 vs (eval t vs) _ (within t vs) (λ a us. none_used us (prefixed op a)))
within (binary op l r) vs = bound (operands_in l) (operands_in r) vs (eval l vs) _ (within l vs) (λ a us.
    more (operands_in r + 0) (operands_in r) us _ (omega arith) (bound (operands_in r) 0 us (eval r us) _ (within r us) (λ b ws. none_used ws (combined op a b))))
within (lazy op l r) vs = bound (operands_in l) (operands_in r) vs (eval l vs) _ (within l vs) (λ a us.
    tested (operands_in r) us a (truth_of a) _ (λ t. either (operands_in r) us (decides op t) (valued (bit_text t) us) (eval r us >>= second) (omega arith)
    (more (operands_in r + 0) (operands_in r) us _ (omega arith) (bound (operands_in r) 0 us (eval r us) second (within r us) (λ b ws. none_used ws (on_truth b (truth_of b) (λ t. Ok (bit t))))))))
within (choice c a b) vs = more (operands_in c + (operands_in a + operands_in b)) (operands_in (choice c a b)) vs _ (omega arith)
    (bound (operands_in c) (operands_in a + operands_in b) vs (eval c vs) _ (within c vs) (λ x us.
    tested (operands_in a + operands_in b) us x (truth_of x) _ (λ t. either (operands_in a + operands_in b) us t (eval a us) (eval b us)
    (more (operands_in a) (operands_in a + operands_in b) us (eval a us) (omega arith) (within a us))
    (more (operands_in b) (operands_in a + operands_in b) us (eval b us) (omega arith) (within b us)))))

asks_of : (n : ℕ) (vs : Texts) (r : Valued) (w : Spelled) → Within n vs r → outcome_of r ≡ needs w → length vs < n
asks_of n vs (valued v us) w h e = absurd (let no : known v ≡ needs w = e in cc)
asks_of n vs (failed f) w h e = absurd (let no : faulty f ≡ needs w = e in cc)
asks_of n vs (asks s) w h e = h

pub bounded : (t : Tree) (vs : Texts) (w : Spelled) → outcome t vs ≡ needs w → length vs < operands_in t
unfolding outcome
bounded t vs w e = asks_of (operands_in t) vs (eval t vs) w (within t vs) e
