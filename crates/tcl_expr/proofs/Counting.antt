-- An evaluation over operands that are numbers, each of which is told where it is needed.
use Rattle.std.proofs.Common.{◌≡◌, ℕ, zero, suc, ◌+◌, ◌-◌, ◌≤◌, min, List, [], ◌∷◌, ◌++◌, map, length, drop, Option, Some, None, IfSome, ℤ, refl, ap, sym, ◌∙◌, append_assoc}
use Rattle.tcl_words.specs.Pieces.{Spelled}
use Rattle.tcl_expr.specs.declared.code.Op.{Op}
use Rattle.tcl_expr.specs.declared.stack.StackEntry.TheVariants as items
use Rattle.tcl_expr.specs.declared.progress.Operands.{Operands}
use Rattle.tcl_expr.specs.Number.{number_text}
use Rattle.tcl_expr.specs.Tree.{Tree}
use Rattle.tcl_expr.specs.Instr.{Instr, push, push_word, ask, apply, combine, test, truth, branch, skip, join, op_view, postfix}
use Rattle.tcl_expr.specs.Value.{eval, outcome_of, outcome, needs}
use Rattle.tcl_expr.specs.Run.{does, ended, exec, held, left}
use Rattle.tcl_expr.specs.Stack.{first}
use Rattle.tcl_expr.specs.Turns.{WentOn}
use Rattle.tcl_expr.specs.Answers.{Answered, nothing, one_more, Comes, StandsFor, Counts}
use Rattle.tcl_expr.proofs.Execs.{Texts, exec_one}
use Rattle.tcl_expr.proofs.Advancing.{IsNext, went_done, nothing_left, held_first}

append_none : (vs : Texts) → vs ++ [] ≡ vs
append_none [] = refl
append_none (v ∷ vs) = ap (λ l. v ∷ l) (append_none vs)

-- What is left to do comes to what the tree comes to with the numbers that were told, and further operands. None was given as a text.
pub record Counted (tells : Spelled → ℤ → Type 0) (t : Tree) (log : Operands) : Type 0 where
  pub given : Texts
  pub answered : Answered tells t given
  pub serves : (more : Texts) → exec (drop log.at (postfix t)) 0 (held log) more ≡ eval t (given ++ more)
  pub fresh : log.given ≡ []

none_left : (used : ℕ) (more : Texts) → drop used [] ++ more ≡ more
none_left zero more = refl
none_left (suc n) more = refl

nothing_given : (given : Texts) (used : ℕ) (more : Texts) → given ≡ [] → drop used given ++ more ≡ more
nothing_given given used more e = ap (λ g. drop used g ++ more) e ∙ none_left used more

-- what is left of an expression behind an instruction that was done
behind : (ops : List Op) (t : Tree) (j : Instr) (n m : ℕ) (old new log : Operands) → map op_view ops ≡ postfix t → WentOn n j old new → m ≡ min n (length ops - old.at - 1)
    → log.at ≡ new.at + (1 + m) → held log ≡ held new → old.given ≡ []
    → (more : Texts) → exec (drop log.at (postfix t)) 0 (held log) more ≡ does j (exec (drop (suc old.at) (postfix t))) (held old) more
behind ops t j n m old new log code w size place same fresh more =
    ap (λ a. exec (drop a (postfix t)) 0 (held log) more) place
    ∙ ap (λ st. exec (drop (new.at + (1 + m)) (postfix t)) 0 st more) same
    ∙ ap (exec (drop (new.at + (1 + m)) (postfix t)) 0 (held new)) (sym (nothing_given new.given new.used more (w.given ∙ fresh)))
    ∙ went_done ops t j n m old new code w size more
    ∙ ap (does j (exec (drop (suc old.at) (postfix t))) (held old)) (nothing_given old.given old.used more fresh)

next_done : (t : Tree) (i : Instr) (log : Operands) → IsNext i t log.at → (vs : Texts) → exec (drop log.at (postfix t)) 0 (held log) vs ≡ does i (exec (drop (suc log.at) (postfix t))) (held log) vs
next_done t i log next vs = ap (λ k. exec k 0 (held log) vs) next.code ∙ exec_one i (drop (suc log.at) (postfix t)) (held log) vs

module _ {tells : Spelled → ℤ → Type 0} (ops : List Op) (t : Tree) (n m : ℕ) (old new log : Operands) (code : map op_view ops ≡ postfix t) (size : m ≡ min n (length ops - old.at - 1))
    (place : log.at ≡ new.at + (1 + m)) (same : held log ≡ held new) (given : log.given ≡ new.given) (c : Counted tells t old) where
  -- an instruction that asks for nothing
  plain_counted : (i j : Instr) → IsNext i t old.at → j ≡ i → WentOn n j old new → Counted tells t log
  plain_counted i j next e w = record {
    given = c.given;
    answered = c.answered;
    serves = λ more.
        behind ops t j n m old new log code w size place same c.fresh more
        ∙ ap (λ j. does j (exec (drop (suc old.at) (postfix t))) (held old) more) e
        ∙ sym (next_done t i old next more)
        ∙ c.serves more;
    fresh = given ∙ w.given ∙ c.fresh;
  }

  -- an operand, whose number is put on the stack
  needed : (w : Spelled) → IsNext (ask w) t old.at → outcome t c.given ≡ needs w
  unfolding outcome
  needed w next = ap outcome_of (ap (eval t) (sym (append_none c.given)) ∙ sym (c.serves []) ∙ next_done t (ask w) old next [])

  operand_counted : (w : Spelled) (j : Instr) (z : ℤ) → IsNext (ask w) t old.at → tells w z → j ≡ push z → WentOn n j old new → Counted tells t log
  operand_counted w j z next told e went = record {
    given = c.given ++ number_text z ∷ [];
    answered = one_more c.given w z c.answered (needed w next) told;
    serves = λ more.
        behind ops t j n m old new log code went size place same c.fresh more
        ∙ ap (λ j. does j (exec (drop (suc old.at) (postfix t))) (held old) more) e
        ∙ sym (next_done t (ask w) old next (number_text z ∷ more))
        ∙ c.serves (number_text z ∷ more)
        ∙ ap (eval t) (sym (append_assoc c.given (number_text z ∷ []) more));
    fresh = given ∙ went.given ∙ c.fresh;
  }

  counted_by : (i : Instr) → IsNext i t old.at → (j : Instr) → StandsFor tells i j → WentOn n j old new → Counted tells t log
  counted_by (ask w) next j s went = operand_counted w j s.0 next s.1 s.2 went
  counted_by (push z) next j s went = plain_counted (push z) j next s went
  counted_by (push_word w) next j s went = plain_counted (push_word w) j next s went
  counted_by (apply op) next j s went = plain_counted (apply op) j next s went
  counted_by (combine op) next j s went = plain_counted (combine op) j next s went
  counted_by (test op k) next j s went = plain_counted (test op k) j next s went
  counted_by (truth op) next j s went = plain_counted (truth op) j next s went
  counted_by (branch k) next j s went = plain_counted (branch k) j next s went
  counted_by (skip k) next j s went = plain_counted (skip k) j next s went
  counted_by join next j s went = plain_counted join j next s went

  pub counted_on : (i : Instr) → IsNext i t old.at → Counts tells n i old new → Counted tells t log
  counted_on i next w = counted_by i next w.done w.stands w.went

-- nothing was done yet
pub counted_none : {tells : Spelled → ℤ → Type 0} (t : Tree) (log : Operands) → ((more : Texts) → exec (drop log.at (postfix t)) 0 (held log) (left log more) ≡ eval t (log.given ++ more)) → log.given ≡ [] → Counted tells t log
counted_none t log serves fresh = record {
  given = [];
  answered = nothing;
  serves = λ more. ap (exec (drop log.at (postfix t)) 0 (held log)) (sym (nothing_given log.given log.used more fresh)) ∙ serves more ∙ ap (λ g. eval t (g ++ more)) fresh;
  fresh = fresh;
}

-- all instructions are done, and a number is on top
counted_comes : {tells : Spelled → ℤ → Type 0} (ops : List Op) (t : Tree) (log : Operands) (z : ℤ) → map op_view ops ≡ postfix t → length ops ≤ log.at → Some (items.Number z) ≡ first log.stack → Counted tells t log → Comes tells t z
unfolding outcome
counted_comes ops t log z code h top c = record {
  given = c.given;
  answered = c.answered;
  is =
      ap outcome_of
      (ap (eval t) (sym (append_none c.given)) ∙ sym (c.serves [])
      ∙ nothing_left ops t log.at (held log) [] code h
      ∙ ap (λ st. ended st []) (held_first log.given log.stack (items.Number z) (number_text z) top refl));
}

-- the number that is on top, where one is
pub number_comes : {tells : Spelled → ℤ → Type 0} (ops : List Op) (t : Tree) (log : Operands) (o : Option ℤ) → map op_view ops ≡ postfix t → length ops ≤ log.at → IfSome o (λ z. first log.stack ≡ Some (items.Number z)) → Counted tells t log → IfSome o (Comes tells t)
number_comes ops t log None code h top c = tt
number_comes ops t log (Some z) code h top c = counted_comes ops t log z code h (sym top) c
