-- What an evaluation tells, by the instruction that it has come to.
use Rattle.std.proofs.Common.{◌≡◌, ℕ, zero, suc, ◌+◌, ◌-◌, ◌<◌, ◌≤◌, min, Bool, true, false, List, [], ◌∷◌, ◌++◌, map, length, drop, get_or, Some, None, refl, ap, sym, ◌∙◌, inl, inr, arith}
use Rattle.std.specs.List.{slice_get}
use Rattle.std.proofs.lemmas.List.{drop-drop, drop_all}
use Rattle.std.proofs.lemmas.Bool.Decides.{leb_tells}
use Rattle.tcl_expr.specs.declared.faults.ExprFault.{ExprFault}
use Rattle.tcl_expr.specs.declared.faults.ExprFault.TheVariants.{Syntax, NotNumber, DivideByZero, ZeroToNegative, NegativeShift, Overflow, BadList, TooDeep, Memory}
use Rattle.tcl_expr.specs.declared.code.Op.{Op}
use Rattle.tcl_expr.specs.declared.stack.StackEntry.{StackEntry}
use Rattle.tcl_expr.specs.declared.progress.Operands.{Operands}
use Rattle.tcl_expr.specs.declared.advance.Step.{Step}
use Rattle.tcl_expr.specs.declared.advance.Step.TheVariants.{Value, NeedVar, NeedScript, Fault}
use Rattle.tcl_expr.specs.Tree.{Tree}
use Rattle.tcl_expr.specs.Instr.{Instr, ask, push, push_word, apply, combine, test, truth, branch, skip, join, op_view, postfix}
use Rattle.tcl_expr.specs.Value.{eval, faulty, outcome_of, outcome}
use Rattle.tcl_expr.specs.Run.{On, does, ended, exec, held, left, Serves}
use Rattle.tcl_expr.specs.Stack.{item_text, first}
use Rattle.tcl_expr.specs.Turns.{WentOn, Faults, AsksFor, FailsTurn, IsAsk}
use Rattle.tcl_expr.specs.Numbered.{asked, operand_at}
use Rattle.tcl_expr.specs.Tells.{Needs, AsksOperand, AsksAt, Answers, TellsFault, Tells}
use Rattle.tcl_expr.proofs.Execs.{Texts, exec_skip, exec_one}

append_none : (vs : Texts) → vs ++ [] ≡ vs
append_none [] = refl
append_none (v ∷ vs) = ap (λ l. v ∷ l) (append_none vs)

-- ---- the instruction at a place

op_here : (ops : List Op) (at : ℕ) (d : Op) → at < length ops → drop at (map op_view ops) ≡ op_view (get_or ops at d) ∷ drop (suc at) (map op_view ops)
op_here [] at d h = absurd (omega arith)
op_here (o ∷ ops) zero d h = refl
op_here (o ∷ ops) (suc at) d h = op_here ops at d (omega arith)

op_at : (ops : List Op) (at : ℕ) (d : Op) → at < length ops → slice_get (map op_view ops) at ≡ Some (op_view (get_or ops at d))
op_at [] at d h = absurd (omega arith)
op_at (o ∷ ops) zero d h = refl
op_at (o ∷ ops) (suc at) d h = op_at ops at d (omega arith)

op_past : (ops : List Op) (at : ℕ) → length ops ≤ at → slice_get (map op_view ops) at ≡ None
op_past [] at h = refl
op_past (o ∷ ops) zero h = absurd (omega arith)
op_past (o ∷ ops) (suc at) h = op_past ops at (omega arith)

pub operand_past : (ops : List Op) (t : Tree) (k : ℕ) → map op_view ops ≡ postfix t → length ops ≤ k → operand_at t k ≡ None
unfolding operand_at
operand_past ops t k e h = ap (λ c. asked (slice_get c k)) (sym e) ∙ ap asked (op_past ops k h)

pub operand_here : (ops : List Op) (t : Tree) (k : ℕ) (d : Op) → map op_view ops ≡ postfix t → k < length ops → operand_at t k ≡ asked (Some (op_view (get_or ops k d)))
unfolding operand_at
operand_here ops t k d e h = ap (λ c. asked (slice_get c k)) (sym e) ∙ ap asked (op_at ops k d h)

length_view : (ops : List Op) → length (map op_view ops) ≡ length ops
length_view [] = refl
length_view (o ∷ ops) = ap suc (length_view ops)

-- The instruction i is next.
pub record IsNext (i : Instr) (t : Tree) (at : ℕ) : Type 0 where
  pub code : drop at (postfix t) ≡ i ∷ drop (suc at) (postfix t)
  pub get : slice_get (postfix t) at ≡ Some i

pub is_next : (ops : List Op) (t : Tree) (at : ℕ) (d o : Op) → map op_view ops ≡ postfix t → at < length ops → o ≡ get_or ops at d → IsNext (op_view o) t at
is_next ops t at d o e h is = record {
  code = ap (drop at) (sym e) ∙ op_here ops at d h ∙ ap (λ c. op_view (get_or ops at d) ∷ drop (suc at) c) e ∙ ap (λ x. op_view x ∷ drop (suc at) (postfix t)) (sym is);
  get = ap (λ c. slice_get c at) (sym e) ∙ op_at ops at d h ∙ ap (λ x. Some (op_view x)) (sym is);
}

-- ---- it was done

skipped : (code : List Instr) (at n m : ℕ) → m ≡ min n (length code - at - 1) → drop (at + (1 + m)) code ≡ drop n (drop (suc at) code)
skipped code at n m e =
    elim (leb_tells n (length code - at - 1)) [
      | inl p ↦ (let same : at + (1 + m) ≡ suc at + n = omega (arith, p.1, e) in ap (λ k. drop k code) same ∙ sym (drop-drop n (suc at) code))
      | inr p ↦ drop_all (at + (1 + m)) code (omega (arith, p.1, e)) ∙ sym (drop_all (suc at + n) code (omega (arith, p.1))) ∙ sym (drop-drop n (suc at) code)
    ]

-- what is left to do behind an instruction that was done
pub went_done : (ops : List Op) (t : Tree) (i : Instr) (n m : ℕ) (old new : Operands) → map op_view ops ≡ postfix t → WentOn n i old new → m ≡ min n (length ops - old.at - 1)
    → (more : Texts) → exec (drop (new.at + (1 + m)) (postfix t)) 0 (held new) (left new more) ≡ does i (exec (drop (suc old.at) (postfix t))) (held old) (left old more)
went_done ops t i n m old new e w size more =
    let long : length (postfix t) ≡ length ops = ap length (sym e) ∙ length_view ops in
    let few : m ≡ min n (length (postfix t) - old.at - 1) = rw long size in
    ap (λ a. exec (drop (a + (1 + m)) (postfix t)) 0 (held new) (left new more)) w.at
    ∙ ap (λ c. exec c 0 (held new) (left new more)) (skipped (postfix t) old.at n m few)
    ∙ sym (exec_skip (drop (suc old.at) (postfix t)) n (held new) (left new more))
    ∙ sym (w.goes (exec (drop (suc old.at) (postfix t))) more)

pub went_serves : (ops : List Op) (t : Tree) (i : Instr) (n m : ℕ) (old new : Operands) → map op_view ops ≡ postfix t → IsNext i t old.at → Serves t old → WentOn n i old new
    → m ≡ min n (length ops - old.at - 1)
    → (more : Texts) → exec (drop (new.at + (1 + m)) (postfix t)) 0 (held new) (left new more) ≡ eval t (new.given ++ more)
unfolding Serves
went_serves ops t i n m old new e next serves w size more =
    went_done ops t i n m old new e w size more
    ∙ sym (exec_one i (drop (suc old.at) (postfix t)) (held old) (left old more))
    ∙ ap (λ c. exec c 0 (held old) (left old more)) (sym next.code)
    ∙ serves more
    ∙ ap (λ g. eval t (g ++ more)) (sym w.given)

-- ---- it stopped

eval_is : (t : Tree) (log : Operands) (given : Texts) → Serves t log → log.given ≡ given → eval t given ≡ exec (drop log.at (postfix t)) 0 (held log) (left log [])
unfolding Serves
eval_is t log given serves e = ap (eval t) (sym e ∙ sym (append_none log.given)) ∙ sym (serves [])

next_is : (t : Tree) (i : Instr) (log : Operands) (given : Texts) → IsNext i t log.at → Serves t log → log.given ≡ given
    → eval t given ≡ does i (exec (drop (suc log.at) (postfix t))) (held log) (left log [])
next_is t i log given next serves e =
    eval_is t log given serves e
    ∙ ap (λ c. exec c 0 (held log) (left log [])) next.code
    ∙ exec_one i (drop (suc log.at) (postfix t)) (held log) (left log [])

fault_is : (f : ExprFault) (t : Tree) (i : Instr) (old new : Operands) (given : Texts) → IsNext i t old.at → Serves t old → old.given ≡ given → Faults f i old new → outcome t given ≡ faulty f
unfolding outcome
fault_is f t i old new given next serves e w = ap outcome_of (next_is t i old given next serves e ∙ w.is (exec (drop (suc old.at) (postfix t))) [])

pub fault_tells : (f : ExprFault) (t : Tree) (i : Instr) (old new : Operands) (given : Texts) → IsNext i t old.at → Serves t old → old.given ≡ given → FailsTurn f i old new → TellsFault f t given
fault_tells Syntax t i old new given next serves e w = fault_is Syntax t i old new given next serves e w
fault_tells (NotNumber x) t i old new given next serves e w = fault_is (NotNumber x) t i old new given next serves e w
fault_tells DivideByZero t i old new given next serves e w = fault_is DivideByZero t i old new given next serves e w
fault_tells ZeroToNegative t i old new given next serves e w = fault_is ZeroToNegative t i old new given next serves e w
fault_tells NegativeShift t i old new given next serves e w = fault_is NegativeShift t i old new given next serves e w
fault_tells Overflow t i old new given next serves e w = fault_is Overflow t i old new given next serves e w
fault_tells BadList t i old new given next serves e w = fault_is BadList t i old new given next serves e w
fault_tells TooDeep t i old new given next serves e w = fault_is TooDeep t i old new given next serves e w
fault_tells Memory t i old new given next serves e w = tt

needed : (scripted : Bool) (k at : ℕ) (t : Tree) (i : Instr) (log : Operands) (given : Texts) → IsNext i t log.at → Serves t log → log.given ≡ given → drop log.used log.given ≡ []
    → at ≡ log.at → AsksOperand scripted at k i → Needs scripted k t given
unfolding outcome operand_at
needed scripted k at t i log given next serves e none here a = record {
  word = a.word;
  is =
      let nothing : left log [] ≡ [] = append_none (drop log.used log.given) ∙ none in
      let go : On = exec (drop (suc log.at) (postfix t)) in
      ap outcome_of (next_is t i log given next serves e ∙ ap (λ j. does j go (held log) (left log [])) a.is ∙ ap (does (ask a.word) go (held log)) nothing);
  numbered =
      let place : k ≡ log.at = a.place ∙ here in
      ap (λ p. asked (slice_get (postfix t) p)) place ∙ ap asked (next.get ∙ ap Some a.is);
  begins = a.begins;
}

never : (i : Instr) → IsAsk i → asked (Some i) ≡ None → ⊥
never (ask w) a e = cc
never (push z) a e = a
never (push_word w) a e = a
never (apply op) a e = a
never (combine op) a e = a
never (test op n) a e = a
never (truth op) a e = a
never (branch n) a e = a
never (skip n) a e = a
never join a e = a

pub asks_tell : (step : Step) (t : Tree) (i : Instr) (at : ℕ) (old new : Operands) (given : Texts) → IsNext i t old.at → Serves t old → old.given ≡ given → AsksFor i old new
    → at ≡ old.at → AsksAt step i at → Tells step t given
asks_tell (Value text) t i at old new given next serves e w here a = absurd a
asks_tell (NeedVar k) t i at old new given next serves e w here a = needed false k at t i old given next serves e w.none_left here a
asks_tell (NeedScript k) t i at old new given next serves e w here a = needed true k at t i old given next serves e w.none_left here a
asks_tell (Fault f) t i at old new given next serves e w here a = absurd (never i w.asks a.1)

-- ---- all instructions are done

pub held_first : (given : Texts) (st : List StackEntry) (item : StackEntry) (text : List ℕ) → Some item ≡ first st → text ≡ item_text given item → map (item_text given) st ≡ text ∷ map (item_text given) (drop 1 st)
held_first given [] item text h e = absurd (let no : Some item ≡ None = h in cc)
held_first given (x ∷ st) item text h e =
    let same : item ≡ x = (let is : Some item ≡ Some x = h in cc) in
    ap (λ v. v ∷ map (item_text given) st) (ap (item_text given) (sym same) ∙ sym e)

-- nothing is left to do
pub nothing_left : (ops : List Op) (t : Tree) (at : ℕ) (st vs : Texts) → map op_view ops ≡ postfix t → length ops ≤ at → exec (drop at (postfix t)) 0 st vs ≡ ended st vs
unfolding exec
nothing_left ops t at st vs code h =
    let long : length (postfix t) ≡ length ops = ap length (sym code) ∙ length_view ops in
    ap (λ c. exec c 0 st vs) (drop_all at (postfix t) (omega (arith, long)))

over_is : (ops : List Op) (t : Tree) (log : Operands) (given : Texts) → map op_view ops ≡ postfix t → length ops ≤ log.at → Serves t log → log.given ≡ given
    → eval t given ≡ ended (held log) (left log [])
over_is ops t log given code h serves e = eval_is t log given serves e ∙ nothing_left ops t log.at (held log) (left log []) code h

pub answer_tells : (step : Step) (ops : List Op) (t : Tree) (log : Operands) (given : Texts) → map op_view ops ≡ postfix t → length ops ≤ log.at → Serves t log → log.given ≡ given
    → Answers step (held log) → Tells step t given
unfolding outcome
answer_tells (Value text) ops t log given code h serves e a = ap outcome_of (over_is ops t log given code h serves e ∙ ap (λ st. ended st (left log [])) a.1)
answer_tells (NeedVar k) ops t log given code h serves e a = absurd a
answer_tells (NeedScript k) ops t log given code h serves e a = absurd a
answer_tells (Fault Syntax) ops t log given code h serves e a = ap outcome_of (over_is ops t log given code h serves e ∙ ap (λ st. ended st (left log [])) a.1)
answer_tells (Fault (NotNumber x)) ops t log given code h serves e a = absurd (let no : NotNumber x ≡ Syntax = a.0 in cc)
answer_tells (Fault DivideByZero) ops t log given code h serves e a = absurd (let no : DivideByZero ≡ Syntax = a.0 in cc)
answer_tells (Fault ZeroToNegative) ops t log given code h serves e a = absurd (let no : ZeroToNegative ≡ Syntax = a.0 in cc)
answer_tells (Fault NegativeShift) ops t log given code h serves e a = absurd (let no : NegativeShift ≡ Syntax = a.0 in cc)
answer_tells (Fault Overflow) ops t log given code h serves e a = absurd (let no : Overflow ≡ Syntax = a.0 in cc)
answer_tells (Fault BadList) ops t log given code h serves e a = absurd (let no : BadList ≡ Syntax = a.0 in cc)
answer_tells (Fault TooDeep) ops t log given code h serves e a = absurd (let no : TooDeep ≡ Syntax = a.0 in cc)
answer_tells (Fault Memory) ops t log given code h serves e a = tt
