-- What readings leave, over plain lists of instructions.
use Rattle.std.proofs.Common.{◌≡◌, ℕ, zero, suc, ◌+◌, ◌-◌, ◌<◌, ◌≤◌, Bool, true, false, eqb, List, [], ◌∷◌, ◌++◌, length, drop, get_or, take, Option, Some, None, Result, Ok, Err, refl, ap, sym, ◌∙◌, append_assoc, replicate, arith, length-append, length-drop, ◌==◌}
use Rattle.std.proofs.Math.ListN.{set}
use Rattle.std.proofs.Math.Seq.{set-append_seam}
use Rattle.std.proofs.lemmas.List.{take_all, append-nil}
use Rattle.std.proofs.lemmas.Bool.{eqb-true}
use Rattle.tcl_words.proofs.Readings.{reading_here, reading_over}
use Rattle.tcl_expr.specs.declared.faults.ExprFault.{ExprFault}
use Rattle.tcl_expr.specs.declared.faults.ExprFault.TheVariants.{Syntax, NotNumber, DivideByZero, ZeroToNegative, NegativeShift, Overflow, BadList, TooDeep, Memory}
use Rattle.tcl_expr.specs.declared.operators.Infix.{Infix}
use Rattle.tcl_expr.specs.declared.operators.Infix.TheVariants as between
use Rattle.tcl_expr.specs.declared.operators.Arithmetic.{Arithmetic}
use Rattle.tcl_expr.specs.declared.operators.Arithmetic.TheVariants.{Power, Multiply, Divide, Remainder, Add, Subtract, ShiftLeft, ShiftRight, BitAnd, BitXor, BitOr}
use Rattle.tcl_expr.specs.declared.operators.Comparison.{Comparison}
use Rattle.tcl_expr.specs.declared.operators.Comparison.TheVariants.{Less, Greater, AtMost, AtLeast, Equal, Unequal}
use Rattle.tcl_expr.specs.declared.operators.Eager.{Eager}
use Rattle.tcl_expr.specs.declared.operators.Eager.TheVariants as eager
use Rattle.tcl_expr.specs.declared.operators.Lazy.{Lazy}
use Rattle.tcl_expr.specs.declared.operators.Lazy.TheVariants.{And, Or}
use Rattle.tcl_expr.specs.declared.operators.Prefix.{Prefix}
use Rattle.tcl_expr.specs.White.{gap}
use Rattle.tcl_expr.specs.Infix.{infix_at, level_of, of_level, arithmetic_level, comparison_level}
use Rattle.tcl_expr.specs.Tree.{Tree, number, unary, binary, choice, joined}
use Rattle.tcl_expr.specs.Instr.{Instr, push, apply, combine, test, truth, branch, skip, join, postfix, tree_of}
use Rattle.tcl_expr.specs.Built.{tree_of-postfix}
use Rattle.tcl_expr.specs.Leaf.{Read, is_lowest, lowest, digits_len}
use Rattle.tcl_expr.specs.Rules.{deepest}
use Rattle.tcl_expr.specs.Grammar.{Inside, behind, to_left, to_right, chain, chain_step, chained, level, colon, question, term, whole, inside_of, to_the_end, parsed}
use Rattle.tcl_expr.specs.Reads.{Fails, Wrote, Writes, WroteRight, WroteOperands, WroteBranches, WritesBranches, FailsBranches}
use Rattle.tcl_words.specs.Lists.{begins_with}

-- a fault passes on through whatever passes on each fault
pub fails_on : {A B : Type 0} (f : ExprFault) (r : Result A ExprFault) (g : Result A ExprFault → Result B ExprFault) → ((e : ExprFault) → g (Err e) ≡ Err e) → Fails f r → Fails f (g r)
fails_on Syntax r g on h = ap g h ∙ on Syntax
fails_on (NotNumber t) r g on h = ap g h ∙ on (NotNumber t)
fails_on DivideByZero r g on h = ap g h ∙ on DivideByZero
fails_on ZeroToNegative r g on h = ap g h ∙ on ZeroToNegative
fails_on NegativeShift r g on h = ap g h ∙ on NegativeShift
fails_on Overflow r g on h = ap g h ∙ on Overflow
fails_on BadList r g on h = ap g h ∙ on BadList
fails_on TooDeep r g on h = ap g h ∙ on TooDeep
fails_on Memory r g on h = tt

pub fails_by : {A : Type 0} (f : ExprFault) (r s : Result A ExprFault) → r ≡ s → Fails f r → Fails f s
fails_by Syntax r s e h = sym e ∙ h
fails_by (NotNumber t) r s e h = sym e ∙ h
fails_by DivideByZero r s e h = sym e ∙ h
fails_by ZeroToNegative r s e h = sym e ∙ h
fails_by NegativeShift r s e h = sym e ∙ h
fails_by Overflow r s e h = sym e ∙ h
fails_by BadList r s e h = sym e ∙ h
fails_by TooDeep r s e h = sym e ∙ h
fails_by Memory r s e h = tt

-- ---- chains

-- an operator of a level
pub record OfLevel (k : ℕ) (o : Option (Infix × ℕ)) (op : Infix) (n : ℕ) : Type 0 where
  pub is : o ≡ Some (op, n)
  pub same : level_of op ≡ k

pub of_level_is : (k : ℕ) (o : Option (Infix × ℕ)) (op : Infix) (n : ℕ) → of_level k o ≡ Some (op, n) → OfLevel k o op n
of_level_is k None op n e = absurd (cc)
of_level_is k (Some (op', n')) op n e = by (eqb (level_of op') k) refl
  where
    by : (t : Bool) → eqb (level_of op') k ≡ t → OfLevel k (Some (op', n')) op n
    by true t =
        let here : of_level k (Some (op', n')) ≡ Some (op', n') = rw t refl in
        let both : ◌≡◌ {A = Option (Infix × ℕ)} (Some (op', n')) (Some (op, n)) = sym here ∙ e in
        let pair : ◌≡◌ {A = Infix × ℕ} (op', n') (op, n) = cc in
        record { is = both; same = ap (λ (p : Infix × ℕ). level_of p.0) (sym pair) ∙ eqb-true (level_of op') k t }
    by false t = let none : of_level k (Some (op', n')) ≡ None = rw t refl in absurd (cc)

abbrev same : Tree → Tree
same t = t

pub behind_behind : (m n : ℕ) (r : Read) → behind m (λ t. t) (behind n (λ t. t) r) ≡ behind (m + n) (λ t. t) r
behind_behind m n (Ok p) = ap (λ k. Ok (p.0, k)) (omega arith)
behind_behind m n (Err e) = refl

pub behind_two : (m n : ℕ) (f g : Tree → Tree) (r : Read) → behind m f (behind n g r) ≡ behind (m + n) (λ t. f (g t)) r
behind_two m n f g (Ok p) = ap (λ (k : ℕ). Ok (f (g p.0), k)) (omega arith)
behind_two m n f g (Err e) = refl

module _ (grouped : (ℕ → Tree → Read) → Infix → ℕ → Tree → Read → Read) (next : List ℕ → Read) (k : ℕ) (text : List ℕ) (at : ℕ) (l : Tree) where
  chain_here : at < length text → chain grouped next k (drop at text) l ≡ chain_step grouped next k (λ j. chain grouped next k (drop (at + 1 + j) text)) (get_or text at 0) (drop (at + 1) text) l
  unfolding chain
  chain_here h = ap (λ (f : Tree → Read). f l) (reading_here (λ (l : Tree). Ok (l, 0)) (chain_step grouped next k) text at h)

  chain_over : length text ≤ at → chain grouped next k (drop at text) l ≡ Ok (l, 0)
  unfolding chain
  chain_over h = ap (λ (f : Tree → Read). f l) (reading_over (λ (l : Tree). Ok (l, 0)) (chain_step grouped next k) text at h)

  chain_none : at < length text → of_level k (infix_at (get_or text at 0) (drop (at + 1) text)) ≡ None → chain grouped next k (drop at text) l ≡ Ok (l, 0)
  chain_none h i = chain_here h ∙ rw i refl

  link_is : at < length text → (op : Infix) (n : ℕ) → of_level k (infix_at (get_or text at 0) (drop (at + 1) text)) ≡ Some (op, n)
      → chain grouped next k (drop at text) l ≡ grouped (λ j. chain grouped next k (drop (at + 1 + j) text)) op (gap (drop (at + 1) text) n) l (next (drop (gap (drop (at + 1) text) n) (drop (at + 1) text)))
  link_is h op n i = chain_here h ∙ rw i refl

level_first : (inside : Inside) (k : ℕ) (text : List ℕ) → 1 < k → level inside k text ≡ chained to_left (level inside (k - 1)) k text (level inside (k - 1) text)
unfolding level
level_first inside zero text h = absurd (omega arith)
level_first inside (suc zero) text h = absurd (omega arith)
level_first inside (suc (suc k)) text h = let e : suc (suc k) - 1 ≡ suc k = omega arith in rw e refl

-- The chain of a level was read up to a place, and the instructions of the tree so far were put behind the old ones.
pub record LevelTo (next : List ℕ → Read) (k : ℕ) (text : List ℕ) (at : ℕ) (read : Read) (old now : List Instr) : Type 0 where
  pub tree : Tree
  pub is : behind at (λ t. t) (chain to_left next k (drop at text) tree) ≡ read
  pub code : now ≡ old ++ postfix tree

pub level_init : (inside : Inside) (k : ℕ) (text : List ℕ) (n : ℕ) (old now : List Instr) → 1 < k → Wrote n (level inside (k - 1) text) old now
    → LevelTo (level inside (k - 1)) k text n (level inside k text) old now
level_init inside k text n old now h w = record {
  tree = w.tree;
  is = sym (level_first inside k text h ∙ ap (chained to_left (level inside (k - 1)) k text) w.is);
  code = w.code;
}

pub level_fails : (inside : Inside) (k : ℕ) (text : List ℕ) (f : ExprFault) → 1 < k → Fails f (level inside (k - 1) text) → Fails f (level inside k text)
level_fails inside k text f h e =
    fails_by f _ _ (sym (level_first inside k text h)) (fails_on f (level inside (k - 1) text) (chained to_left (level inside (k - 1)) k text) (λ e. refl) e)

ends : {next : List ℕ → Read} {k : ℕ} {text : List ℕ} {at : ℕ} {read : Read} {old now : List Instr} (inv : LevelTo next k text at read old now)
    → chain to_left next k (drop at text) inv.tree ≡ Ok (inv.tree, 0) → Wrote at read old now
ends {at = at} inv e = record {
  tree = inv.tree;
  is = sym inv.is ∙ ap (behind at (λ t. t)) e ∙ ap (λ n. Ok (inv.tree, n)) (omega arith);
  code = inv.code;
}

pub level_end : (next : List ℕ → Read) (k : ℕ) (text : List ℕ) (at : ℕ) (read : Read) (old now : List Instr) → LevelTo next k text at read old now
    → length text ≤ at → Wrote at read old now
level_end next k text at read old now inv h = ends inv (chain_over to_left next k text at inv.tree h)

pub level_none : (next : List ℕ → Read) (k : ℕ) (text : List ℕ) (at : ℕ) (read : Read) (old now : List Instr) → LevelTo next k text at read old now
    → at < length text → of_level k (infix_at (get_or text at 0) (drop (at + 1) text)) ≡ None → Wrote at read old now
level_none next k text at read old now inv h i = ends inv (chain_none to_left next k text at inv.tree h i)

pub level_link : (next : List ℕ → Read) (k : ℕ) (text : List ℕ) (at : ℕ) (read : Read) (old now : List Instr) → LevelTo next k text at read old now
    → at < length text → (op : Infix) (n : ℕ) → of_level k (infix_at (get_or text at 0) (drop (at + 1) text)) ≡ Some (op, n)
    → (g m : ℕ) (new : List Instr) → g ≡ gap (drop (at + 1) text) n → WroteRight op m (next (drop g (drop (at + 1) text))) now new
    → LevelTo next k text (at + (1 + g + m)) read old new
level_link next k text at read old now inv h op n i g m new ge w = record {
  tree = joined op inv.tree w.tree;
  is =
      let right : next (drop (gap (drop (at + 1) text) n) (drop (at + 1) text)) ≡ Ok (w.tree, m) = rw (← ge) w.is in
      let place : at + (1 + g + m) ≡ at + 1 + (g + m) = omega arith in
      let step : chain to_left next k (drop at text) inv.tree ≡ behind (1 + g + m) (λ t. t) (chain to_left next k (drop (at + 1 + (g + m)) text) (joined op inv.tree w.tree)) =
      link_is to_left next k text at inv.tree h op n i ∙ rw (right, ← ge) refl in
      ap (λ p. behind (at + (1 + g + m)) (λ t. t) (chain to_left next k (drop p text) (joined op inv.tree w.tree))) place
      ∙ sym (behind_behind at (1 + g + m) (chain to_left next k (drop (at + 1 + (g + m)) text) (joined op inv.tree w.tree)))
      ∙ ap (behind at (λ t. t)) (sym step)
      ∙ inv.is;
  code = w.code old inv.tree inv.code;
}

pub link_fails : (next : List ℕ → Read) (k : ℕ) (text : List ℕ) (at : ℕ) (read : Read) (old now : List Instr) → LevelTo next k text at read old now
    → at < length text → (op : Infix) (n : ℕ) → of_level k (infix_at (get_or text at 0) (drop (at + 1) text)) ≡ Some (op, n)
    → (g : ℕ) (f : ExprFault) → g ≡ gap (drop (at + 1) text) n → Fails f (next (drop g (drop (at + 1) text))) → Fails f read
link_fails next k text at read old now inv h op n i g f ge e =
    fails_by f _ _ (ap (behind at (λ t. t)) (sym (link_is to_left next k text at inv.tree h op n i)) ∙ inv.is)
    (fails_on f (next (drop (gap (drop (at + 1) text) n) (drop (at + 1) text)))
    (λ r. behind at (λ t. t) (to_left (λ j. chain to_left next k (drop (at + 1 + j) text)) op (gap (drop (at + 1) text) n) inv.tree r)) (λ e. refl)
    (rw (← ge) e))

-- ---- chains of `**`

abbrev times : Instr
times = combine (eager.Arithmetic Power)

-- The chain was read up to a place. The last operand's instructions are behind those of the others, and that many
-- operators are owed.
pub record PowersTo (next : List ℕ → Read) (text : List ℕ) (at count : ℕ) (read : Read) (old now : List Instr) : Type 0 where
  pub with_last : Tree → Tree
  pub last : Tree
  pub before : List Instr
  pub is : behind at with_last (chain to_right next 1 (drop at text) last) ≡ read
  pub now_is : now ≡ before ++ postfix last
  pub code : (t : Tree) → before ++ (postfix t ++ replicate count times) ≡ old ++ postfix (with_last t)

pub powers_init : (inside : Inside) (text : List ℕ) (n : ℕ) (old now : List Instr) → Wrote n (term inside text) old now → PowersTo (term inside) text n 0 (level inside 1 text) old now
unfolding level
powers_init inside text n old now w = record {
  with_last = same;
  last = w.tree;
  before = old;
  is = sym (ap (chained to_right (term inside) 1 text) w.is);
  now_is = w.code;
  code = λ t. ap (λ c. old ++ c) (append-nil (postfix t));
}

pub powers_fail : (inside : Inside) (text : List ℕ) (f : ExprFault) → Fails f (term inside text) → Fails f (level inside 1 text)
unfolding level
powers_fail inside text f e = fails_on f (term inside text) (chained to_right (term inside) 1 text) (λ e. refl) e

powers_end : {next : List ℕ → Read} {text : List ℕ} {at count : ℕ} {read : Read} {old now : List Instr} (inv : PowersTo next text at count read old now)
    → chain to_right next 1 (drop at text) inv.last ≡ Ok (inv.last, 0) → WroteOperands count at read old now
powers_end {at = at} {count = count} inv e = record {
  tree = inv.with_last inv.last;
  is = sym inv.is ∙ ap (behind at inv.with_last) e ∙ ap (λ (n : ℕ). Ok (inv.with_last inv.last, n)) (omega arith);
  code = ap (λ c. c ++ replicate count times) inv.now_is ∙ append_assoc inv.before (postfix inv.last) (replicate count times) ∙ inv.code inv.last;
}

pub powers_over : (next : List ℕ → Read) (text : List ℕ) (at count : ℕ) (read : Read) (old now : List Instr) → PowersTo next text at count read old now
    → length text ≤ at → WroteOperands count at read old now
powers_over next text at count read old now inv h = powers_end inv (chain_over to_right next 1 text at inv.last h)

pub powers_none : (next : List ℕ → Read) (text : List ℕ) (at count : ℕ) (read : Read) (old now : List Instr) → PowersTo next text at count read old now
    → at < length text → of_level 1 (infix_at (get_or text at 0) (drop (at + 1) text)) ≡ None → WroteOperands count at read old now
powers_none next text at count read old now inv h i = powers_end inv (chain_none to_right next 1 text at inv.last h i)

arithmetic_power : (op : Arithmetic) → arithmetic_level op ≡ 1 → op ≡ Power
arithmetic_power Power e = refl
arithmetic_power Multiply e = absurd (omega arith)
arithmetic_power Divide e = absurd (omega arith)
arithmetic_power Remainder e = absurd (omega arith)
arithmetic_power Add e = absurd (omega arith)
arithmetic_power Subtract e = absurd (omega arith)
arithmetic_power ShiftLeft e = absurd (omega arith)
arithmetic_power ShiftRight e = absurd (omega arith)
arithmetic_power BitAnd e = absurd (omega arith)
arithmetic_power BitXor e = absurd (omega arith)
arithmetic_power BitOr e = absurd (omega arith)

comparison_none : (op : Comparison) → comparison_level op ≡ 1 → ⊥
comparison_none Less e = omega arith
comparison_none Greater e = omega arith
comparison_none AtMost e = omega arith
comparison_none AtLeast e = omega arith
comparison_none Equal e = omega arith
comparison_none Unequal e = omega arith

-- `**` is the only operator of level 1
only_power : (op : Infix) → level_of op ≡ 1 → (l r : Tree) → joined op l r ≡ binary (eager.Arithmetic Power) l r
only_power (between.Eager (eager.Arithmetic op)) e l r = ap (λ (o : Arithmetic). binary (eager.Arithmetic o) l r) (arithmetic_power op e)
only_power (between.Eager (eager.Comparison op)) e l r = absurd (comparison_none op e)
only_power (between.Eager eager.Same) e l r = absurd (omega arith)
only_power (between.Eager eager.Differs) e l r = absurd (omega arith)
only_power (between.Eager eager.In) e l r = absurd (omega arith)
only_power (between.Eager eager.NotIn) e l r = absurd (omega arith)
only_power (between.Lazy And) e l r = absurd (omega arith)
only_power (between.Lazy Or) e l r = absurd (omega arith)

pub powers_link : (next : List ℕ → Read) (text : List ℕ) (at count : ℕ) (read : Read) (old now : List Instr) → PowersTo next text at count read old now
    → at < length text → (op : Infix) (n : ℕ) → of_level 1 (infix_at (get_or text at 0) (drop (at + 1) text)) ≡ Some (op, n)
    → (g m : ℕ) (new : List Instr) → g ≡ gap (drop (at + 1) text) n → Wrote m (next (drop g (drop (at + 1) text))) now new
    → PowersTo next text (at + (1 + g + m)) (count + 1) read old new
unfolding postfix
powers_link next text at count read old now inv h op n i g m new ge w = record {
  with_last = λ t. inv.with_last (joined op inv.last t);
  last = w.tree;
  before = now;
  is =
      let right : next (drop (gap (drop (at + 1) text) n) (drop (at + 1) text)) ≡ Ok (w.tree, m) = rw (← ge) w.is in
      let place : at + (1 + g + m) ≡ at + 1 + (g + m) = omega arith in
      let step : chain to_right next 1 (drop at text) inv.last ≡ behind (1 + g + m) (joined op inv.last) (chain to_right next 1 (drop (at + 1 + (g + m)) text) w.tree) =
      link_is to_right next 1 text at inv.last h op n i ∙ rw (right, ← ge) refl in
      ap (λ (p : ℕ). behind (at + (1 + g + m)) (λ t. inv.with_last (joined op inv.last t)) (chain to_right next 1 (drop p text) w.tree)) place
      ∙ sym (behind_two at (1 + g + m) inv.with_last (joined op inv.last) (chain to_right next 1 (drop (at + 1 + (g + m)) text) w.tree))
      ∙ ap (behind at inv.with_last) (sym step)
      ∙ inv.is;
  now_is = w.code;
  code = λ t.
      let one_more : count + 1 ≡ suc count = omega arith in
      let more : replicate (count + 1) times ≡ times ∷ replicate count times = ap (λ (k : ℕ). replicate k times) one_more in
      let shape : now ++ (postfix t ++ (times ∷ replicate count times)) ≡ inv.before ++ (postfix (binary (eager.Arithmetic Power) inv.last t) ++ replicate count times) =
      rw inv.now_is (simp append_assoc) in
      ap (λ c. now ++ (postfix t ++ c)) more ∙ shape
      ∙ ap (λ (u : Tree). inv.before ++ (postfix u ++ replicate count times)) (sym (only_power op (of_level_is 1 (infix_at (get_or text at 0) (drop (at + 1) text)) op n i).same inv.last t))
      ∙ inv.code (joined op inv.last t);
}

pub powers_link_fails : (next : List ℕ → Read) (text : List ℕ) (at count : ℕ) (read : Read) (old now : List Instr) → PowersTo next text at count read old now
    → at < length text → (op : Infix) (n : ℕ) → of_level 1 (infix_at (get_or text at 0) (drop (at + 1) text)) ≡ Some (op, n)
    → (g : ℕ) (f : ExprFault) → g ≡ gap (drop (at + 1) text) n → Fails f (next (drop g (drop (at + 1) text))) → Fails f read
powers_link_fails next text at count read old now inv h op n i g f ge e =
    fails_by f _ _ (ap (behind at inv.with_last) (sym (link_is to_right next 1 text at inv.last h op n i)) ∙ inv.is)
    (fails_on f (next (drop (gap (drop (at + 1) text) n) (drop (at + 1) text)))
    (λ r. behind at inv.with_last (to_right (λ j. chain to_right next 1 (drop (at + 1 + j) text)) op (gap (drop (at + 1) text) n) inv.last r)) (λ e. refl)
    (rw (← ge) e))

-- ---- instructions

pub right_eager : (op : Eager) (n : ℕ) (read : Read) (old now new : List Instr) → Wrote n read old now → new ≡ now ++ (combine op ∷ []) → WroteRight (between.Eager op) n read old new
unfolding postfix
right_eager op n read old now new w e = record {
  tree = w.tree;
  is = w.is;
  code = λ before l o. e ∙ rw (w.code, o) (simp append_assoc);
}

pub right_lazy : (op : Lazy) (n : ℕ) (read : Read) (old now new : List Instr) (k : ℕ) → Wrote n read (old ++ (test op 0 ∷ [])) now
    → k ≡ length (now ++ (truth op ∷ [])) - length old - 1
    → new ≡ set (now ++ (truth op ∷ [])) (length old) (test op k) → WroteRight (between.Lazy op) n read old new
unfolding postfix
right_lazy op n read old now new k w size e = record {
  tree = w.tree;
  is = w.is;
  code = λ before l o.
      let shape : now ++ (truth op ∷ []) ≡ old ++ (test op 0 ∷ (postfix w.tree ++ (truth op ∷ []))) = rw w.code (simp append_assoc) in
      let many : k ≡ suc (length (postfix w.tree)) = size ∙ rw shape (omega (arith, length-append old (test op 0 ∷ (postfix w.tree ++ (truth op ∷ []))), length-append (postfix w.tree) (truth op ∷ []))) in
      e ∙ rw (shape, many) (set-append_seam old (test op 0) (postfix w.tree ++ (truth op ∷ [])) (test op (suc (length (postfix w.tree)))) ∙ rw o (simp append_assoc));
}

pub prefixed_writes : (inside : Inside) (text : List ℕ) (op : Prefix) (n g m : ℕ) (old now new : List Instr) → n ≡ g → Wrote m (inside.term (drop n text)) old now → new ≡ now ++ (apply op ∷ [])
    → Wrote (n + m) (behind g (unary op) (inside.term (drop g text))) old new
unfolding postfix
prefixed_writes inside text op n g m old now new e w p = record {
  tree = unary op w.tree;
  is = rw (← e, w.is) refl;
  code = p ∙ rw w.code (simp append_assoc);
}

pub level_zero : (inside : Inside) (k : ℕ) (text : List ℕ) → k ≡ 0 → level inside k text ≡ term inside text
unfolding level
level_zero inside k text e = rw e refl

pub whole_fails : (inside : Inside) (text : List ℕ) (f : ExprFault) → Fails f (level inside 13 text) → Fails f (whole inside text)
unfolding whole
whole_fails inside text f h = fails_on f (level inside 13 text) (question inside text) (λ e. refl) h

pub whole_plain : (inside : Inside) (text : List ℕ) (n : ℕ) (old now : List Instr) → Wrote n (level inside 13 text) old now → begins_with 63 (drop n text) ≡ false → Wrote n (whole inside text) old now
unfolding whole
whole_plain inside text n old now w t = record { tree = w.tree; is = ap (question inside text) w.is ∙ rw t refl; code = w.code }

pub whole_writes : (result : Result ℕ ExprFault) (inside : Inside) (text : List ℕ) (n g : ℕ) (old now new : List Instr) → Wrote n (level inside 13 text) old now
    → begins_with 63 (drop n text) ≡ true → g ≡ gap text (n + 1) → WritesBranches result inside text g now new → Writes result (whole inside text) old new
unfolding whole
whole_writes (Ok m) inside text n g old now new w t e b = record {
  tree = choice w.tree b.first b.second;
  is = ap (question inside text) w.is ∙ rw (t, ← e) (b.is w.tree);
  code = b.code old w.tree w.code;
}
whole_writes (Err f) inside text n g old now new w t e b =
    let is : whole inside text ≡ colon inside text w.tree g (inside.whole (drop g text)) = ap (question inside text) w.is ∙ rw (t, ← e) refl in
    fails_by f _ _ (sym is) (b w.tree)

pub branches_write : (inside : Inside) (text : List ℕ) (n f g k : ℕ) (old c2 c4 c5 c6 new : List Instr) (x y : ℕ)
    → Wrote f (inside.whole (drop n text)) (old ++ (branch 0 ∷ [])) c2
    → begins_with 58 (drop (n + f) text) ≡ true → g ≡ gap text (n + f + 1)
    → Wrote k (inside.whole (drop g text)) (c2 ++ (skip 0 ∷ [])) c4
    → x ≡ length c2 - length old → c5 ≡ set c4 (length old) (branch x)
    → y ≡ length c5 - length c2 - 1 → c6 ≡ set c5 (length c2) (skip y)
    → new ≡ c6 ++ (join ∷ []) → WroteBranches (g + k) inside text n old new
unfolding postfix
branches_write inside text n f g k old c2 c4 c5 c6 new x y a t ge b xe e5 ye e6 en = record {
  first = a.tree;
  second = b.tree;
  is = λ c. ap (colon inside text c n) a.is ∙ rw (t, ← ge, b.is) refl;
  code = λ before c o.
      let A : List Instr = postfix a.tree in
      let B : List Instr = postfix b.tree in
      let is2 : c2 ≡ old ++ (branch 0 ∷ A) = a.code ∙ append_assoc old (branch 0 ∷ []) A in
      let is4 : c4 ≡ old ++ (branch 0 ∷ (A ++ (skip 0 ∷ B))) = b.code ∙ rw is2 (simp append_assoc) in
      let many : x ≡ suc (length A) = xe ∙ rw is2 (omega (arith, length-append old (branch 0 ∷ A))) in
      let is5 : c5 ≡ old ++ (branch x ∷ (A ++ (skip 0 ∷ B))) = e5 ∙ rw is4 (set-append_seam old (branch 0) (A ++ (skip 0 ∷ B)) (branch x)) in
      let split5 : c5 ≡ (old ++ (branch x ∷ A)) ++ (skip 0 ∷ B) = is5 ∙ sym (append_assoc old (branch x ∷ A) (skip 0 ∷ B)) in
      let long2 : length c2 ≡ length (old ++ (branch x ∷ A)) = ap length is2 ∙ length-append old (branch 0 ∷ A) ∙ sym (length-append old (branch x ∷ A)) in
      let few : y ≡ length B = ye ∙ rw (long2, split5) (omega (arith, length-append (old ++ (branch x ∷ A)) (skip 0 ∷ B))) in
      let is6 : c6 ≡ (old ++ (branch x ∷ A)) ++ (skip y ∷ B) = e6 ∙ rw (long2, split5) (set-append_seam (old ++ (branch x ∷ A)) (skip 0) B (skip y)) in
      en ∙ rw (is6, many, few, o) (simp append_assoc);
}

pub branches_fail : (inside : Inside) (text : List ℕ) (n : ℕ) (f : ExprFault) → Fails f (inside.whole (drop n text)) → FailsBranches f inside text n
branches_fail inside text n f h c = fails_on f (inside.whole (drop n text)) (colon inside text c n) (λ e. refl) h

pub lowest_writes : (inside : Inside) (text : List ℕ) (g : ℕ) (old new : List Instr) → 1 ≤ length text → (get_or text 0 0 == 40) ≡ false → is_lowest (get_or text 0 0) (drop 1 text) ≡ true
    → g ≡ gap text (1 + digits_len (drop 1 text)) → new ≡ old ++ (push lowest ∷ []) → Wrote g (term inside text) old new
unfolding term postfix
lowest_writes inside [] g old new h t l e p = absurd (omega arith)
lowest_writes inside (b ∷ bytes) g old new h t l e p = record {
  tree = number lowest;
  is = rw (t, l, e) refl;
  code = p;
}

-- what was written behind nothing is a whole tree's
pub grouped : (n : ℕ) (read : Read) (code : List Instr) → Wrote n read [] code → code ≡ postfix (tree_of code)
grouped n read code w = w.code ∙ ap postfix (sym (tree_of-postfix w.tree) ∙ ap tree_of (sym w.code))

pub parsed_is : (text rest : List ℕ) (n : ℕ) (code : List Instr) → rest ≡ drop (gap text 0) text → Wrote n (whole (inside_of deepest) rest) [] code → (length rest == n) ≡ true → parsed text ≡ Ok (tree_of code)
unfolding parsed
parsed_is text rest n code e w t =
    rw (← e, w.is, t) (ap Ok (sym (tree_of-postfix w.tree) ∙ ap tree_of (sym w.code)))

pub parsed_fails : (text rest : List ℕ) (f : ExprFault) → rest ≡ drop (gap text 0) text → Fails f (whole (inside_of deepest) rest) → Fails f (parsed text)
unfolding parsed
parsed_fails text rest f e h = rw (← e) (fails_on f (whole (inside_of deepest) rest) (to_the_end rest) (λ e. refl) h)

-- the rest of a pattern with one byte before it
pub behind_first : (s : List ℕ) → take (length s - 1) (drop 1 s) ≡ drop 1 s
behind_first s = take_all (length s - 1) (drop 1 s) (omega (arith, length-drop 1 s))
