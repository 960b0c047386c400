use Rattle.std.proofs.Common.{◌≡◌, ◌≤◌, ◌+◌, ◌-◌, true, false, Some, None, length, length-drop, drop, get_or, ◌==◌, refl, sym, arith}
use Rattle.std.proofs.lemmas.Bool.Decides.{nat_tests}
use Rattle.std.proofs.lemmas.Result.{err_from_is_err_and}
use Rattle.tcl_words.specs.Lists.{begins_with}
use Rattle.tcl_expr.specs.White.{gap}
use Rattle.tcl_expr.specs.Infix.{infix_at, of_level}
use Rattle.tcl_expr.specs.Leaf.{is_lowest, digits_len}
use Rattle.tcl_expr.specs.Grammar.{inside_of, term, level}
use Rattle.tcl_expr.proofs.Writings.{level_zero, level_fails, level_init, level_none, level_link, level_end, link_fails, powers_init, powers_fail, powers_none, powers_over, powers_link, powers_link_fails, prefixed_writes, right_eager, right_lazy, branches_write, whole_fails, whole_plain, whole_writes, lowest_writes, behind_first}
use Rattle.tcl_expr.proofs.grammar.+expression.Goals as goal

pub branches-returns-clause-value : goal.branches-returns-clause-value
branches-returns-clause-value t c =
    let text = c.args.text.now in
    let colon_is : begins_with 58 (drop (c.args.n + c.in_ok-m.field-0) text) ≡ true = grind arith in
    branches_write (inside_of c.args.depth) text c.args.n c.in_ok-m.field-0 c.gap-m.result c.in_ok-k.k
    c.args.code.now c.inner.new.code c.inner-2.new.code c.patch.new.self c.patch-2.new.self c.push-3.new.self
    (c.len-leave.result - c.len-test.result) (c.len.result - c.len-leave.result - 1)
    (rw (← c.after.ensures, ← c.in_ok-push.ensures.pushed) c.in_ok-m.ensures.value)
    colon_is c.gap-m.ensures.value
    (rw (← c.after-3.ensures, ← c.in_ok-push-2.ensures.pushed) c.in_ok-k.ensures.value)
    (rw (c.len-leave.ensures, c.len-test.ensures) refl)
    (rw (← c.len-test.ensures) c.patch.ensures)
    (rw (c.len.ensures, c.len-leave.ensures) refl)
    (rw (← c.len-leave.ensures) c.patch-2.ensures)
    c.in_ok-push-3.ensures.pushed

pub operands-returns-in_err-at-clause-value : goal.operands-returns-in_err-at-clause-value
operands-returns-in_err-at-clause-value t c =
    let p = err_from_is_err_and c.from_residual.result c.from_residual.ensures.1 in
    rw (p.1, p.2) (powers_fail (inside_of c.args.depth) c.args.text.now c.in_err-at.field-0.0 c.in_err-at.ensures.value)

pub operands-loop-at-init : goal.operands-loop-at-init
operands-loop-at-init t c = record {
  within = c.in_ok-at.ensures.within;
  few = omega arith;
  to = powers_init (inside_of c.args.depth) c.args.text.now c.in_ok-at.at c.args.code.now c.term.new.code c.in_ok-at.ensures.value;
}

pub operands-returns-in_default-clause-value : goal.operands-returns-in_default-clause-value
operands-returns-in_default-clause-value t c =
    let text = c.args.text.now in
    let at = c.loop-at.at in
    let none : of_level 1 (infix_at (get_or text at 0) (drop (at + 1) text)) ≡ None = grind arith in
    powers_none (term (inside_of c.args.depth)) text at c.loop-at.count _ _ _ c.loop-at.invariant.to (omega arith) none

pub operands-returns-in_err-at-2-clause-value : goal.operands-returns-in_err-at-2-clause-value
operands-returns-in_err-at-2-clause-value t c =
    let text = c.args.text.now in
    let at = c.loop-at.at in
    let p = err_from_is_err_and c.from_residual-in_err-at-2.result c.from_residual-in_err-at-2.ensures.1 in
    let is : of_level 1 (infix_at (get_or text at 0) (drop (at + 1) text)) ≡ Some (c.in-Some.field-0-0, c.in-Some.n) = grind arith in
    let place : c.gap-n.result ≡ gap (drop (at + 1) text) c.in-Some.n = grind arith in
    rw (p.1, p.2) (powers_link_fails (term (inside_of c.args.depth)) text at c.loop-at.count _ _ _ c.loop-at.invariant.to (omega arith) c.in-Some.field-0-0 c.in-Some.n is
    c.gap-n.result c.in_err-at-2.field-0.0 place (rw (← c.after-rest.ensures, ← c.after.ensures) c.in_err-at-2.ensures.value))

pub operands-loop-at-preserved : goal.operands-loop-at-preserved
operands-loop-at-preserved t c =
    let text = c.args.text.now in
    let at = c.loop-at.at in
    let is : of_level 1 (infix_at (get_or text at 0) (drop (at + 1) text)) ≡ Some (c.in-Some.field-0-0, c.in-Some.n) = grind arith in
    let place : c.gap-n.result ≡ gap (drop (at + 1) text) c.in-Some.n = grind arith in
    let room : c.gap-n.result ≤ length (drop (at + 1) text) = grind arith in
    let taken : c.in_ok-at-2.field-0 ≤ length (drop c.gap-n.result (drop (at + 1) text)) = grind arith in
    record {
      within = omega (arith, room, taken, length-drop (at + 1) text, length-drop c.gap-n.result (drop (at + 1) text));
      few = omega (arith, c.loop-at.invariant.few);
      to = powers_link (term (inside_of c.args.depth)) text at c.loop-at.count _ _ _ c.loop-at.invariant.to (omega arith) c.in-Some.field-0-0 c.in-Some.n is
          c.gap-n.result c.in_ok-at-2.field-0 _ place (rw (← c.after-rest.ensures, ← c.after.ensures) c.in_ok-at-2.ensures.value);
    }

pub operands-returns-clause-value : goal.operands-returns-clause-value
operands-returns-clause-value t c =
    powers_over (term (inside_of c.args.depth)) c.args.text.now c.loop-at.at c.loop-at.count _ _ _ c.loop-at.invariant.to (omega arith)

pub level-returns-then-loosest-eq0-clause-value : goal.level-returns-then-loosest-eq0-clause-value
level-returns-then-loosest-eq0-clause-value t c =
    let zero_is : c.args.loosest ≡ 0 = omega arith in
    rw (level_zero (inside_of c.args.depth) c.args.loosest c.args.text.now zero_is) c.term.ensures.value

pub level-returns-then-loosest-eq1-clause-value : goal.level-returns-then-loosest-eq1-clause-value
level-returns-then-loosest-eq1-clause-value t c = let one : c.args.loosest ≡ 1 = c.if-loosest-eq1.true in rw one c.powers.ensures.value

pub level-returns-in_err-at-clause-value : goal.level-returns-in_err-at-clause-value
level-returns-in_err-at-clause-value t c =
    let p = err_from_is_err_and c.from_residual.result c.from_residual.ensures.1 in
    rw (p.1, p.2) (level_fails (inside_of c.args.depth) c.args.loosest c.args.text.now c.in_err-at.field-0.0 (omega arith) c.in_err-at.ensures.value)

pub level-loop-at-init : goal.level-loop-at-init
level-loop-at-init t c = record {
  within = c.in_ok-at.ensures.within;
  some = omega arith;
  to = level_init (inside_of c.args.depth) c.args.loosest c.args.text.now c.in_ok-at.at c.args.code.now c.level.new.code (omega arith) c.in_ok-at.ensures.value;
}

pub level-returns-in_default-clause-value : goal.level-returns-in_default-clause-value
level-returns-in_default-clause-value t c =
    let text = c.args.text.now in
    let at = c.loop-at.at in
    let none : of_level c.args.loosest (infix_at (get_or text at 0) (drop (at + 1) text)) ≡ None = grind arith in
    level_none (level (inside_of c.args.depth) (c.args.loosest - 1)) c.args.loosest text at _ _ _ c.loop-at.invariant.to (omega arith) none

pub level-returns-in_err-at-2-clause-value : goal.level-returns-in_err-at-2-clause-value
level-returns-in_err-at-2-clause-value t c =
    let text = c.args.text.now in
    let at = c.loop-at.at in
    let p = err_from_is_err_and c.from_residual-in_err-at-2.result c.from_residual-in_err-at-2.ensures.1 in
    let is : of_level c.args.loosest (infix_at (get_or text at 0) (drop (at + 1) text)) ≡ Some (c.in-Some.op, c.in-Some.n) = grind arith in
    let place : c.gap-n.result ≡ gap (drop (at + 1) text) c.in-Some.n = grind arith in
    rw (p.1, p.2) (link_fails (level (inside_of c.args.depth) (c.args.loosest - 1)) c.args.loosest text at _ _ _ c.loop-at.invariant.to (omega arith) c.in-Some.op c.in-Some.n is
    c.gap-n.result c.in_err-at-2.field-0.0 place (rw (← c.after-rest.ensures, ← c.after.ensures) c.in_err-at-2.ensures.value))

pub level-loop-at-preserved : goal.level-loop-at-preserved
level-loop-at-preserved t c =
    let text = c.args.text.now in
    let at = c.loop-at.at in
    let is : of_level c.args.loosest (infix_at (get_or text at 0) (drop (at + 1) text)) ≡ Some (c.in-Some.op, c.in-Some.n) = grind arith in
    let place : c.gap-n.result ≡ gap (drop (at + 1) text) c.in-Some.n = grind arith in
    let room : c.gap-n.result ≤ length (drop (at + 1) text) = grind arith in
    let taken : c.in_ok-at-2.field-0 ≤ length (drop c.gap-n.result (drop (at + 1) text)) = grind arith in
    record {
      within = omega (arith, room, taken, length-drop (at + 1) text, length-drop c.gap-n.result (drop (at + 1) text));
      some = c.loop-at.invariant.some;
      to = level_link (level (inside_of c.args.depth) (c.args.loosest - 1)) c.args.loosest text at _ _ _ c.loop-at.invariant.to (omega arith) c.in-Some.op c.in-Some.n is
          c.gap-n.result c.in_ok-at-2.field-0 c.right.new.code place (rw (← c.after-rest.ensures, ← c.after.ensures) c.in_ok-at-2.ensures.value);
    }

pub level-returns-clause-value : goal.level-returns-clause-value
level-returns-clause-value t c =
    level_end (level (inside_of c.args.depth) (c.args.loosest - 1)) c.args.loosest c.args.text.now c.loop-at.at _ _ _ c.loop-at.invariant.to (omega arith)

pub prefixed-returns-clause-value : goal.prefixed-returns-clause-value
prefixed-returns-clause-value t c =
    prefixed_writes (inside_of c.args.depth) c.args.text.now c.args.op c.gap-n.result (gap c.args.text.now 1) c.in_ok-m.m c.args.code.now c.inner_term.new.code c.push.new.self
    c.gap-n.ensures.value (rw (← c.after.ensures) c.in_ok-m.ensures.value) c.in_ok-push.ensures.pushed

pub right-returns-in_ok-push-in-Eager-clause-value : goal.right-returns-in_ok-push-in-Eager-clause-value
right-returns-in_ok-push-in-Eager-clause-value t c =
    rw c.in-Eager.is (right_eager c.in-Eager.op c.in_ok-n-in-Eager.n _ c.args.code.now c.level.new.code c.push.new.self
    c.in_ok-n-in-Eager.ensures.value c.in_ok-push-in-Eager.ensures.pushed)

pub right-returns-in_ok-push-in-Lazy-2-clause-value : goal.right-returns-in_ok-push-in-Lazy-2-clause-value
right-returns-in_ok-push-in-Lazy-2-clause-value t c =
    let pushed = c.in_ok-push-in-Lazy-2.ensures.pushed in
    rw c.in-Lazy.is (right_lazy c.in-Lazy.op c.in_ok-n-in-Lazy.n _ c.args.code.now c.level-in-Lazy.new.code c.patch.new.self (c.len.result - c.len-at.result - 1)
    (rw (← c.in_ok-push-in-Lazy.ensures.pushed) c.in_ok-n-in-Lazy.ensures.value)
    (rw (c.len.ensures, c.len-at.ensures, pushed) refl)
    (rw (← pushed, ← c.len-at.ensures) c.patch.ensures))

pub term-returns-then-is_lowest-clause-value : goal.term-returns-then-is_lowest-clause-value
term-returns-then-is_lowest-clause-value t c =
    let text = c.args.text.now in
    let paren : (get_or text 0 0 == 40) ≡ false = grind (arith, nat_tests) in
    let is : is_lowest (get_or text 0 0) (drop 1 text) ≡ true = rw (← behind_first text) (sym c.if-is_lowest.ensures) in
    let digits : c.digits_len.result ≡ digits_len (drop 1 text) = rw (← behind_first text) c.digits_len.ensures.value in
    let place : c.gap-then-is_lowest.result ≡ gap text (1 + digits_len (drop 1 text)) = rw (← digits) c.gap-then-is_lowest.ensures.value in
    lowest_writes (inside_of c.args.depth) text c.gap-then-is_lowest.result c.args.code.now c.push.new.self c.in-len1-up.len_at_least paren is place c.in_ok-push-in-len1-up.ensures.pushed

pub whole-returns-in_err-n-clause-value : goal.whole-returns-in_err-n-clause-value
whole-returns-in_err-n-clause-value t c =
    let p = err_from_is_err_and c.from_residual.result c.from_residual.ensures.1 in
    rw (p.1, p.2) (whole_fails (inside_of c.args.depth) c.args.text.now c.in_err-n.field-0.0 c.in_err-n.ensures.value)

pub whole-returns-then-not-begins_with-clause-value : goal.whole-returns-then-not-begins_with-clause-value
whole-returns-then-not-begins_with-clause-value t c =
    let plain : begins_with 63 (drop c.in_ok-n.n c.args.text.now) ≡ false = grind arith in
    whole_plain (inside_of c.args.depth) c.args.text.now c.in_ok-n.n c.args.code.now c.level.new.code c.in_ok-n.ensures.value plain

pub whole-returns-clause-value : goal.whole-returns-clause-value
whole-returns-clause-value t c =
    let chosen : begins_with 63 (drop c.in_ok-n.n c.args.text.now) ≡ true = grind arith in
    whole_writes c.branches.result (inside_of c.args.depth) c.args.text.now c.in_ok-n.n c.gap.result c.args.code.now c.level.new.code c.branches.new.code
    c.in_ok-n.ensures.value chosen c.gap.ensures.value c.branches.ensures.value
