use Rattle.std.proofs.Common.{◌≡◌, ◌+◌, ◌≤◌, true, false, length, length-drop, drop, get_or, ◌∙◌, arith}
use Rattle.tcl_words.specs.Backslash.{blanks}
use Rattle.tcl_words.specs.Lists.{is_white}
use Rattle.tcl_words.specs.Commands.{is_continued}
use Rattle.tcl_expr.proofs.Whites.{white_one, white_none, white_long, white_over, continued_has}
use Rattle.tcl_expr.proofs.white.white.Goals as goal

pub loop-at-preserved-then-is_white : goal.loop-at-preserved-then-is_white
loop-at-preserved-then-is_white c =
    let s = c.args.bytes.now in
    let i = c.loop-at.at in
    let t : is_white (get_or s i 0) ≡ true = grind arith in
    (omega arith, white_one s i (omega arith) t ∙ c.loop-at.invariant.1)

pub returns-then-not-is_continued-clause-value : goal.returns-then-not-is_continued-clause-value
returns-then-not-is_continued-clause-value c =
    let s = c.args.bytes.now in
    let i = c.loop-at.at in
    let t : is_white (get_or s i 0) ≡ false = grind arith in
    let u : is_continued (get_or s i 0) (drop (i + 1) s) ≡ false = grind arith in
    omega (arith, white_none s i (omega arith) t u, c.loop-at.invariant.1)

pub loop-at-preserved : goal.loop-at-preserved
loop-at-preserved c =
    let s = c.args.bytes.now in
    let i = c.loop-at.at in
    let t : is_white (get_or s i 0) ≡ false = grind arith in
    let u : is_continued (get_or s i 0) (drop (i + 1) s) ≡ true = grind arith in
    let b : c.blanks.result ≡ blanks (drop 1 (drop (i + 1) s)) = grind arith in
    let within : c.blanks.result ≤ length (drop 1 (drop (i + 1) s)) = grind arith in
    (omega (arith, within, continued_has s i u, length-drop 1 (drop (i + 1) s), length-drop (i + 1) s), white_long s i c.blanks.result (omega arith) t u b ∙ c.loop-at.invariant.1)

pub returns-clause-value : goal.returns-clause-value
returns-clause-value c = omega (arith, white_over c.args.bytes.now c.loop-at.at (omega arith), c.loop-at.invariant.1)
