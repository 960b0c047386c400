use Rattle.std.proofs.Common.{◌≡◌, true, false, drop, get_or, arith}
use Rattle.tcl_words.specs.Commands.{is_gap}
use Rattle.script_check.proofs.Steps.{bare_goes, bare_ends, bare_over}
use Rattle.script_check.proofs.placed.behind_bare.Goals as goal

pub returns-then-ends_word : goal.returns-then-ends_word
returns-then-ends_word c =
    let s = c.loop-rest.rest.now in
    let g : is_gap (get_or s 0 0) (drop 1 s) ≡ true = grind arith in
    let e = bare_ends s (omega arith) g in
    grind arith

pub loop-rest-preserved : goal.loop-rest-preserved
loop-rest-preserved c =
    let s = c.loop-rest.rest.now in
    let g : is_gap (get_or s 0 0) (drop 1 s) ≡ false = grind arith in
    let e = bare_goes s (omega arith) g in
    grind arith

pub returns : goal.returns
returns c =
    let e = bare_over c.loop-rest.rest.now (omega arith) in
    grind arith
