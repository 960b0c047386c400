use Rattle.std.proofs.Common.{◌≡◌, ℕ, ◌≤◌, ◌<◌, ◌+◌, ◌++◌, ◌∷◌, [], true, false, eqb, length, length-drop, drop, get_or, ap, sym, ◌∙◌, arith}
use Rattle.std.proofs.lemmas.Bool.Decides.{nat_tests}
use Rattle.std.proofs.lemmas.List.{append-nil}
use Rattle.tcl_words.specs.Backslash.{blanks}
use Rattle.tcl_words.specs.Commands.{is_continued}
use Rattle.tcl_words.proofs.Joins.{joined_over, join_continued, join_quoted, join_plain, join_end, continued-room}
use Rattle.tcl_words.proofs.reading.joined.Goals as goal
use Rattle.tcl_words.proofs.reading.joined.Goals.{else-b-eq92-via-then-b-eq92+else-at-bytes, else-b-eq92-via-else-b-eq92}

pub loop-at-preserved-then-is_continued : goal.loop-at-preserved-then-is_continued
loop-at-preserved-then-is_continued c =
    let s = c.args.bytes.now in
    let i = c.loop-at.at in
    let t : is_continued (get_or s i 0) (drop (i + 1) s) ≡ true = grind arith in
    let n : c.blanks.result ≡ blanks (drop 1 (drop (i + 1) s)) = grind arith in
    let room : 0 < length (drop (i + 1) s) = continued-room (get_or s i 0) (drop (i + 1) s) t in
    let within : c.blanks.result ≤ length (drop 1 (drop (i + 1) s)) = grind arith in
    (omega (arith, length-drop 1 (drop (i + 1) s), length-drop (i + 1) s), rw (c.in_ok-push.ensures.items, n) (join_continued s c.loop-at.text.items i _ (omega arith) c.loop-at.invariant.1 t))

pub loop-at-preserved-then-at-bytes : goal.loop-at-preserved-then-at-bytes
loop-at-preserved-then-at-bytes c =
    let s = c.args.bytes.now in
    let i = c.loop-at.at in
    let t : is_continued (get_or s i 0) (drop (i + 1) s) ≡ false = grind arith in
    let e : eqb (get_or s i 0) 92 ≡ true = grind (arith, nat_tests) in
    let b : get_or s i 0 ≡ 92 = omega arith in
    let pushed : c.push-then-at-bytes-2.new.self.items ≡ (c.loop-at.text.items ++ 92 ∷ []) ++ get_or s (i + 1) 0 ∷ [] = c.in_ok-push-3.ensures.items ∙ ap (λ t. t ++ get_or s (i + 1) 0 ∷ []) (c.in_ok-push-2.ensures.items ∙ ap (λ (x : ℕ). c.loop-at.text.items ++ x ∷ []) b) in
    (omega arith, rw pushed (join_quoted s c.loop-at.text.items i _ (omega arith) c.loop-at.invariant.1 (omega arith) t e))

pub loop-at-preserved : goal.loop-at-preserved
loop-at-preserved c =
    let s = c.args.bytes.now in
    let i = c.loop-at.at in
    let t : is_continued (get_or s i 0) (drop (i + 1) s) ≡ false = grind arith in
    elim c.else-b-eq92.branch [
      | else-b-eq92-via-then-b-eq92+else-at-bytes w ↦ (omega arith, rw c.in_ok-push-4.ensures.items (join_end s c.loop-at.text.items i _ (omega arith) c.loop-at.invariant.1 (omega arith) t (omega arith)))
      | else-b-eq92-via-else-b-eq92 w ↦ (omega arith, rw c.in_ok-push-4.ensures.items (join_plain s c.loop-at.text.items i _ (omega arith) c.loop-at.invariant.1 t (grind (arith, nat_tests))))
    ]

pub returns : goal.returns
returns c = sym (append-nil c.loop-at.text.items) ∙ ap (λ t. c.loop-at.text.items ++ t) (sym (joined_over c.args.bytes.now c.loop-at.at (omega arith))) ∙ c.loop-at.invariant.1
