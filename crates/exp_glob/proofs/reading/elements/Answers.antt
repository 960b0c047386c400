use Rattle.std.proofs.Common.{◌+◌, ◌<◌, ◌≤◌, ◌++◌, List, length, length-drop, drop, ltb-false, ap, ◌∙◌, arith}
use Rattle.exp_glob.specs.declared.element.Element.{Element}
use Rattle.exp_glob.specs.Elements.{elements_of}
use Rattle.exp_glob.proofs.ReadOn.{elements_turn, close_none}
use Rattle.exp_glob.proofs.reading.elements.Goals as goal

pub element_at-requires : goal.element_at-requires
element_at-requires c = λ open_ended.
    rw c.after-rest.ensures (close_none c.args.bytes.now c.behind_last_close-closed.result (c.loop-at.at + 1) c.behind_last_close-closed.ensures.none_behind (ltb-false _ _ open_ended))

pub loop-at-preserved : goal.loop-at-preserved
loop-at-preserved c =
    let s = c.args.bytes.now in
    let i = c.loop-at.at in
    let n = c.in_ok-element.n in
    let lt : i < length s = c.loop-at-test.true in
    let within : n ≤ length (drop (i + 1) s) = rw (← c.after-rest.ensures) c.in_ok-element.ensures.within in
    let is = rw c.after-rest.ensures at c.in_ok-element.ensures.value in (
      omega (arith, length-drop (i + 1) s),
      ap (λ (es : List Element). es ++ elements_of (drop (i + (1 + n)) s)) c.in_ok-push.ensures.pushed
          ∙ elements_turn c.loop-at.made _ s i n c.in_ok-element.element lt is c.loop-at.invariant.1,
    )
