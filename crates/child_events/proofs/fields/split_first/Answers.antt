use Rattle.std.proofs.Common.{◌≡◌, ◌<◌, ◌+◌, ◌-◌, length, take, drop, arith, length-drop}
use Rattle.std.proofs.lemmas.List.{take_rest}
use Rattle.child_events.proofs.Parts.{parts_at, parts_none}
use Rattle.child_events.proofs.fields.split_first.Goals as goal

pub returns-then-bytes-i : goal.returns-then-bytes-i
returns-then-bytes-i c =
    let bytes = c.args.bytes.now in
    let i = c.loop-i.i in
    let lt : i < length bytes = c.loop-i-test.true in
    let rest : take (length bytes - (i + 1)) (drop (i + 1) bytes) ≡ drop (i + 1) bytes = take_rest bytes (i + 1) in
    rw rest (parts_at c.args.separator bytes i lt c.if-bytes-i.true c.loop-i.invariant, omega (arith, length-drop (i + 1) bytes))

pub returns : goal.returns
returns c = parts_none c.args.separator c.args.bytes.now c.loop-i.i c.loop-i-test.false c.loop-i.invariant
