use Rattle.std.proofs.Common.{◌≡◌, ◌<◌, ◌+◌, ◌-◌, length, take, drop, arith, length-drop}
use Rattle.std.proofs.lemmas.List.{take_rest}
use Rattle.std.proofs.lemmas.Bool.{eqb-true}
use Rattle.std.specs.Prelude.{slice_index}
use Rattle.child_events.proofs.Parts.{parts_at, parts_none}
use Rattle.child_events.proofs.Judged.{without_before}
use Rattle.child_timeline.proofs.words.split_line.Goals as goal

pub returns-in-Some : goal.returns-in-Some
returns-in-Some c =
    let bytes = c.args.bytes.now in
    let i = c.in-Some.i in
    let found = c.in-Some.ensures in
    let lt : i < length bytes = found.0.high in
    let rest : take (length bytes - (i + 1)) (drop (i + 1) bytes) ≡ drop (i + 1) bytes = take_rest bytes (i + 1) in
    rw rest (parts_at 10 bytes i lt (eqb-true (slice_index bytes i) 10 found.1) (without_before 10 i bytes (λ k below is. found.0.before k (omega arith) below is)), omega (arith, length-drop (i + 1) bytes, lt))

pub returns-in-None : goal.returns-in-None
returns-in-None c =
    let bytes = c.args.bytes.now in
    let none = c.in-None.ensures in
    parts_none 10 bytes (length bytes) (omega arith) (without_before 10 (length bytes) bytes (λ k below is. none k (omega arith) below is))
