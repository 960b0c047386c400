use Rattle.std.proofs.Common.{◌≡◌, ◌+◌, ◌-◌, length, take, drop, sym}
use Rattle.std.proofs.lemmas.List.{take_rest}
use Rattle.child_events.proofs.Numbers.{number_first}
use Rattle.child_events.proofs.piece_line.ended.Goals as goal

pub returns : goal.returns
returns c =
    let bytes = c.args.bytes.now in
    let at = c.args.at in
    let rest : take (length bytes - (at + 1)) (drop (at + 1) bytes) ≡ drop (at + 1) bytes = take_rest bytes (at + 1) in
    rw rest (number_first bytes at c.args.number c.requires.within c.requires.few c.if-bytes-at-ne32.false (sym c.if-not-starts_number.ensures) c.requires.number)
