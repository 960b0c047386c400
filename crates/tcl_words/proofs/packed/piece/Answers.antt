use Rattle.std.proofs.Common.{ℕ, length, take, drop, Some, sym, ap, ◌∙◌, arith}
use Rattle.std.proofs.lemmas.Bool.Decides.{nat_tests}
use Rattle.std.specs.Prelude.{get_or}
use Rattle.tcl_words.proofs.Packing.{no_piece, piece_within, piece_at}
use Rattle.tcl_words.proofs.packed.piece.Goals as goal

pub returns-in_err-end : goal.returns-in_err-end
returns-in_err-end c = ap (λ o. o) (cc) ∙ sym (no_piece 0 c.args.ends.now c.args.bytes.now c.args.index (grind (arith, nat_tests)))

pub split_at-requires : goal.split_at-requires
split_at-requires c =
    let e = c.in_ok-end.field-0.now in
    let at = piece_within 0 c.args.ends.now (length c.args.bytes.now) c.args.index e c.requires c.in_ok-end.ensures.lookup.3.0 in
    omega (arith, at.1, c.in_ok-end.ensures.lookup.1)

pub split_at-requires-2 : goal.split_at-requires-2
split_at-requires-2 c =
    let e = c.in_ok-end.field-0.now in
    let at = piece_within 0 c.args.ends.now (length c.args.bytes.now) c.args.index e c.requires c.in_ok-end.ensures.lookup.3.0 in
    omega (arith, at.0, at.1, c.in_ok-end.ensures.lookup.1, c.split_at.ensures.front_len, c.begin.ensures (omega (arith, c.in_ok-end.ensures.lookup.3.0)))

pub returns : goal.returns
returns c =
    let e = c.in_ok-end.field-0.now in
    let b = c.begin.ensures (omega (arith, c.in_ok-end.ensures.lookup.3.0)) in
    ap Some (
    c.split_at-2.ensures.back
    ∙ ap (drop c.begin.result) (c.split_at.ensures.front ∙ ap (λ (n : ℕ). take n c.args.bytes.now) c.in_ok-end.ensures.lookup.1)
    ∙ ap (λ (n : ℕ). drop n (take (get_or c.args.ends.now c.args.index e) c.args.bytes.now)) b
    )
    ∙ sym (piece_at 0 c.args.ends.now c.args.bytes.now c.args.index e c.in_ok-end.ensures.lookup.3.0)
