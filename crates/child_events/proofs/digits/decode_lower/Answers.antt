use Rattle.std.proofs.Common.{◌≡◌, ◌∙◌, ◌+◌, ◌*◌, ◌&&◌, Bool, true, false, drop, slice_index, refl, sym, ap, arith}
use Rattle.std.proofs.lemmas.Bool.{and_parts}
use Rattle.hex.proofs.HexLemmas.{decode_of-even}
use Rattle.hex.proofs.Pairs.{decode_step, decode_done, drop-pair}
use Rattle.child_events.specs.Reading.{is_lower_hex_digit, all_lower_hex}
use Rattle.child_events.proofs.digits.decode_lower.Goals as goal

-- four tests, from the left and from the right
in_turn : (t a b r : Bool) → (((t && a) && b) && r) ≡ (t && (a && (b && r)))
in_turn true true b r = refl
in_turn true false b r = refl
in_turn false a b r = refl

pub bytes-preserved : goal.bytes-preserved
bytes-preserved c =
    let w = c.args.word.now in
    let i = c.bytes.i in
    let lower = c.bytes.lower in
    let high = c.is_lower_hex_digit.result in
    let low = c.is_lower_hex_digit-in-bytes.result in
    record {
      judged =
          in_turn lower high low (all_lower_hex (drop (2 * (i + 1)) w))
          ∙ ap (λ (t : Bool). lower && (t && (low && all_lower_hex (drop (2 * (i + 1)) w)))) c.is_lower_hex_digit.ensures
          ∙ ap (λ (t : Bool). lower && (is_lower_hex_digit (slice_index w (2 * i)) && (t && all_lower_hex (drop (2 * (i + 1)) w)))) c.is_lower_hex_digit-in-bytes.ensures
          ∙ sym (ap (λ (ds : _). lower && all_lower_hex ds) (drop-pair w i (omega (arith, c.requires, c.bytes-test.true, c.bytes.auto.out, c.bytes.auto.i-end))))
          ∙ c.bytes.invariant.judged;
      decoded = λ all.
          let both = and_parts (lower && high) low all in
          let front = and_parts lower high both.0 in
          decode_step w c.bytes.out i c.byte_of.result
          (omega (arith, c.requires, c.bytes-test.true, c.bytes.auto.out, c.bytes.auto.i-end))
          (omega (arith, c.requires, c.bytes-test.true, c.bytes.auto.out, c.bytes.auto.i-end))
          (c.byte_of.ensures (sym c.is_lower_hex_digit.ensures ∙ front.1) (sym c.is_lower_hex_digit-in-bytes.ensures ∙ both.1) (2 * i))
          (c.bytes.invariant.decoded front.0);
    }

pub returns-clause-decoded : goal.returns-clause-decoded
returns-clause-decoded c = λ lower.
    decode_of-even c.args.word.now (omega (arith, c.requires))
    ∙ decode_done c.args.word.now c.bytes.out c.bytes.i
    (omega (arith, c.requires, c.bytes-test.false, c.bytes.auto.out, c.bytes.auto.i-end))
    (omega (arith, c.requires, c.bytes-test.false, c.bytes.auto.out, c.bytes.auto.i-end))
    (c.bytes.invariant.decoded lower)
