use Rattle.std.proofs.Common.{◌≡◌, ℕ, ◌+◌, ◌<◌, false, true, length, length-drop, drop, get_or, refl, sym, ◌∙◌, subst, arith}
use Rattle.std.specs.Char.{to_ascii_lowercase, to_ascii_uppercase}
use Rattle.memchr.specs.Find.{Nowhere, Passes, is_byte2}
use Rattle.exp_match.specs.Exact.{StandsAt}
use Rattle.exp_match.proofs.Standing.{least_place}
use Rattle.exp_match.proofs.exact.find_by.Goals as goal

pub returns-then-stands_folded : goal.returns-then-stands_folded
returns-then-stands_folded c =
    let b = get_or c.args.text.now c.args.rare 0 in
    let none : Nowhere (Passes (is_byte2 (to_ascii_lowercase b) (to_ascii_uppercase b)) (drop (c.loop-n.from + c.args.rare) c.args.bytes.now)) 0 c.in-Some.n
    = rw (← c.to_ascii_lowercase-lower.ensures.value, ← c.to_ascii_uppercase-upper.ensures.value, ← c.after.ensures) c.in-Some.ensures.0.before in
    (c.stands_folded.ensures.0 c.if-stands_folded.true, refl, least_place c.args.bytes.now c.args.text.now c.args.rare b c.loop-n.from c.in-Some.n c.requires refl none c.loop-n.invariant.1)

pub loop-n-preserved : goal.loop-n-preserved
loop-n-preserved c =
    let b = get_or c.args.text.now c.args.rare 0 in
    let none : Nowhere (Passes (is_byte2 (to_ascii_lowercase b) (to_ascii_uppercase b)) (drop (c.loop-n.from + c.args.rare) c.args.bytes.now)) 0 c.in-Some.n
    = rw (← c.to_ascii_lowercase-lower.ensures.value, ← c.to_ascii_uppercase-upper.ensures.value, ← c.after.ensures) c.in-Some.ensures.0.before in
    let below : c.in-Some.n < length (drop (c.loop-n.from + c.args.rare) c.args.bytes.now) = rw (← c.after.ensures) c.in-Some.ensures.0.high in
    let at = c.loop-n.from + c.in-Some.n in
    let least = least_place c.args.bytes.now c.args.text.now c.args.rare b c.loop-n.from c.in-Some.n c.requires refl none c.loop-n.invariant.1 in (
      omega (arith, length-drop (c.loop-n.from + c.args.rare) c.args.bytes.now),
      λ k lt s.
          let ge = least k s in
          let is : k ≡ at = omega arith in
          let P : ℕ → Type 0 = λ i. StandsAt true c.args.text.now c.args.bytes.now i in
          let t : true ≡ false = sym (c.stands_folded.ensures.1 (subst P is s)) ∙ c.if-stands_folded.false in
          absurd (cc),
    )

pub returns : goal.returns
returns c = λ k s.
    let b = get_or c.args.text.now c.args.rare 0 in
    let none : Nowhere (Passes (is_byte2 (to_ascii_lowercase b) (to_ascii_uppercase b)) (drop (c.loop-n.from + c.args.rare) c.args.bytes.now)) 0 (length (drop (c.loop-n.from + c.args.rare) c.args.bytes.now))
    = rw (← c.to_ascii_lowercase-lower.ensures.value, ← c.to_ascii_uppercase-upper.ensures.value, ← c.after.ensures) c.in_default.ensures in
    let ge = least_place c.args.bytes.now c.args.text.now c.args.rare b c.loop-n.from (length (drop (c.loop-n.from + c.args.rare) c.args.bytes.now)) c.requires refl none c.loop-n.invariant.1 k s in
    omega (arith, c.requires, s.0, c.loop-n.invariant.0, length-drop (c.loop-n.from + c.args.rare) c.args.bytes.now)
