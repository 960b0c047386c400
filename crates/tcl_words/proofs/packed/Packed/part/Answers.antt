use Rattle.std.proofs.Common.{◌≡◌, ◌<◌, ◌++◌, ◌∷◌, [], ℕ, List, length, take, drop, Some, sym, ap, ◌∙◌, arith}
use Rattle.std.proofs.lemmas.List.{drop-append-le, length-take-le}
use Rattle.std.proofs.lemmas.Option.{slice_get_within}
use Rattle.std.specs.Prelude.{slice_get}
use Rattle.tcl_words.proofs.Packing.{one_more}
use Rattle.tcl_words.proofs.packed.Packed.part.Goals as goal

pub loop-at-preserved : goal.loop-at-preserved
loop-at-preserved c =
    let all : List (List ℕ) = c.args.self.now in
    let at = c.loop-at.at in
    let text = c.in-Some.text.now in
    let here : slice_get all at ≡ Some text = sym c.in-Some.ensures in
    let within : at < length all = slice_get_within all at text here in
    let from = c.loop-at.invariant.0 in
    let long = length-take-le at all (omega (arith, within)) in (
      omega (arith, from),
      omega (arith, c.loop-at-test.true, c.loop-at.invariant.1),
      c.in_ok-push.ensures.pushed
          ∙ ap (λ (ts : List (List ℕ)). ts ++ text ∷ []) c.loop-at.invariant.2
          ∙ sym (drop-append-le c.args.from (take at all) (text ∷ []) (omega (arith, from, long)))
          ∙ ap (drop c.args.from) (one_more all at text here),
    )
