use Rattle.std.proofs.Common.{rules, ◌≡◌, ◌<◌, length, Some, refl, subst, List, ℕ}
use Rattle.std.specs.List.{slice_get}
use Rattle.std.proofs.lemmas.Option.{slice_get_read}
use Rattle.exp_match.specs.Unbuilt.{IsOfOne, IsOfWord}
use Rattle.exp_match.proofs.Unbuilding.{tells_of_one}
use Rattle.exp_match.proofs.arguments.read.Goals as goal

pub returns-in_err-reader-clause-refused : goal.returns-in_err-reader-clause-refused
returns-in_err-reader-clause-refused c =
    let within : c.loop-at.at < length c.args.args.now = search rules in
    let there : slice_get c.args.args.now c.loop-at.at ≡ Some c.index-args-at.result =
    slice_get_read c.args.args.now (length c.args.args.now) c.loop-at.at c.index-args-at.result refl within c.index-args-at.is in
    let of : IsOfWord c.index-args-at.result c.in_err-reader.field-0.0 =
    subst (λ (word : List ℕ). IsOfWord word c.in_err-reader.field-0.0) c.as_slice.ensures c.in_err-reader.ensures.refused in
    let told : IsOfOne c.args.args.now c.in_err-reader.field-0.0 =
    tells_of_one c.args.args.now c.loop-at.at c.index-args-at.result c.in_err-reader.field-0.0 there of in
    search (rules, told)
