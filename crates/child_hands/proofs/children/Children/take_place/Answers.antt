use Rattle.std.proofs.Common.{◌≡◌, ◌∙◌, sym, ap, rules, length, Some, vec_len, set}
use Rattle.std.specs.List.{slice_get}
use Rattle.std.proofs.lemmas.List.{set-get_or}
use Rattle.std.proofs.lemmas.Option.{slice_get_read}
use Rattle.child_hands.specs.declared.work.Work.TheVariants.{Free, Ended}
use Rattle.child_hands.proofs.children.Children.take_place.Goals as goal

pub returns-in-Ended-clause-works : goal.returns-in-Ended-clause-works
returns-in-Ended-clause-works g c =
    let works = c.args.self.now.works.items in
    let index = c.args.index in
    let old = c.index_mut-slot.result.now in
    let here = c.index_mut-slot.ensures.value in
    let size : vec_len c.args.self.now.works ≡ length works = search rules in
    let was : old ≡ Ended c.in-Ended.finished = sym c.replace.ensures.value ∙ c.in-Ended.is in
    let again : c.replace-in-Ended.new.dest ≡ old = c.replace-in-Ended.ensures.after ∙ sym was in
    let read : slice_get works index ≡ Some old = slice_get_read works _ index old size c.requires here in (
      ap (λ x. set works index x) (again ∙ here) ∙ set-get_or works index old,
      λ fresh is. let clash : Some (Free fresh) ≡ Some (Ended c.in-Ended.finished) = sym is ∙ (read ∙ ap Some was) in cc,
    )
