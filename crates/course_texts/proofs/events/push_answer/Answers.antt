use Rattle.std.proofs.Common.{◌≡◌, ◌++◌, List, ℕ, OnOk, codes, sym, subst}
use Rattle.child_events.specs.declared.event.Answer.{Answer}
use Rattle.course_texts.specs.Show.{answer_text}
use Rattle.course_texts.proofs.events.push_answer.Goals as goal

pub returns-in-Fail : goal.returns-in-Fail
returns-in-Fail c =
    let told = subst (λ (word : List ℕ). OnOk c.push_word.result (c.push_word.new.text ≡ c.args.text.now ++ (codes "request failed: " ++ word))) c.cause_name.ensures c.push_word.ensures in
    subst (λ (a : Answer). OnOk c.push_word.result (c.push_word.new.text ≡ c.args.text.now ++ answer_text a)) (sym c.in-Fail.is) told
