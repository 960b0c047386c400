-- What is written of what expects meet.
use Rattle.std.proofs.Common.{◌≡◌, ℕ, false, List, [], ◌∷◌, ◌++◌, length, drop, refl, ap, subst, ◌∙◌, append_assoc}
use Rattle.expect_core.specs.declared.request.Request.{Request}
use Rattle.session.specs.Watching.{Meeting, SeesAll}
use Rattle.secret_words.specs.declared.secrets.Secret.{Secret}
use Rattle.course_texts.specs.declared.meetings.Teller.{Teller}
use Rattle.course_texts.specs.Meetings.{meeting_text, course_text, Writes}
use Rattle.course_texts.specs.Waits.{request_lines}

-- all that a teller saw stands behind what it had, and behind that what was asked for
pub writes_all : (ss : List Secret) (met : List Meeting) (a b : Teller) (asked : List Request) → SeesAll Writes met a b → b.refused ≡ false → a.secrets ≡ ss
    → (a.refused ≡ false) × (b.text ++ request_lines ss (drop b.told asked) ≡ a.text ++ course_text ss a.told met asked)
writes_all ss [] a b asked same well its =
    subst (λ (t : Teller). (t.refused ≡ false) × (b.text ++ request_lines ss (drop b.told asked) ≡ t.text ++ request_lines ss (drop t.told asked))) same (well, refl)
writes_all ss (m ∷ ms) a b asked (mid, first, rest) well its =
    let behind = writes_all ss ms mid b asked rest well (first.0 ∙ its) in
    let written = first.1 behind.0 in
    let now : List ℕ = meeting_text ss a.told m.plan m.vars m.asked in (
      written.0,
      behind.1
          ∙ ap (λ (t : List ℕ). t ++ course_text ss mid.told ms asked) (written.1 ∙ ap (λ (all : List Secret). a.text ++ meeting_text all a.told m.plan m.vars m.asked) its)
          ∙ ap (λ (n : ℕ). (a.text ++ now) ++ course_text ss n ms asked) written.2
          ∙ append_assoc a.text now (course_text ss (length m.asked) ms asked),
    )
