use Rattle.std.proofs.Common.{◌≡◌, ◌++◌, drop}
use Rattle.course_texts.specs.Waits.{side_lines}
use Rattle.course_texts.proofs.waits.push_sides.Given as goal

abbrev pub invariant-loop-place : goal.invariant-loop-place
invariant-loop-place l =
    l.text ++ side_lines l.secrets l.session.dialogue.own.children l.entries (drop l.place-index l.sides)
    ≡ l.initial.text ++ side_lines l.secrets l.session.dialogue.own.children l.entries l.sides
