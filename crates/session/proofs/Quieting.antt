-- Up to its deadline a session says the same.
use Rattle.std.proofs.Common.{◌≡◌, ℕ, Bool, Option, None, refl, ap, subst, ◌∙◌}
use Rattle.std.specs.Prelude.{IsTrue, if◌then◌else◌, is_some}
use Rattle.tcl_eval.specs.declared.frame.End.{End}
use Rattle.tcl_eval.specs.declared.frame.Mode.{Mode}
use Rattle.tcl_eval.specs.Suspended.{end_of}
use Rattle.expect_core.specs.declared.dialogue.Dialogue.{Dialogue}
use Rattle.expect_core.specs.Deadlines.{IsWithin, deadline_of}
use Rattle.session.specs.declared.session.Session.TheInside.{Inside}
use Rattle.session.specs.Left.{left}
use Rattle.session.specs.Play.{told}
use Rattle.session.specs.Quiet.{deadline_in, waits_until, QuietUntil}
use Rattle.session.specs.Sound.{Sound, kept_of}

while_suspended : (mode : Mode) (st : Dialogue) → end_of mode ≡ None → deadline_in mode st ≡ deadline_of st
while_suspended mode st none = ap (λ (end : Option End). if is_some end then None else deadline_of st) none

while_it_lives : (a : Inside) → IsTrue a.lives → waits_until (kept_of a) ≡ deadline_in a.machine.mode a.dialogue
while_it_lives a lives = ap (λ (b : Bool). let last : Option ℕ = (if b then deadline_in a.machine.mode a.dialogue else None) in last) lives

pub waits_as_long : (a : Inside) → IsTrue a.lives → end_of a.machine.mode ≡ None → waits_until (kept_of a) ≡ deadline_of a.dialogue
waits_as_long a lives none = while_it_lives a lives ∙ while_suspended a.machine.mode a.dialogue none

pub stays_quiet : (a : Inside) (last : Option ℕ) → Sound a → IsTrue a.lives → last ≡ waits_until (kept_of a) → QuietUntil (kept_of a) last
unfolding left
stays_quiet a last sound lives is = λ m le. ap (told a.tells_vars) ((sound.quiet lives).tick a.bound m (subst (IsWithin m) (is ∙ while_it_lives a lives) le))
