-- What a send to a line that is edited comes to.
use Rattle.std.proofs.Common.{◌≡◌, ℕ, Bool, true, cond, List, [], ◌++◌, sym, ap, ◌∙◌}
use Rattle.tty.specs.declared.modes.Modes.{Modes}
use Rattle.tty.specs.declared.action.Action.{Action}
use Rattle.tty.specs.declared.given.Given.{Given}
use Rattle.tty.specs.Segments.{segments}
use Rattle.tty.specs.Handed.{Handed, received, at_once, handed_lines, handed}
use Rattle.tty.specs.Echo.{echo_behind, echo_text}
use Rattle.tty.specs.Buffer.{run}
use Rattle.tty.specs.Sends.{Waits, all_plain}
use Rattle.tty.proofs.Cuts.{made}
use Rattle.tty.proofs.Buffers.{given, heard, state}
use Rattle.tty.proofs.Plain.{buffer_sent, sent_plain}

abbrev pub waits : Modes → List ℕ → Bool → Waits
waits m w e = record { modes = m; waiting = w; ended = e }

pub record IsSent (m : Modes) (w : List ℕ) (e : Bool) (x left : List ℕ) (g : Given) : Type 0 where
  pub echo : g.echo ≡ echo_text m w x
  pub actions : g.actions ≡ (handed m w e x).actions
  pub line : waits m left g.ended ≡ waits m (handed m w e x).waiting (handed m w e x).ended
  pub plain : all_plain left ≡ true

pub lines_handed : (m : Modes) (w : List ℕ) (e : Bool) (x : List ℕ) → m.icanon ≡ true → handed_lines e (segments (w ++ received m x)) ≡ handed m w e x
lines_handed m w e x edits = sym (ap (λ (c : Bool). cond c (handed_lines e (segments (w ++ received m x))) (made (at_once (received m x)) w e)) edits)

pub echo_heard : (m : Modes) (w x : List ℕ) → m.icanon ≡ true → heard m.echo w (received m x) ≡ echo_text m w x
echo_heard m w x edits = sym (ap (λ (c : Bool). cond m.echo (cond c (echo_behind w (received m x)) (received m x)) []) edits)

pub is_sent : (m : Modes) (w : List ℕ) (e : Bool) (x left : List ℕ) (g : Given) → m.icanon ≡ true → all_plain w ≡ true
    → (left, g) ≡ run m.echo (received m x) w (given [] e []) → IsSent m w e x left g
is_sent m w e x left g edits plain ran =
    let is : (left, g) ≡ state (handed m w e x) (heard m.echo w (received m x)) =
    ran ∙ buffer_sent m.echo e w (received m x) plain ∙ ap (λ (h : Handed). state h (heard m.echo w (received m x))) (lines_handed m w e x edits) in
    record {
      echo = ap (λ (p : List ℕ × Given). p.1.echo) is ∙ echo_heard m w x edits;
      actions = ap (λ (p : List ℕ × Given). p.1.actions) is;
      line = ap (λ (p : List ℕ × Given). waits m p.0 p.1.ended) is;
      plain = ap (λ (p : List ℕ × Given). all_plain p.0) is ∙ ap (λ (h : Handed). all_plain h.waiting) (sym (lines_handed m w e x edits)) ∙ sent_plain e w (received m x) plain;
    }

abbrev pub pair : List ℕ → List Action → List ℕ × List Action
pair a b = (a, b)

pub both : (a a' : List ℕ) (b b' : List Action) → a ≡ a' → b ≡ b' → pair a b ≡ pair a' b'
both a a' b b' p q = ap (λ (z : List ℕ). pair z b) p ∙ ap (pair a') q
