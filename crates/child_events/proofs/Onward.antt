-- A log that is judged as it is read.
use Rattle.std.proofs.Common.{◌≡◌, ℕ, ◌+◌, List, [], ◌∷◌, Ok, sym, ap, ◌∙◌}
use Rattle.child_events.specs.declared.event.HallEvent.{HallEvent}
use Rattle.child_events.specs.declared.version.Version.{Version}
use Rattle.child_events.specs.Reading.{parts, line_event, numbers_in, with_line, lines_events}
use Rattle.child_events.specs.Judging.{front_of}
use Rattle.child_events.proofs.Lines.{front_none, line_read, lines_more, parts_some}

module _ (v : Version) (n : ℕ) (rest line behind : List ℕ) (split : parts 10 rest ≡ line ∷ parts 10 behind) where
  -- the next line is an event
  pub next_read : (e : HallEvent) → line_event (numbers_in v) n line ≡ Ok e → lines_events v n (parts 10 rest) ≡ front_of (e ∷ []) (lines_events v (n + 1) (parts 10 behind))
  next_read e read = sym (line_read v [] n rest line behind (lines_events v n (parts 10 rest)) split (front_none (lines_events v n (parts 10 rest))) e read)

  -- whatever it is
  pub next_line : lines_events v n (parts 10 rest) ≡ with_line v n line (line_event (numbers_in v) n line) (parts 10 behind) (lines_events v (n + 1) (parts 10 behind))
  next_line = ap (lines_events v n) split ∙ lines_more v n line (parts 10 behind) (parts_some 10 behind)
