-- The first line of version 2 and its last.
use Rattle.std.proofs.Common.{◌≡◌, ℕ, ◌+◌, ◌<◌, List, [], ◌∷◌, length, Bool, true, false, Result, Ok, Err, refl, sym, ap, ◌∙◌, arith}
use Rattle.std.specs.Prelude.{◌==◌, not, if◌then◌else◌}
use Rattle.std.proofs.lemmas.Bool.Decides.{nat_tests}
use Rattle.child_events.specs.declared.faults.LogFault.{LogFault}
use Rattle.child_events.specs.declared.faults.LogFault.TheVariants as fault
use Rattle.child_events.specs.declared.version.Version.{Version}
use Rattle.child_events.specs.Log.{joined}
use Rattle.child_events.specs.Reading.{parts, version_of, version_events, parts_events, log_events, total_of, ◌>>=◌, closed}
use Rattle.child_events.proofs.Lines.{parts_some}
use Rattle.child_events.proofs.Plain.{joined-parts}

pub same_number : (a b : ℕ) → a ≡ b → (a == b) ≡ true
same_number a b same = grind (arith, nat_tests)

-- something behind a total
pub closed_behind : (n seen total : ℕ) (behind : List ℕ) → total ≡ seen → false ≡ (length behind == 0) → Err (fault.Total (n + 1)) ≡ closed n seen total (parts 10 behind)
closed_behind n seen total behind same some =
    sym (
    ap (λ (t : Bool). if not t then Err (fault.Total n) else if not (length (joined 10 (parts 10 behind)) == 0) then Err (fault.Total (n + 1)) else Ok tt) (same_number total seen same)
    ∙ ap (λ (b : List ℕ). if not (length b == 0) then Err (fault.Total (n + 1)) else Ok tt) (joined-parts 10 behind)
    ∙ ap (λ (t : Bool). if not t then Err (fault.Total (n + 1)) else Ok tt) (sym some)
    )

-- fields with others behind them are no total's
pub crowded_no : (n : ℕ) (f : LogFault) (k m : List ℕ) (ws : List (List ℕ)) → 0 < length ws → total_of n f (k ∷ m ∷ ws) ≡ Err f
crowded_no n f k m [] some = absurd (omega arith)
crowded_no n f k m (x ∷ ws) some = refl

-- A first line with others behind it says which version this is.
pub versioned : (bytes line behind : List ℕ) (named : Result Version LogFault) → parts 10 bytes ≡ line ∷ parts 10 behind → version_of line ≡ named → log_events bytes ≡ (named >>= version_events line (parts 10 behind))
versioned bytes line behind named split is =
    ap parts_events split ∙ others (parts 10 behind) (parts_some 10 behind) ∙ ap (λ (r : Result Version LogFault). r >>= version_events line (parts 10 behind)) is
  where
    others : (ws : List (List ℕ)) → 0 < length ws → parts_events (line ∷ ws) ≡ (version_of line >>= version_events line ws)
    others [] some = absurd (omega arith)
    others (w ∷ ws) some = refl
