-- Arguments are counted behind the flags.
use Rattle.std.proofs.Common.{◌≡◌, ℕ, ◌-◌, List, length, drop, Bool, true, false, Ok, Err, sym, ap, ◌∙◌}
use Rattle.std.proofs.lemmas.List.{length-drop}
use Rattle.std.specs.Prelude.{if◌then◌else◌}
use Rattle.command_table.specs.declared.commands.ExpectCommand.{ExpectCommand}
use Rattle.command_table.specs.declared.rows.Row.{Row}
use Rattle.command_table.specs.Counts.{fits}
use Rattle.command_table.specs.Rows.{expect_row}
use Rattle.tcl_results.specs.Said.{◌>>=◌}
use Rattle.tcl_results.specs.Texts.{wrong_args}
use Rattle.expect_core.specs.declared.flags.Flags.{Flags}
use Rattle.expect_core.specs.Flags.{Flagged, flags_if, arguments}

abbrev by_count : List ℕ → List (List ℕ) → Flags → Bool → Flagged
by_count name words f b = if b then Ok (f, words) else Err (wrong_args name)

-- with a wrong number of them behind its flags, a command tells so
pub wrong_count : (c : ExpectCommand) (name text : List ℕ) (words : List (List ℕ)) (f : Flags) (at : ℕ) (row : Row) → row ≡ expect_row c
    → flags_if row.flags name words ≡ Ok (f, drop at words) → fits row.count (length words - at) ≡ false → text ≡ wrong_args name → arguments c name words ≡ Err text
wrong_count c name text words f at row is read unfit told =
    ap (λ (r : Row). flags_if r.flags name words >>= λ f. by_count name f.1 f.0 (fits r.count (length f.1))) (sym is)
    ∙ ap (λ (r : Flagged). r >>= λ f. by_count name f.1 f.0 (fits row.count (length f.1))) read
    ∙ ap (λ (n : ℕ). by_count name (drop at words) f (fits row.count n)) (length-drop at words)
    ∙ ap (by_count name (drop at words) f) unfit
    ∙ ap (λ (t : List ℕ). let r : Flagged = Err t in r) (sym told)

-- with a right number, it has them
pub right_count : (c : ExpectCommand) (name : List ℕ) (words : List (List ℕ)) (f : Flags) (at : ℕ) (row : Row) → row ≡ expect_row c
    → flags_if row.flags name words ≡ Ok (f, drop at words) → fits row.count (length words - at) ≡ true → arguments c name words ≡ Ok (f, drop at words)
right_count c name words f at row is read fit =
    ap (λ (r : Row). flags_if r.flags name words >>= λ f. by_count name f.1 f.0 (fits r.count (length f.1))) (sym is)
    ∙ ap (λ (r : Flagged). r >>= λ f. by_count name f.1 f.0 (fits row.count (length f.1))) read
    ∙ ap (λ (n : ℕ). by_count name (drop at words) f (fits row.count n)) (length-drop at words)
    ∙ ap (by_count name (drop at words) f) fit
