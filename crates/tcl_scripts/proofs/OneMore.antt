-- One command more.
use Rattle.std.proofs.Common.{◌≡◌, ℕ, zero, suc, ◌+◌, ◌≤◌, ◌<◌, List, [], ◌∷◌, ◌++◌, length, Option, Some, None, Result, Ok, Err, ap, sym, ◌∙◌, arith, append_assoc, append-nil, refl, option_map}
use Rattle.tcl_words.specs.declared.faults.WordFault.{WordFault}
use Rattle.tcl_words.specs.Commands.{next_command}
use Rattle.tcl_words.specs.declared.shapes.Command.{Command as Cmd}
use Rattle.tcl_words.specs.Pieces.{Spelled, command_view}
use Rattle.tcl_scripts.specs.declared.script.Reading.{Reading}
use Rattle.tcl_scripts.specs.declared.script.Reading.TheVariants.{Command, Malformed}
use Rattle.tcl_scripts.specs.Commands.{and_more, commands_within, commands}

module _ (read all : List Reading) (source : List ℕ) (at : ℕ) where
  on : (n : ℕ) → at ≤ length source → length source < n + at → all ≡ read ++ commands_within n source at → (r : Result (Option (List Spelled × ℕ)) WordFault) → next_command source at ≡ r → (m : ℕ) × (n ≡ suc m) × (all ≡ read ++ and_more at r (λ next. commands_within m source next))
  on zero w l e r q = absurd (omega arith)
  on (suc m) w l e r q = (m, refl, e ∙ ap (λ (r : Result (Option (List Spelled × ℕ)) WordFault). read ++ and_more at r (λ next. commands_within m source next)) q)

  pub one_more : (n : ℕ) → at ≤ length source → length source < n + at → all ≡ read ++ commands_within n source at → (words : List Spelled) (to : ℕ) → next_command source at ≡ Ok (Some (words, to)) → at < to → (m : ℕ) × (length source < m + to) × (all ≡ (read ++ Command at words ∷ []) ++ commands_within m source to)
  one_more n w l e words to q lt =
      let o = on n w l e _ q in
      let s : n ≡ suc o.0 = o.1 in
      (o.0, omega arith, o.2 ∙ sym (append_assoc read (Command at words ∷ []) (commands_within o.0 source to)))

  pub no_more : (n : ℕ) → at ≤ length source → length source < n + at → all ≡ read ++ commands_within n source at → next_command source at ≡ Ok None → all ≡ read
  no_more n w l e q = let o = on n w l e _ q in o.2 ∙ append-nil read

  pub malformed : (n : ℕ) → at ≤ length source → length source < n + at → all ≡ read ++ commands_within n source at → (f : WordFault) → next_command source at ≡ Err f → all ≡ read ++ Malformed at f ∷ []
  malformed n w l e f q = let o = on n w l e _ q in o.2

-- the bound at the start
pub first : (source : List ℕ) → (n : ℕ) × (0 ≤ length source) × (length source < n + 0) × (commands source ≡ [] ++ commands_within n source 0)
unfolding commands
first source = (suc (length source), omega arith, omega arith, refl)

-- a command that was read, as its words
abbrev pub viewed : Option (Cmd × ℕ) → Result (Option (List Spelled × ℕ)) WordFault
viewed o = Ok (option_map (λ (x : Cmd × ℕ). (command_view x.0, x.1)) o)
