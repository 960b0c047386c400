-- A text that can't be parsed.
use Rattle.std.proofs.Common.{◌≡◌, ◌≢◌, Result, Err, refl, ap}
use Rattle.tcl_words.specs.declared.faults.WordFault.{WordFault}
use Rattle.tcl_words.specs.declared.faults.WordFault.TheVariants as faults
use Rattle.tcl_words.specs.Pieces.{Pieces}
use Rattle.tcl_words.specs.Commands.{Fails}
use Rattle.tcl_subst.specs.Variables.{Variables}
use Rattle.tcl_results.specs.Texts.{word_fault}
use Rattle.tcl_commands.specs.Substituted.{parts_said}

pub fails_said : (f : WordFault) (read : Result Pieces WordFault) (vars : Variables) → f ≢ faults.Memory → Fails f read → parts_said read vars ≡ Err (word_fault f)
fails_said faults.Memory read vars known is = absurd (known refl)
fails_said f read vars known is = ap (λ (r : Result Pieces WordFault). parts_said r vars) is
