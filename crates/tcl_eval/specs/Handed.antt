-- The words passed to a command.
use Rattle.std.specs.Prelude.{ℕ, List}
use Rattle.tcl_eval.specs.declared.values.Handed.{Handed}
use Rattle.tcl_eval.specs.declared.values.Handed.TheVariants.{Own, Lent}

abbrev pub handed_words : Handed → List (List ℕ)
handed_words (Own values) = values
handed_words (Lent values) = values.now
