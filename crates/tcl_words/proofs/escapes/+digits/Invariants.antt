use Rattle.tcl_words.proofs.escapes.+digits.Given as goal

abbrev pub decreases-digits : goal.decreases-digits
decreases-digits l = l.most
