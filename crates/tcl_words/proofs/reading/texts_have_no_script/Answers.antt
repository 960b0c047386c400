use Rattle.tcl_words.proofs.Unscripted.{text_free}
use Rattle.tcl_words.proofs.reading.texts_have_no_script.Goals as goal

pub returns : goal.returns
returns c = text_free
