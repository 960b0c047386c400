-- How the result of a call relates to its meaning. If memory is refused, nothing is claimed.
use Rattle.std.specs.Prelude.{◌≡◌, ◌≢◌, ℕ, List, [], Result, Ok, Err}
use Rattle.tcl_results.specs.declared.complaint.Complaint.{Complaint}
use Rattle.tcl_results.specs.declared.complaint.Complaint.TheVariants.{Memory, Said}
use Rattle.tcl_results.specs.Said.{Said as Meant}

-- The text of an error.
abbrev pub text_of : Complaint → List ℕ
text_of Memory = []
text_of (Said text) = text

-- The error has this text.
abbrev pub Complains : Complaint → List ℕ → Type 0
Complains c text = c ≢ Memory → text_of c ≡ text

-- The call returned the meaning: a value or the text of an error.
abbrev pub Says : {X : Type 0} → Result X Complaint → Meant X → Type 0
Says (Ok x) meant = meant ≡ Ok x
Says (Err c) meant = c ≢ Memory → meant ≡ Err (text_of c)

-- The call produced the new state that is meant, or returned the text of the meant error.
abbrev pub Binds : {X Y : Type 0} → Result Y Complaint → Meant X → X → Type 0
Binds (Ok y) meant new = meant ≡ Ok new
Binds (Err c) meant new = c ≢ Memory → meant ≡ Err (text_of c)
