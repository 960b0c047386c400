-- Joining what was read, where want of memory says nothing.
use Rattle.std.proofs.Common.{◌≡◌, ℕ, List, Result, Ok, Err, refl, sym, subst}
use Rattle.tcl_subst.specs.declared.faults.SubstFault.{SubstFault}
use Rattle.tcl_subst.specs.declared.faults.SubstFault.TheVariants.{NoVariable, IsArray, NotArray, TooLong, Memory, Exists, BadList}
use Rattle.tcl_subst.specs.declared.joined.Joined.{Joined}
use Rattle.tcl_subst.specs.declared.joined.Refusal.{Refusal}
use Rattle.tcl_subst.specs.declared.joined.Refusal.TheVariants as refusal
use Rattle.tcl_subst.specs.Faults.{Gives}
use Rattle.tcl_subst.specs.Recipes.{Takes, joined_if_read}

along : {Y : Type 0} (r : Result Y Refusal) (read meant : Result (List ℕ) SubstFault) (name : List ℕ) (old new : Joined) → meant ≡ read → Takes r (joined_if_read read name old) new → Takes r (joined_if_read meant name old) new
along r read meant name old new same is = subst (λ m. Takes r (joined_if_read m name old) new) (sym same) is

pub joined_as_meant : {Y : Type 0} (r : Result Y Refusal) (read meant : Result (List ℕ) SubstFault) (name : List ℕ) (old new : Joined) → Gives read meant → (read ≡ Err Memory → r ≡ Err refusal.Memory)
    → Takes r (joined_if_read read name old) new → Takes r (joined_if_read meant name old) new
joined_as_meant r (Ok value) meant name old new gave memory is = along r _ meant name old new gave is
joined_as_meant r (Err NoVariable) meant name old new gave memory is = along r _ meant name old new (gave (λ e. cc)) is
joined_as_meant r (Err IsArray) meant name old new gave memory is = along r _ meant name old new (gave (λ e. cc)) is
joined_as_meant r (Err NotArray) meant name old new gave memory is = along r _ meant name old new (gave (λ e. cc)) is
joined_as_meant r (Err TooLong) meant name old new gave memory is = along r _ meant name old new (gave (λ e. cc)) is
joined_as_meant r (Err Memory) meant name old new gave memory is = subst (λ x. Takes x (joined_if_read meant name old) new) (sym (memory refl)) (λ none. absurd (none refl))
joined_as_meant r (Err Exists) meant name old new gave memory is = along r _ meant name old new (gave (λ e. cc)) is
joined_as_meant r (Err BadList) meant name old new gave memory is = along r _ meant name old new (gave (λ e. cc)) is
