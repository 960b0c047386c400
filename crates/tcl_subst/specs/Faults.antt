-- Errors of variables, and how the result of a call relates to its meaning.
use Rattle.std.specs.Prelude.{◌≡◌, ◌≢◌, ℕ, Bool, nat_lt, Result, Ok, Err, IsOk, if◌then◌else◌}
use Rattle.tcl_words.specs.declared.faults.ListFault.{ListFault}
use Rattle.tcl_words.specs.declared.faults.ListFault.TheVariants as list
use Rattle.tcl_values.specs.declared.faults.GrowFault.{GrowFault}
use Rattle.tcl_values.specs.declared.faults.GrowFault.TheVariants as grow
use Rattle.tcl_subst.specs.declared.faults.SubstFault.{SubstFault}
use Rattle.tcl_subst.specs.declared.faults.SubstFault.TheVariants.{TooLong, Memory, BadList}

abbrev pub of_list_fault : ListFault → SubstFault
of_list_fault list.BadList = BadList
of_list_fault list.Memory = Memory

abbrev pub of_grow_fault : GrowFault → SubstFault
of_grow_fault grow.BadList = BadList
of_grow_fault grow.TooLong = TooLong
of_grow_fault grow.Memory = Memory

-- The call returned the meaning: a value or an error. If memory is refused, nothing is claimed.
abbrev pub Gives : {X : Type 0} → Result X SubstFault → Result X SubstFault → Type 0
Gives (Ok x) meant = meant ≡ Ok x
Gives (Err f) meant = f ≢ Memory → meant ≡ Err f

-- The call changed the old state to the new one that is meant, or returned the meant error and changed nothing.
abbrev pub Changes : {X Y : Type 0} → Result Y SubstFault → Result X SubstFault → X → X → Type 0
Changes (Ok y) meant old new = meant ≡ Ok new
Changes (Err f) meant old new = (new ≡ old) × (f ≢ Memory → meant ≡ Err f)

-- The call succeeded if a value is meant, and otherwise returned the meant error. If memory is refused, nothing is
-- claimed.
abbrev pub Tells : {X Y : Type 0} → Result Y SubstFault → Result X SubstFault → Type 0
Tells (Ok y) meant = IsOk meant
Tells (Err f) meant = f ≢ Memory → meant ≡ Err f

-- The most bytes in a value.
unfoldable pub limit : ℕ
limit = 1048576

unfoldable pub is_too_long : ℕ → Bool
is_too_long n = nat_lt 1048576 n

-- x, if a value may have n bytes.
abbrev pub fitting : {X : Type 0} → ℕ → X → Result X SubstFault
fitting n x = if is_too_long n then Err TooLong else Ok x
