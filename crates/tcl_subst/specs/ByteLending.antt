-- The entries after one value was lent for a change.
use Rattle.std.specs.Prelude.{ℕ, List, Option}
use Rattle.std.specs.Borrow.{Fml, RattleType, MutBor, LendsIf}
use Rattle.tcl_subst.specs.contracts.byte_names.ByteNames.{the_row}
use Rattle.tcl_subst.specs.Entries.{Entries, changed}

module _ (V : RattleType) where
  -- The written value becomes the value of the name. Everything else is unchanged.
  abbrev pub lends_entry : List ℕ → MutBor (Entries V.Denot) → Option (MutBor V.Denot) → Fml
  lends_entry name n r = LendsIf (the_row V) V n r (λ x. changed name x n.now) n.now
