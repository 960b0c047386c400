-- The scope of a call. Binding a name in it leaves all other scopes unchanged.
use Rattle.std.specs.Prelude.{◌≡◌, ◌<◌, List, [], ◌∷◌, length, drop, Some}
use Rattle.tcl_subst.specs.Slots.{Scope, here, leads}
use Rattle.tcl_subst.specs.Variables.{Variables}

-- No name is a link.
abbrev pub HasNoLink : Scope → Type 0
HasNoLink [] = Unit {0}
HasNoLink (e ∷ es) = (leads (Some e.1) ≡ here) × HasNoLink es

-- There is an innermost scope, and none of its names is a link.
abbrev pub IsOwn : List Scope → Type 0
IsOwn [] = ⊥
IsOwn (scope ∷ outer) = HasNoLink scope

-- Only the innermost scope changed, and it still contains no link.
pub record KeepsOuter (old new : Variables) : Type 0 where
  pub own : IsOwn new.locals
  pub some : 0 < length new.locals
  pub globals : new.globals ≡ old.globals
  pub outer : drop 1 new.locals ≡ drop 1 old.locals
