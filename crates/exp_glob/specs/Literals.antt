-- Literals: bytes that each match of a run contains.
use Rattle.std.specs.Prelude.{◌≡◌, ℕ, zero, suc, ◌+◌, ◌<◌, Bool, ◌&&◌, if◌then◌else◌, List, [], ◌∷◌, length, slice_index, Option, Some, None, MatchOption}
use Rattle.std.specs.Char.{is_ascii_alphabetic}
use Rattle.exp_glob.specs.declared.element.Element.{Element}
use Rattle.exp_glob.specs.declared.element.Element.TheVariants.{Star, One, End}
use Rattle.exp_glob.specs.declared.element.Single.{Single}
use Rattle.exp_glob.specs.declared.element.Single.TheVariants.{Any, Byte, Class}
use Rattle.exp_glob.specs.declared.literal.Literal.{Literal}
use Rattle.exp_glob.specs.Stars.{behind_star}

-- The only byte that the element matches, or `None`. Without case, a letter has two bytes.
abbrev pub only_byte : Bool → Single → Option ℕ
only_byte nocase Any = None
only_byte nocase (Byte b) = if nocase && is_ascii_alphabetic b then None else Some b
only_byte nocase (Class members) = None

-- The only byte at distance j from the start of each match of the first run, or `None`.
abbrev pub byte_at : Bool → List Element → ℕ → Option ℕ
byte_at nocase [] j = None
byte_at nocase (Star ∷ es) j = None
byte_at nocase (End ∷ es) j = None
byte_at nocase (One single ∷ es) zero = only_byte nocase single
byte_at nocase (One single ∷ es) (suc j) = byte_at nocase es j

-- Each match of the first run contains these bytes, `offset` bytes after its start.
abbrev pub IsLiteral : Bool → List Element → ℕ → List ℕ → Type 0
IsLiteral nocase es offset bytes = (j : ℕ) → j < length bytes → byte_at nocase es (offset + j) ≡ Some (slice_index bytes j)

-- One literal per run, from the first run on. The last runs may have none.
abbrev pub AreLiterals : Bool → List Element → List Literal → Type 0
AreLiterals nocase es [] = Unit {0}
AreLiterals nocase es (l ∷ ls) =
    IsLiteral nocase es l.offset l.bytes.items × MatchOption (behind_star es) (ls ≡ []) (λ more. AreLiterals nocase more ls)
