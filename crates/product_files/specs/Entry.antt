-- Names of files that can't be used in one run.
use Rattle.std.specs.Prelude.{◌≡◌, ◌≢◌, ◌<◌, ℕ, ◌⊎◌, Bool, ◌||◌, IsTrue, List, length, Option, Some, None, slice_get}
use Rattle.product_files.specs.declared.entry.Node.{Node}
use Rattle.product_files.specs.declared.entry.Entry.{Entry}

-- Both files exist and are the same file.
abbrev pub SameFile : Option Node → Option Node → Type 0
SameFile None b = ⊥
SameFile (Some a) None = ⊥
SameFile (Some a) (Some b) = (a.device ≡ b.device) × (a.inode ≡ b.inode)

-- Two names with different owners clash if one of them is replaced, and they are the same file, or the same name in one
-- folder.
abbrev pub Clash : Entry → Entry → Type 0
Clash a b = (a.owner ≢ b.owner) × IsTrue (a.is_replaced || b.is_replaced) × (SameFile a.file b.file ⊎ (SameFile a.folder b.folder × (a.name ≡ b.name)))

abbrev pub BothClash : Option Entry → Option Entry → Type 0
BothClash None b = ⊥
BothClash (Some a) None = ⊥
BothClash (Some a) (Some b) = Clash a b

-- The names at two indices clash.
abbrev pub ClashAt : List Entry → ℕ → ℕ → Type 0
ClashAt entries i j = BothClash (slice_get entries i) (slice_get entries j)

-- None of the first n names clashes with the one at index `at`.
abbrev pub NoneBelow : List Entry → ℕ → ℕ → Type 0
NoneBelow entries at n = (i : ℕ) → i < n → ¬ ClashAt entries i at

-- No two of the first n names clash.
abbrev pub NoneBefore : List Entry → ℕ → Type 0
NoneBefore entries n = (i j : ℕ) → i < j → j < n → ¬ ClashAt entries i j

-- The names at i and j clash. No two names before j clash, and no name before i clashes with j.
pub record IsFirstClash (entries : List Entry) (i j : ℕ) : Type 0 where
  pub order : i < j
  pub within : j < length entries
  pub clash : ClashAt entries i j
  pub earlier : NoneBefore entries j
  pub first : NoneBelow entries j i
