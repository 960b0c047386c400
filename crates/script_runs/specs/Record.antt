-- What is kept of a record.
use Rattle.std.specs.Prelude.{◌≡◌, ℕ, List, ◌++◌, take, Option, Some, None, Result, Ok, Err}

-- Bytes are appended to those that are kept, or from now on nothing is kept.
abbrev pub Keeps : Option (List ℕ) → List ℕ → Option (List ℕ) → Type 0
Keeps None bytes new = new ≡ None
Keeps (Some kept) bytes None = Unit {0}
Keeps (Some kept) bytes (Some kept') = kept' ≡ kept ++ bytes

-- What a write keeps: the bytes that it accepted. A write that fails keeps nothing.
abbrev pub KeepsTaken : {E : Type 0} → Option (List ℕ) → List ℕ → Result ℕ E → Option (List ℕ) → Type 0
KeepsTaken kept bytes (Ok n) kept' = Keeps kept (take n bytes) kept'
KeepsTaken kept bytes (Err e) kept' = kept' ≡ kept

-- The bytes in the file of a record, if there is a file and its bytes are known.
abbrev pub contents_of : {F : Type 0} → (F → Option (List ℕ)) → Option F → Option (List ℕ)
contents_of contents None = None
contents_of contents (Some file) = contents file
