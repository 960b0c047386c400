-- The name of a file that isn't complete yet.
use Rattle.std.specs.Prelude.{ℕ, List, ◌++◌, codes}

abbrev pub part_of : List ℕ → List ℕ
part_of name = name ++ codes ".part"
