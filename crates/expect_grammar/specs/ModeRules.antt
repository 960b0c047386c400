-- The words of `stty_init`, as in stty(1), rule by rule.
use Rattle.std.specs.Prelude.{◌≡◌, ℕ, ◌-◌, Bool, true, false, not, List, [], ◌∷◌, length, Some, None, ℤ, codes}
use Rattle.tcl_words.specs.Bytes.{minus}
use Rattle.tcl_expr.specs.Number.{number_of}
use Rattle.tty.specs.declared.modes.Modes.{Modes}

-- The initial modes of a terminal: all on.
abbrev pub all_on : Modes
all_on = record { icanon = true; echo = true; icrnl = true; opost = true; onlcr = true }

-- `Switches name on before behind`: the name sets modes, or with `false` clears them.
pub data Switches : List ℕ → Bool → Modes → Modes → Type 0 where
  -- Input is handed over line by line.
  icanon : (on : Bool) (m : Modes) → Switches (codes "icanon") on m (record m { icanon = on })
  -- Input is echoed.
  echo : (on : Bool) (m : Modes) → Switches (codes "echo") on m (record m { echo = on })
  -- A carriage return in the input becomes a newline.
  icrnl : (on : Bool) (m : Modes) → Switches (codes "icrnl") on m (record m { icrnl = on })
  -- Output is mapped.
  opost : (on : Bool) (m : Modes) → Switches (codes "opost") on m (record m { opost = on })
  -- A newline in the output becomes a carriage return and a newline.
  onlcr : (on : Bool) (m : Modes) → Switches (codes "onlcr") on m (record m { onlcr = on })
  -- `raw` clears what `-raw` sets.
  raw : (on : Bool) (m : Modes) → Switches (codes "raw") on m (record m { icanon = not on; icrnl = not on; opost = not on })

-- `Sets word before behind`: the effect of a single word.
pub data Sets : List ℕ → Modes → Modes → Type 0 where
  -- A name sets.
  on : (name : List ℕ) (m n : Modes) → Switches name true m n → Sets name m n
  -- A name with a minus before it clears.
  off : (name : List ℕ) (m n : Modes) → Switches name false m n → Sets (minus ∷ name) m n
  -- The same as `-raw`.
  cooked : (m : Modes) → Sets (codes "cooked") m (record m { icanon = true; icrnl = true; opost = true })
  -- All modes on.
  sane : (m : Modes) → Sets (codes "sane") m all_on

-- A word for a size. A number must follow.
pub data IsSize : List ℕ → Type 0 where
  -- The number of lines of the terminal.
  rows : IsSize (codes "rows")
  -- The number of columns, by either name.
  cols : IsSize (codes "cols")
  columns : IsSize (codes "columns")

-- `Leave words before behind`: the words, applied from left to right, change the modes `before` to `behind`.
pub data Leave : List (List ℕ) → Modes → Modes → Type 0 where
  -- No further word.
  end : (m : Modes) → Leave [] m m
  -- A single word.
  mode : (word : List ℕ) (rest : List (List ℕ)) (m n o : Modes) → Sets word m n → Leave rest n o → Leave (word ∷ rest) m o
  -- A size and its number, which change nothing.
  size : (word number : List ℕ) (rest : List (List ℕ)) (v : ℤ) (m o : Modes) → IsSize word → number_of number ≡ Some v → Leave rest m o
      → Leave (word ∷ number ∷ rest) m o

-- The index of the word that begins the rest.
abbrev pub index : List (List ℕ) → List (List ℕ) → ℕ
index all rest = length all - length rest

-- `BadWord all words at`: the words before `words` are correct, and the first bad one has index `at`.
pub data BadWord (all : List (List ℕ)) : List (List ℕ) → ℕ → Type 0 where
  -- A word that is none of these.
  unknown : (word : List ℕ) (rest : List (List ℕ)) → ¬ IsSize word → ((m n : Modes) → ¬ Sets word m n) → BadWord all (word ∷ rest) (index all (word ∷ rest))
  -- A size with no word after it.
  last : (word : List ℕ) → IsSize word → BadWord all (word ∷ []) (index all (word ∷ []))
  -- A size with no number after it.
  no_number : (word other : List ℕ) (rest : List (List ℕ)) → IsSize word → number_of other ≡ None
      → BadWord all (word ∷ other ∷ rest) (index all (word ∷ other ∷ rest))
  -- The bad word follows a single word.
  mode : (word : List ℕ) (rest : List (List ℕ)) (m n : Modes) (at : ℕ) → Sets word m n → BadWord all rest at → BadWord all (word ∷ rest) at
  -- The bad word follows a size and its number.
  size : (word number : List ℕ) (rest : List (List ℕ)) (v : ℤ) (at : ℕ) → IsSize word → number_of number ≡ Some v → BadWord all rest at
      → BadWord all (word ∷ number ∷ rest) at

-- A terminal with these words set has these modes.
abbrev pub SetModes : List (List ℕ) → Modes → Type 0
SetModes words m = Leave words all_on m

-- The first bad word has this index.
abbrev pub FirstBad : List (List ℕ) → ℕ → Type 0
FirstBad words at = BadWord words words at
