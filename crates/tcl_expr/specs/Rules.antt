-- The grammar of expressions, as in expr(n), rule by rule. `White` defines white space, `Leaf` the leaves, and `Infix`
-- the operators with their levels. The rules here define how tokens are grouped.
use Rattle.std.specs.Prelude.{◌≡◌, ℕ, suc, false, List, [], ◌∷◌, ◌++◌, length, drop, Some, Ok, codes}
use Rattle.tcl_words.specs.Bytes as ascii
use Rattle.tcl_expr.specs.declared.operators.Prefix.{Prefix}
use Rattle.tcl_expr.specs.declared.operators.Infix.{Infix}
use Rattle.tcl_expr.specs.White.{past}
use Rattle.tcl_expr.specs.Infix.{infix_at, level_of, prefix_at}
use Rattle.tcl_expr.specs.Tree.{Tree, number, unary, choice, joined}
use Rattle.tcl_expr.specs.Leaf.{begins_digit, leaf, lowest}

-- The rank of a phrase. Level 0 is an operand. Level k may contain operators of levels 1 to k between its operands. A
-- whole expression may contain `?:` too.
pub data Rank : Type 0 where
  level : ℕ → Rank
  whole : Rank

-- `Phrase d rank s t r`: the bytes s begin with a phrase of this rank, which is the tree t. r is the rest after it and
-- its white space. Parentheses, prefix operators and branches of `?:` nest at most d deep.
pub data Phrase : ℕ → Rank → List ℕ → Tree → List ℕ → Type 0 where
  -- A number, a word or an operand.
  simple : (d : ℕ) (s r : List ℕ) (t : Tree)
      → leaf (s ++ r) ≡ Ok (t, length s)
      → Phrase d (level 0) (s ++ r) t r
  -- The lowest number. Its `-` is no operator.
  least : (d : ℕ) (r : List ℕ)
      → begins_digit r ≡ false
      → Phrase d (level 0) (codes "-9223372036854775808" ++ r) (number lowest) (past r)
  -- `(`, a whole expression, `)`.
  parens : (d : ℕ) (s r : List ℕ) (t : Tree)
      → Phrase d whole (past s) t (ascii.close_paren ∷ r)
      → Phrase (suc d) (level 0) (ascii.open_paren ∷ s) t (past r)
  -- A prefix operator and a phrase of level 0.
  prefix : (d b : ℕ) (s r : List ℕ) (op : Prefix) (t : Tree)
      → prefix_at b ≡ Some op
      → Phrase d (level 0) (past s) t r
      → Phrase (suc d) (level 0) (b ∷ s) (unary op t) r
  -- A phrase of the next tighter level.
  tighter : (d k : ℕ) (s r : List ℕ) (t : Tree)
      → Phrase d (level k) s t r
      → Phrase d (level (suc k)) s t r
  -- A phrase of level 0, `**` (the byte b and n more bytes), and a phrase of level 1. `**` therefore groups to the right.
  raised : (d b n : ℕ) (s m r : List ℕ) (op : Infix) (x y : Tree)
      → Phrase d (level 0) s x (b ∷ m)
      → infix_at b m ≡ Some (op, n) → level_of op ≡ 1
      → Phrase d (level 1) (past (drop n m)) y r
      → Phrase d (level 1) s (joined op x y) r
  -- A phrase of a level above 1, an operator of that level, and a phrase of the next tighter level. These operators
  -- therefore group to the left.
  infixed : (d k b n : ℕ) (s m r : List ℕ) (op : Infix) (x y : Tree)
      → Phrase d (level (suc (suc k))) s x (b ∷ m)
      → infix_at b m ≡ Some (op, n) → level_of op ≡ suc (suc k)
      → Phrase d (level (suc k)) (past (drop n m)) y r
      → Phrase d (level (suc (suc k))) s (joined op x y) r
  -- A phrase of the loosest level.
  plain : (d : ℕ) (s r : List ℕ) (t : Tree)
      → Phrase d (level 13) s t r
      → Phrase d whole s t r
  -- A phrase of the loosest level, `?`, a whole expression, `:`, and a whole expression. `?:` therefore groups to the
  -- right.
  branches : (d : ℕ) (s m p r : List ℕ) (c x y : Tree)
      → Phrase (suc d) (level 13) s c (ascii.question ∷ m)
      → Phrase d whole (past m) x (ascii.colon ∷ p)
      → Phrase d whole (past p) y r
      → Phrase (suc d) whole s (choice c x y) r

-- The greatest nesting of parentheses, prefix operators and branches, by a rule of this language.
abbrev pub deepest : ℕ
deepest = 200

-- The text is the expression t: leading white space and a whole phrase, with no bytes after it.
abbrev pub IsExpression : List ℕ → Tree → Type 0
IsExpression text t = Phrase deepest whole (past text) t []
