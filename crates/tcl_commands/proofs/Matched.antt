-- The elements of an array whose indexes match a pattern, one by one.
use Rattle.std.proofs.Common.{◌≡◌, ℕ, Bool, true, false, List, [], ◌∷◌, ◌++◌, if◌then◌else◌, sym, ap, ◌∙◌, append_assoc}
use Rattle.exp_glob.specs.Whole.{matches}
use Rattle.tcl_subst.specs.Entries.{Entries}
use Rattle.tcl_commands.specs.Arrays.{matching, indexes, alternating}

module _ (pattern : List ℕ) (made whole : List (List ℕ)) (i value : List ℕ) (es : Entries (List ℕ)) where
  -- the next index doesn't match
  pub index_on : matches false pattern i ≡ false → made ++ indexes (matching pattern ((i, value) ∷ es)) ≡ whole → made ++ indexes (matching pattern es) ≡ whole
  index_on none was = sym (ap (λ (b : Bool). made ++ indexes (if b then (i, value) ∷ matching pattern es else matching pattern es)) none) ∙ was

  -- the next index matches
  pub index_at : matches false pattern i ≡ true → made ++ indexes (matching pattern ((i, value) ∷ es)) ≡ whole → (made ++ i ∷ []) ++ indexes (matching pattern es) ≡ whole
  index_at is was =
      append_assoc made (i ∷ []) (indexes (matching pattern es))
      ∙ sym (ap (λ (b : Bool). made ++ indexes (if b then (i, value) ∷ matching pattern es else matching pattern es)) is) ∙ was

  pub value_on : matches false pattern i ≡ false → made ++ alternating (matching pattern ((i, value) ∷ es)) ≡ whole → made ++ alternating (matching pattern es) ≡ whole
  value_on none was = sym (ap (λ (b : Bool). made ++ alternating (if b then (i, value) ∷ matching pattern es else matching pattern es)) none) ∙ was

  pub value_at : matches false pattern i ≡ true → made ++ alternating (matching pattern ((i, value) ∷ es)) ≡ whole
      → ((made ++ i ∷ []) ++ value ∷ []) ++ alternating (matching pattern es) ≡ whole
  value_at is was =
      append_assoc (made ++ i ∷ []) (value ∷ []) (alternating (matching pattern es)) ∙ append_assoc made (i ∷ []) (value ∷ alternating (matching pattern es))
      ∙ sym (ap (λ (b : Bool). made ++ alternating (if b then (i, value) ∷ matching pattern es else matching pattern es)) is) ∙ was
