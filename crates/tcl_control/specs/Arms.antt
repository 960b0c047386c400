-- The arguments of `if` (if(n)): if c ?then? b ?elseif c ?then? b? .. ?else? ?b?
use Rattle.std.specs.Prelude.{ℕ, List, [], ◌∷◌, codes, Option, Some, None, option_map, Ok, Err, bytes_eq, if◌then◌else◌}
use Rattle.tcl_results.specs.Texts.{wrong_args}
use Rattle.tcl_results.specs.Said.{Said}

-- The conditions with their bodies, and the body after `else`.
abbrev pub Arms : Type 0
Arms = List (List ℕ × List ℕ) × Option (List ℕ)

abbrev pub with_arm : List ℕ → List ℕ → Arms → Arms
with_arm test body arms = ((test, body) ∷ arms.0, arms.1)

-- The body after `else`, as the only argument.
abbrev pub only_body : List (List ℕ) → Option Arms
only_body [] = None
only_body (body ∷ []) = Some ([], Some body)
only_body (body ∷ other ∷ more) = None

-- The arguments after the last arm.
abbrev pub ended : List (List ℕ) → Option Arms
ended [] = Some ([], None)
ended (w ∷ words) = if bytes_eq w (codes "else") then only_body words else only_body (w ∷ words)

abbrev mutual
  -- A condition comes next.
  pub tests : List (List ℕ) → Option Arms
  tests [] = None
  tests (test ∷ words) = bodies test words

  -- A body or `then` comes next.
  pub bodies : List ℕ → List (List ℕ) → Option Arms
  bodies test [] = None
  bodies test (w ∷ words) = if bytes_eq w (codes "then") then body test words else option_map (with_arm test w) (ends words)

  -- A body comes next.
  pub body : List ℕ → List (List ℕ) → Option Arms
  body test [] = None
  body test (w ∷ words) = option_map (with_arm test w) (ends words)

  -- The arguments after a body.
  pub ends : List (List ℕ) → Option Arms
  ends [] = ended []
  ends (w ∷ words) = if bytes_eq w (codes "elseif") then tests words else ended (w ∷ words)

abbrev pub or_wrong : List ℕ → Option Arms → Said Arms
or_wrong command None = Err (wrong_args command)
or_wrong command (Some arms) = Ok arms

abbrev pub arms_of : List ℕ → List (List ℕ) → Said Arms
arms_of command args = or_wrong command (tests args)
