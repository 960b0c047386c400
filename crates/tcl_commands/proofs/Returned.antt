-- The options of return, pair by pair.
use Rattle.std.proofs.Common.{◌≡◌, ℕ, ◌<◌, Bool, true, false, bytes_eq, List, [], ◌∷◌, length, drop, codes, Option, Some, Err, sym, ap, subst, ◌∙◌, arith, if◌then◌else◌}
use Rattle.tcl_results.specs.declared.code.Carried.{Carried}
use Rattle.tcl_results.specs.Given.{arg}
use Rattle.tcl_results.specs.Said.{Said}
use Rattle.tcl_commands.specs.Returns.{no_option, is_dropped, returned}

module _ (command : List ℕ) (code : Option (List ℕ)) (whole : Said (Carried × List ℕ)) where
  module _ (o w option word : List ℕ) (more : List (List ℕ)) (first : option ≡ o) (second : word ≡ w) (was : returned command (o ∷ w ∷ more) code ≡ whole) where
    by_name : (names : Bool) → bytes_eq option (codes "-code") ≡ names → (if names then returned command more (Some w) else if is_dropped o then returned command more code else Err (no_option command o)) ≡ whole
    by_name names is = sym (ap (λ (b : Bool). if b then returned command more (Some w) else if is_dropped o then returned command more code else Err (no_option command o)) (ap (λ (x : List ℕ). bytes_eq x (codes "-code")) (sym first) ∙ is)) ∙ was

    by_drop : (drops : Bool) → bytes_eq option (codes "-code") ≡ false → is_dropped option ≡ drops → (if drops then returned command more code else Err (no_option command o)) ≡ whole
    by_drop drops not is = sym (ap (λ (b : Bool). if b then returned command more code else Err (no_option command o)) (ap is_dropped (sym first) ∙ is)) ∙ by_name false not

  -- the next option names a code
  pub code_read : (rest : List (List ℕ)) (option word : List ℕ) → 1 < length rest → option ≡ arg 0 rest → word ≡ arg 1 rest → bytes_eq option (codes "-code") ≡ true → returned command rest code ≡ whole
      → returned command (drop 2 rest) (Some word) ≡ whole
  code_read [] option word two first second is was = absurd (omega arith)
  code_read (o ∷ []) option word two first second is was = absurd (omega arith)
  code_read (o ∷ w ∷ more) option word two first second is was = subst (λ (v : List ℕ). returned command more (Some v) ≡ whole) (sym second) (by_name o w option word more first second was true is)

  -- the next option has no effect
  pub option_dropped : (rest : List (List ℕ)) (option word : List ℕ) → 1 < length rest → option ≡ arg 0 rest → word ≡ arg 1 rest → bytes_eq option (codes "-code") ≡ false → is_dropped option ≡ true → returned command rest code ≡ whole
      → returned command (drop 2 rest) code ≡ whole
  option_dropped [] option word two first second not is was = absurd (omega arith)
  option_dropped (o ∷ []) option word two first second not is was = absurd (omega arith)
  option_dropped (o ∷ w ∷ more) option word two first second not is was = by_drop o w option word more first second was true not is

  -- the next option is none
  pub none_read : (rest : List (List ℕ)) (option word : List ℕ) → 1 < length rest → option ≡ arg 0 rest → word ≡ arg 1 rest → bytes_eq option (codes "-code") ≡ false → is_dropped option ≡ false → returned command rest code ≡ whole
      → whole ≡ Err (no_option command option)
  none_read [] option word two first second not is was = absurd (omega arith)
  none_read (o ∷ []) option word two first second not is was = absurd (omega arith)
  none_read (o ∷ w ∷ more) option word two first second not is was = subst (λ (x : List ℕ). whole ≡ Err (no_option command x)) (sym first) (sym (by_drop o w option word more first second was false not is))
