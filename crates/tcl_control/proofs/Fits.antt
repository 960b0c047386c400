-- Whether there are neither too few nor too many arguments, one formal argument further on.
use Rattle.std.proofs.Common.{◌≡◌, ◌≤◌, ◌-◌, ℕ, Bool, true, false, if◌then◌else◌, List, [], ◌∷◌, take, drop, length, get_or, Option, Some, None, option_map, is_some, refl, sym, ap, subst, ◌∙◌, arith}
use Rattle.std.proofs.Math.Seq.{take-length}
use Rattle.std.proofs.lemmas.Bool.{false≢true}
use Rattle.tcl_words.specs.Lists.{written}
use Rattle.tcl_control.specs.declared.formals.Formal.{Formal}
use Rattle.tcl_control.specs.Procs.{Bound, takes_all, has_value, with_default, bound}

mapped : (f : Bound → Bound) (r : Option Bound) → is_some r ≡ is_some (option_map f r)
mapped f None = refl
mapped f (Some bs) = refl

defaulted : (name : List ℕ) (d : Option (List ℕ)) (r : Option Bound) → is_some d ≡ true → is_some r ≡ is_some (with_default name d r)
defaulted name None r some = absurd (false≢true some)
defaulted name (Some value) r some = mapped (λ l. (name, value) ∷ l) r

pub fits_step : (f : Formal) (fs : List Formal) (args : List (List ℕ)) → takes_all f fs ≡ false → has_value f args ≡ true → is_some (bound fs (drop 1 args)) ≡ is_some (bound (f ∷ fs) args)
fits_step f fs [] other some =
    defaulted f.name f.default (bound fs []) some
    ∙ sym (ap (λ t. is_some (if t then Some ((f.name, []) ∷ []) else with_default f.name f.default (bound fs []))) other)
fits_step f fs (a ∷ args) other some =
    mapped (λ l. (f.name, a) ∷ l) (bound fs args)
    ∙ sym (ap (λ t. is_some (if t then Some ((f.name, written (a ∷ args)) ∷ []) else option_map (λ l. (f.name, a) ∷ l) (bound fs args))) other)

-- the same where both are parts of what is left
pub fits_on : (f : Formal) (rest : List Formal) (args : List (List ℕ)) (start : Bool) → f ≡ get_or rest 0 f → 1 ≤ length rest → takes_all f (take (length rest - 1) (drop 1 rest)) ≡ false → has_value f args ≡ true → is_some (bound rest args) ≡ start → is_some (bound (take (length rest - 1) (drop 1 rest)) (drop 1 args)) ≡ start
fits_on f [] args start first long other some was = absurd (omega arith)
fits_on f (g ∷ fs) args start first long other some was =
    let count : length (g ∷ fs) - 1 ≡ length fs = omega arith in
    let same : take (length (g ∷ fs) - 1) (drop 1 (g ∷ fs)) ≡ fs = ap (λ n. take n fs) count ∙ take-length fs in
    let is : f ≡ g = first in
    let other_one : takes_all g fs ≡ false = subst (λ (h : Formal). takes_all h fs ≡ false) is (subst (λ (l : List Formal). takes_all f l ≡ false) same other) in
    let some_one : has_value g args ≡ true = subst (λ (h : Formal). has_value h args ≡ true) is some in
    ap (λ (l : List Formal). is_some (bound l (drop 1 args))) same ∙ fits_step g fs args other_one some_one ∙ was
