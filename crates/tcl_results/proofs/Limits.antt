-- Values that are too long.
use Rattle.std.proofs.Common.{◌≡◌, ℕ, ◌≤◌, Bool, true, List, ◌++◌, length, Ok, Err, if◌then◌else◌, ap, arith, length-append}
use Rattle.std.proofs.lemmas.Bool.Decides.{nat_tests}
use Rattle.tcl_subst.specs.Faults.{is_too_long}
use Rattle.tcl_results.specs.Said.{limited}
use Rattle.tcl_results.specs.Texts.{too_long}

pub longer : (m n : ℕ) → m ≤ n → is_too_long m ≡ true → is_too_long n ≡ true
unfolding is_too_long
longer m n more long = grind (arith, nat_tests)

pub limited_over : (text : List ℕ) → is_too_long (length text) ≡ true → limited text ≡ Err too_long
limited_over text long = ap (λ (b : Bool). if b then Err too_long else Ok text) long

-- what is made already is too long
pub front_over : (front more whole : List ℕ) → whole ≡ front ++ more → is_too_long (length front) ≡ true → limited whole ≡ Err too_long
front_over front more whole is long =
    let size : length front ≤ length whole = omega (arith, ap length is, length-append front more) in
    limited_over whole (longer (length front) (length whole) size long)
