-- Texts, repeated, and how long they are.
use Rattle.std.proofs.Common.{◌≡◌, ℕ, zero, suc, ◌+◌, ◌-◌, ◌*◌, ◌^◌, Bool, true, false, List, length, min, if◌then◌else◌, Ok, Err, ap, ◌∙◌, arith, length-append}
use Rattle.std.specs.List.{repeat}
use Rattle.std.proofs.lemmas.Bool.Decides.{nat_tests}
use Rattle.tcl_subst.specs.Faults.{is_too_long}
use Rattle.tcl_results.specs.Said.{limited}
use Rattle.tcl_results.specs.Texts.{too_long}

-- a text, n times, has n times its bytes
text_repeated : (text : List ℕ) (n : ℕ) → length (repeat n text) ≡ length text * n
text_repeated text zero = omega arith
text_repeated text (suc n) = length-append text (repeat n text) ∙ ap (λ (m : ℕ). length text + m) (text_repeated text n) ∙ (omega arith)

text_long : (text : List ℕ) (n : ℕ) → is_too_long (length (repeat n text)) ≡ is_too_long (min (length text * n) (2 ^ 64 - 1))
unfolding is_too_long
text_long text n = let size = text_repeated text n in grind (arith, nat_tests)

limited_by : (b : Bool) (value : List ℕ) → is_too_long (length value) ≡ b → limited value ≡ (if b then Err too_long else Ok value)
limited_by b value is = ap (λ (t : Bool). if t then Err too_long else Ok value) is

pub text_over : (text : List ℕ) (n : ℕ) → is_too_long (min (length text * n) (2 ^ 64 - 1)) ≡ true → limited (repeat n text) ≡ Err too_long
text_over text n long = limited_by true (repeat n text) (text_long text n ∙ long)

pub text_fits : (text : List ℕ) (n : ℕ) → is_too_long (min (length text * n) (2 ^ 64 - 1)) ≡ false → limited (repeat n text) ≡ Ok (repeat n text)
text_fits text n short = limited_by false (repeat n text) (text_long text n ∙ short)
