use Rattle.std.proofs.Common.{◌≡◌, refl, arith}
use Rattle.std.proofs.lemmas.Fmt.{decimal_digit}
use Rattle.expect_core.proofs.stored.string_name.Goals as goal

pub returns-in-0 : goal.returns-in-0
returns-in-0 c = rw c.in-0.is (rw (decimal_digit 0 (omega arith)) refl)

pub returns-in-1 : goal.returns-in-1
returns-in-1 c = rw c.in-1.is (rw (decimal_digit 1 (omega arith)) refl)

pub returns-in-2 : goal.returns-in-2
returns-in-2 c = rw c.in-2.is (rw (decimal_digit 2 (omega arith)) refl)

pub returns-in-3 : goal.returns-in-3
returns-in-3 c = rw c.in-3.is (rw (decimal_digit 3 (omega arith)) refl)

pub returns-in-4 : goal.returns-in-4
returns-in-4 c = rw c.in-4.is (rw (decimal_digit 4 (omega arith)) refl)

pub returns-in-5 : goal.returns-in-5
returns-in-5 c = rw c.in-5.is (rw (decimal_digit 5 (omega arith)) refl)

pub returns-in-6 : goal.returns-in-6
returns-in-6 c = rw c.in-6.is (rw (decimal_digit 6 (omega arith)) refl)

pub returns-in-7 : goal.returns-in-7
returns-in-7 c = rw c.in-7.is (rw (decimal_digit 7 (omega arith)) refl)

pub returns-in-8 : goal.returns-in-8
returns-in-8 c = rw c.in-8.is (rw (decimal_digit 8 (omega arith)) refl)

pub returns-in_default : goal.returns-in_default
returns-in_default c =
    let is : c.args.group ≡ 9 = omega (arith, c.requires, c.in_default) in
    rw is (rw (decimal_digit 9 (omega arith)) refl)
