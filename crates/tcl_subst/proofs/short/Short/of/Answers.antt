use Rattle.std.proofs.Common.{◌≡◌, ℕ, ◌+◌, ◌-◌, ◌*◌, ◌^◌, ◌%◌, ◌<◌, ◌≤◌, List, length, sym, ap, subst, ◌∙◌, arith}
use Rattle.std.specs.Slice.Scan.{big_endian}
use Rattle.tcl_subst.specs.Shorts.{text_of, key_of, Small}
use Rattle.tcl_subst.proofs.Padded.{shifted_below, shifted_whole, key_made, keyed, text_back}
use Rattle.tcl_subst.proofs.short.Short.of.Goals as goal

module _ (name : List ℕ) (s : Small name) (few : length name ≤ 15) (number : ℕ) (is : number ≡ big_endian 0 name) where
  abbrev shift : ℕ
  shift = 8 * (15 - length name)

  shifted : (number * 2 ^ shift) % 2 ^ 128 ≡ big_endian 0 name * 2 ^ shift
  shifted = ap (λ n. (n * 2 ^ shift) % 2 ^ 128) is ∙ shifted_whole name s few

  made : (number * 2 ^ shift) % 2 ^ 128 * 256 + length name ≡ key_of name
  made = ap (λ n. n * 256 + length name) shifted ∙ key_made name s few

  below : (number * 2 ^ shift) % 2 ^ 128 < 2 ^ 120
  below = subst (λ n. n < 2 ^ 120) (sym shifted) (shifted_below name s few)

pub overflow_mul-result : goal.overflow_mul-result
overflow_mul-result c = record { fits = omega (arith, below c.args.name.now (λ k. (c.type_inv.name k).fits) c.if-len-gt-SHORT.false c.spelt.result c.spelt.ensures) }

pub overflow_add-result : goal.overflow_add-result
overflow_add-result c = record { fits = omega (arith, below c.args.name.now (λ k. (c.type_inv.name k).fits) c.if-len-gt-SHORT.false c.spelt.result c.spelt.ensures, c.if-len-gt-SHORT.false) }

pub invariant_of-result : goal.invariant_of-result
invariant_of-result c =
    let small : Small c.args.name.now = λ k. (c.type_inv.name k).fits in
    record { is_key = keyed c.args.name.now small c.if-len-gt-SHORT.false _ (made c.args.name.now small c.if-len-gt-SHORT.false c.spelt.result c.spelt.ensures) }

pub returns-clause-short : goal.returns-clause-short
returns-clause-short c =
    let small : Small c.args.name.now = λ k. (c.type_inv.name k).fits in
    (ap text_of (made c.args.name.now small c.if-len-gt-SHORT.false c.spelt.result c.spelt.ensures) ∙ text_back c.args.name.now small c.if-len-gt-SHORT.false, c.if-len-gt-SHORT.false)
