use Rattle.std.proofs.Common.{◌≡◌, ℕ, List, ◌∷◌, ◌%◌, length, max, ap, ◌∙◌, arith}
use Rattle.std.proofs.lemmas.Result.{err_from_is_err_and}
use Rattle.tcl_control.specs.declared.groups.Pair.{Pair}
use Rattle.tcl_results.specs.Says.{text_of}
use Rattle.tcl_control.specs.Groups.{turn_count, turns_for, each_of}
use Rattle.tcl_control.proofs.Grouped.{read, read_onto, as_turns, first_fails, list_read, count_more}
use Rattle.tcl_control.proofs.groups.each_of.Goals as goal

pub returns-in_err-first : goal.returns-in_err-first
returns-in_err-first c =
    let p = err_from_is_err_and c.from_residual.result c.from_residual.ensures.1 in
    let odd : length c.args.args.now % 2 ≡ 1 = omega (arith, c.if-args-eq0.false) in
    rw (p.1, p.2) (λ told. first_fails c.args.command.now c.in-Some.names.now c.in-Some.list.now c.in-Some.words.now c.args.args.now c.in-Some.ensures odd (text_of c.in_err-first.field-0.0) (c.in_err-first.ensures.said told))

pub lists-preserved : goal.lists-preserved
lists-preserved c =
    let q = c.in_ok-first.first in
    let old = c.lists.more.items in
    let new = c.push.new.self.items in
    let p = c.in_ok-pair.pair in
    let pushed = c.in_ok-push.ensures.items in
    let left : length c.lists.rest.now % 2 ≡ length c.in-Some-next_list.behind.now % 2 = ap (λ (l : List (List ℕ)). length l % 2) c.in-Some-next_list.ensures ∙ omega arith in
    let counted : turn_count new ≡ max (turn_count old) (turns_for p) = ap turn_count pushed ∙ count_more old p in
    record {
      odd = omega (arith, left, c.lists.invariant.odd);
      counted = omega (arith, counted, c.max-count.ensures, c.turns_for.ensures, c.lists.invariant.counted);
      said =
          ap (λ (ps : List Pair). as_turns (read_onto (q ∷ ps) (read c.in-Some-next_list.behind.now))) pushed
          ∙ list_read c.in-Some-next_list.names.now c.in-Some-next_list.list.now c.in-Some-next_list.behind.now c.lists.rest.now (q ∷ old) (each_of c.args.command.now c.args.args.now)
          c.in-Some-next_list.ensures c.lists.invariant.said p c.in_ok-pair.ensures.said;
    }
