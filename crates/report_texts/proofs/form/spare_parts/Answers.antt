use Rattle.std.proofs.Common.{◌≡◌, ◌∙◌, ℕ, ◌+◌, List, sym, ap, subst, arith}
use Rattle.session.specs.Spent.{memory_report}
use Rattle.report_texts.specs.Form.{part_bytes}
use Rattle.report_texts.specs.Written.{AreParts}
use Rattle.report_texts.proofs.Longer.{each_and_last, one_longer}
use Rattle.report_texts.proofs.form.spare_parts.Goals as goal

pub push_reserved-requires : goal.push_reserved-requires
push_reserved-requires c = omega (arith, c.loop-i.invariant.parts.many, c.loop-i.invariant.room, c.loop-i.parts.ok.0, c.loop-i-test.true)

pub loop-i-preserved : goal.loop-i-preserved
loop-i-preserved c =
    let form = c.args.form.now in
    let old = c.loop-i.invariant.parts in
    record {
      parts = subst (AreParts form (c.loop-i.i + 1)) (sym {A = List (List ℕ)} c.push_reserved.ensures.items) (
          record {
            many = one_longer _ _ ∙ ap (λ (n : ℕ). n + 1) old.many;
            each = each_and_last (λ i text. text ≡ part_bytes form (i + 1) memory_report) _ _ old.each (
                c.in_ok-memory_part.ensures ∙ ap (λ (n : ℕ). part_bytes form (n + 1) memory_report) (sym old.many)
                );
          }
          );
      room = omega (arith, c.push_reserved.ensures.capacity, c.loop-i.invariant.room);
    }
