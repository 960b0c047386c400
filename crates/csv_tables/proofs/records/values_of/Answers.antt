use Rattle.std.proofs.Common.{◌≡◌, ◌∙◌, ◌++◌, ◌∷◌, [], sym, ap, rules}
use Rattle.std.specs.Prelude.{unwrap_or}
use native.Mathlib.Numerals.{unary_clauses}
use Rattle.csv.specs.Records.{fields_of, field_at}
use Rattle.csv_tables.proofs.Fields.{take_field, now_or}
use Rattle.csv_tables.proofs.records.values_of.Goals as goal

pub loop-i-preserved : goal.loop-i-preserved
loop-i-preserved c =
    let value : c.in_ok-from_slice.field-0 ≡ unwrap_or (field_at (fields_of c.args.row.now) c.loop-i.i) [] = search (now_or, rules) in
    c.in_ok-push.ensures.pushed
    ∙ ap (λ v. c.loop-i.values ++ v ∷ []) value
    ∙ ap (λ v. v ++ unwrap_or (field_at (fields_of c.args.row.now) c.loop-i.i) [] ∷ []) c.loop-i.invariant
    ∙ simp unary_clauses (sym (take_field (fields_of c.args.row.now) c.loop-i.i (search rules)))
