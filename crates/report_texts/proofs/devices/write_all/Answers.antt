use Rattle.std.proofs.Common.{ℕ, ◌+◌, ◌-◌, ◌≤◌, List, length, take, drop, arith, rules, length-drop}
use Rattle.std.proofs.lemmas.List.{take_rest}
use Rattle.std.specs.Prelude.{Option}
use Rattle.std.proofs.KnownBytes.{Appends-trans}
use Rattle.std.proofs.Math.Seq.{take-add}
use Rattle.std.specs.Io.KnownBytes.{Appends}
use Rattle.report_texts.proofs.devices.write_all.Goals as goal

-- one more write, of a front of what was left
put_more : (a b c : Option (List ℕ)) (text : List ℕ) (done count : ℕ) → Appends a b (take done text)
    → Appends b c (take count (take (length text - done) (drop done text))) → Appends a c (take (done + count) text)
put_more a b c text done count first next =
    rw take-add (Appends-trans a b c (take done text) (take count (drop done text)) first (rw take_rest at next))

within_text : (text : List ℕ) (done count : ℕ) → done ≤ length text → count ≤ length (take (length text - done) (drop done text)) → done + count ≤ length text
within_text text done count low fits =
    let left : count ≤ length (drop done text) = rw take_rest at fits in omega (arith, length-drop done text)

pub writes-preserved : goal.writes-preserved
writes-preserved g c = record {
  put = put_more _ _ _ _ _ _ c.writes.invariant.put c.in-Ok.ensures.bytes;
  within = within_text _ _ _ c.writes.invariant.within c.in-Ok.ensures.bound;
  calls = search rules;
  failures = search rules;
}
