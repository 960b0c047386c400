use Rattle.std.proofs.Common.{◌≡◌, ◌<◌, ◌≤◌, length, get_or, refl, sym, ap, subst, ◌∙◌, arith, rules}
use Rattle.std.proofs.lemmas.Bool.Decides.{nat_tests}
use Rattle.std.proofs.lemmas.List.Elements.{All-from_get_or}
use Rattle.std.proofs.lemmas.Option.{slice_get_read}
use Rattle.std.specs.Bool.{then_some}
use Rattle.exp_match.specs.Choice.{FindsIn}
use Rattle.exp_match.proofs.Lasting.{has_none}
use Rattle.exp_match.proofs.Deciding.{none_more, by_entry, at_end, at_start}
use Rattle.exp_match.proofs.list.PatternList.choose_with.Goals.{else-max-bytes-via-then-max-bytes+else-is_some, else-max-bytes-via-else-max-bytes}
use Rattle.exp_match.proofs.list.PatternList.choose_with.Goals as goal

pub loop-index-init : goal.loop-index-init
loop-index-init c = record {
  items = c.as_slice-entry-items.ensures;
  before = search rules;
  left = at_start c.args.self.now.entries c.args.groups.now c.args.bytes.now c.args.max;
}

pub loop-index-preserved : goal.loop-index-preserved
loop-index-preserved c =
    let es = c.args.self.now.entries in
    let lt : c.loop-index.index < length es = rw (← c.loop-index.invariant.items) c.loop-index-test.true in
    let is : c.entry-item.result ≡ get_or es c.loop-index.index c.entry-item.result = rw (← c.loop-index.invariant.items) c.entry-item.is in
    record {
      items = c.loop-index.invariant.items;
      before = none_more es c.args.groups.now c.args.bytes.now c.loop-index.index c.entry-item.result is
          (subst (λ t. FindsIn c.args.groups.now c.entry-item.result c.args.bytes.now (then_some t c.match_in.new.spans)) c.if-found.false c.in_ok-found.ensures.finds) c.loop-index.invariant.before;
      left = by_entry es c.args.groups.now c.args.bytes.now c.args.max c.loop-index.index c.loop-index.invariant.left lt c.entry-item.result is _
          (ap (λ t. then_some t c.match_in.new.spans) (sym c.if-found.false) ∙ c.in_ok-found.ensures.value);
    }

pub match_in-requires : goal.match_in-requires
match_in-requires c = λ some here lasting.
    let es = c.args.self.now.entries in
    let lt : c.loop-index.index < length es = rw (← c.loop-index.invariant.items) c.loop-index-test.true in
    let is : c.entry-item.result ≡ get_or es c.loop-index.index c.entry-item.result = rw (← c.loop-index.invariant.items) c.entry-item.is in
    c.requires some c.loop-index.index c.entry-item.result (slice_get_read es (length es) c.loop-index.index c.entry-item.result refl lt is) here lasting 0

pub returns-then-found-clause-decides : goal.returns-then-found-clause-decides
returns-then-found-clause-decides c =
    let es = c.args.self.now.entries in
    let lt : c.loop-index.index < length es = rw (← c.loop-index.invariant.items) c.loop-index-test.true in
    let is : c.entry-item.result ≡ get_or es c.loop-index.index c.entry-item.result = rw (← c.loop-index.invariant.items) c.entry-item.is in
    let finds = subst (λ t. FindsIn c.args.groups.now c.entry-item.result c.args.bytes.now (then_some t c.match_in.new.spans)) c.if-found.true c.in_ok-found.ensures.finds in
    ((c.entry-item.result, slice_get_read es (length es) c.loop-index.index c.entry-item.result refl lt is, finds), c.loop-index.invariant.before)

pub returns-else-max-bytes-clause-none : goal.returns-else-max-bytes-clause-none
returns-else-max-bytes-clause-none c =
    let es = c.args.self.now.entries in
    let past : length es ≤ c.loop-index.index = rw (← c.loop-index.invariant.items) c.loop-index-test.false in
    has_none es c.args.groups.now c.args.bytes.now (All-from_get_or (λ b. b < 256) c.args.bytes.now 0 (λ i h. omega (arith, c.type_inv.bytes i)))
    (λ k e lt. c.loop-index.invariant.before k e (omega arith))

pub returns-then-found-clause-chosen : goal.returns-then-found-clause-chosen
returns-then-found-clause-chosen c =
    let es = c.args.self.now.entries in
    let lt : c.loop-index.index < length es = rw (← c.loop-index.invariant.items) c.loop-index-test.true in
    let is : c.entry-item.result ≡ get_or es c.loop-index.index c.entry-item.result = rw (← c.loop-index.invariant.items) c.entry-item.is in
    by_entry es c.args.groups.now c.args.bytes.now c.args.max c.loop-index.index c.loop-index.invariant.left lt c.entry-item.result is _
    (ap (λ t. then_some t c.match_in.new.spans) (sym c.if-found.true) ∙ c.in_ok-found.ensures.value)

pub returns-then-is_some-clause-chosen : goal.returns-then-is_some-clause-chosen
returns-then-is_some-clause-chosen c =
    let es = c.args.self.now.entries in
    let past : length es ≤ c.loop-index.index = rw (← c.loop-index.invariant.items) c.loop-index-test.false in
    let end = at_end es c.args.groups.now c.args.bytes.now c.args.max c.loop-index.index c.loop-index.invariant.left past in
    grind (arith, nat_tests)

pub returns-else-max-bytes-clause-chosen : goal.returns-else-max-bytes-clause-chosen
returns-else-max-bytes-clause-chosen c =
    let es = c.args.self.now.entries in
    let past : length es ≤ c.loop-index.index = rw (← c.loop-index.invariant.items) c.loop-index-test.false in
    let end = at_end es c.args.groups.now c.args.bytes.now c.args.max c.loop-index.index c.loop-index.invariant.left past in
    elim c.else-max-bytes.branch [
      | else-max-bytes-via-then-max-bytes+else-is_some w ↦ grind (arith, nat_tests)
      | else-max-bytes-via-else-max-bytes w ↦ grind (arith, nat_tests)
    ]
