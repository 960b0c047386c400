use Rattle.std.proofs.Common.{◌≡◌, map, sym, ap, subst, ◌∙◌, arith}
use Rattle.std.specs.BTreeMap.{insert_entry}
use Rattle.std.specs.FinMap.Entries.{where_key}
use Rattle.tcl_subst.specs.Both.{is_short}
use Rattle.tcl_subst.specs.Entries.{order}
use Rattle.tcl_subst.specs.Shorts.{text_of}
use Rattle.tcl_subst.proofs.Named.{insert_seen}
use Rattle.tcl_subst.proofs.Sorted.{puts, long_ones, long_first, puts_both, all_short}
use Rattle.tcl_subst.proofs.names.Names.entries.Goals as goal

pub loop-name-preserved-in_ok-insert : goal.loop-name-preserved-in_ok-insert
loop-name-preserved-in_ok-insert g c =
    ap (λ es. puts (map (λ e. (e.0.items, e.1.now)) es) (long_ones (map (λ e. (e.0.items, e.1)) c.next.new.self))) c.in_ok-insert.ensures.entries
    ∙ ap (λ es. puts es (long_ones (map (λ e. (e.0.items, e.1)) c.next.new.self))) (insert_seen (λ v. v.items) (λ b. b.now) c.in_ok-from_slice.field-0 c.in-Some.value c.loop-name.all.entries)
    ∙ ap (λ n. puts (insert_entry order (map (λ e. (e.0.items, e.1.now)) c.loop-name.all.entries) n c.in-Some.value.now) (long_ones (map (λ e. (e.0.items, e.1)) c.next.new.self))) (c.in_ok-from_slice.ensures.items ∙ c.as_slice.ensures.value)
    ∙ ap (puts (map (λ e. (e.0.items, e.1.now)) c.loop-name.all.entries)) (sym (ap (λ i. long_ones (map (λ e. (e.0.items, e.1)) i)) c.in-Some.ensures.steps ∙ long_first c.in-Some.name.now.items c.in-Some.value.now (map (λ e. (e.0.items, e.1)) c.next.new.self) (omega (arith, c.if-len-gt-SHORT.true, c.len.ensures))))
    ∙ c.loop-name.invariant

pub loop-name-2-preserved : goal.loop-name-2-preserved
loop-name-2-preserved g c =
    ap (λ es. puts (map (λ e. (e.0.items, e.1.now)) es) (map (λ e. (text_of e.0.key, e.1)) c.next-in-loop-name-2.new.self)) c.in_ok-insert-2.ensures.entries
    ∙ ap (λ es. puts es (map (λ e. (text_of e.0.key, e.1)) c.next-in-loop-name-2.new.self)) (insert_seen (λ v. v.items) (λ b. b.now) c.in_ok-name.field-0 c.in-Some-2.value c.loop-name-2.all.entries)
    ∙ ap (λ n. puts (insert_entry order (map (λ e. (e.0.items, e.1.now)) c.loop-name-2.all.entries) n c.in-Some-2.value.now) (map (λ e. (text_of e.0.key, e.1)) c.next-in-loop-name-2.new.self)) c.in_ok-name.ensures
    ∙ ap (λ i. puts (map (λ e. (e.0.items, e.1.now)) c.loop-name-2.all.entries) (map (λ e. (text_of e.0.key, e.1)) i)) (sym c.in-Some-2.ensures.steps)
    ∙ c.loop-name-2.invariant

pub returns : goal.returns
returns g c =
    sym (ap (λ i. puts (map (λ e. (e.0.items, e.1.now)) c.loop-name-2.all.entries) (map (λ e. (text_of e.0.key, e.1)) i)) c.in-None-2.ensures.steps.0)
    ∙ c.loop-name-2.invariant
    ∙ ap (λ i. puts (map (λ e. (e.0.items, e.1.now)) c.loop-name.all.entries) (map (λ e. (text_of e.0.key, e.1)) i)) c.into_iter-name-iterator-2.ensures.into_iter_gives
    ∙ ap (puts (map (λ e. (e.0.items, e.1.now)) c.loop-name.all.entries)) c.entries-name-items-2.ensures.entries
    ∙ ap (λ es. puts es c.self.inside.short) (sym (ap (λ i. puts (map (λ e. (e.0.items, e.1.now)) c.loop-name.all.entries) (long_ones (map (λ e. (e.0.items, e.1)) i))) c.in-None.ensures.steps.0) ∙ c.loop-name.invariant)
    ∙ puts_both c.self.inside.short c.self.inside.long (subst (λ es. where_key order is_short es ≡ es) c.entries-name-items-2.ensures.entries (all_short c.entries-name-items-2.result)) c.entries-name-items-2.ensures.sorted c.entries-name-items.ensures.sorted
    ∙ c.self.view_is
