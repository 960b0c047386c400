-- A record more leads further into the text; a read that finds none is at its end.
use Rattle.std.proofs.Common.{◌≡◌, ◌∙◌, sym, refl, rules, inl, inr, true, Some, []}
use Rattle.std.specs.Result.{is_ok}
use Rattle.csv.specs.Reading.{Reached, default_config, strip_bom}
use Rattle.csv.specs.Records.{fields_of}
use Rattle.csv.specs.declared.parser.State.TheVariants.{StartRecord}
use Rattle.csv.proofs.ReadFacts.{rows-end, rows-more}
use Rattle.csv_tables.proofs.records.records_of.Goals as goal

pub loop-row-init : goal.loop-row-init
unfolding Reached
loop-row-init c =
    let made = c.from_reader-reader.ensures in
    let one = c.has_headers.ensures in
    let both = c.flexible.ensures in
    rw (c.into_iter-row-iterator.ensures.into_iter_gives, c.into_byte_records-row-items.ensures.rdr, c.new-records.ensures.items) (
      strip_bom c.args.text.now,
      made.source,
      (sym made.state, refl),
      inr (inr (rw (both, one) at made.has_headers, made.headers)),
      rw (both, one) at made.trim ∙ c.new.ensures.trim,
      rw (both, one) at made.config ∙ c.new.ensures.config,
      c.into_byte_records-row-items.ensures.left,
    )

pub loop-row-preserved : goal.loop-row-preserved
loop-row-preserved c =
    let inv = c.loop-row.invariant in
    let s = rw (c.in-Some.is, c.in_ok-row.was) at ((c.next.ensures.steps inv.6 inv.4).0 inv.3) in
    let more = rows-more (λ r. Some r.now) c.loop-row.row-iterator.rdr c.next.new.self.rdr (fields_of c.in_ok-row.field-0) default_config StartRecord (strip_bom c.args.text.now) inv.0 c.loop-row.records.items inv.5 inv.1 inv.2 s.0 in
    let good : is_ok c.push.result ≡ true = search rules in
    let items = rw good at c.push.ensures.items in
    let values : c.in-Ok.values ≡ fields_of c.in_ok-row.field-0 = search rules in
    (more.0, more.1, rw (items, values) more.2, inl s.1, s.0.3 ∙ inv.4, s.0.2 ∙ inv.5, s.2)

pub returns : goal.returns
returns c =
    let inv = c.loop-row.invariant in
    let s = rw c.in-None.is at ((c.next.ensures.steps inv.6 inv.4).0 inv.3) in
    (c.loop-row.row-iterator.rdr.state, inv.0, inv.2, rows-end (λ r. Some r.now) c.loop-row.row-iterator.rdr c.next.new.self.rdr [] default_config inv.0 inv.5 inv.1 s)
