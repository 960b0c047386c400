use Rattle.std.proofs.Common.{◌≡◌, List, length, rules, Ok, Err, ap}
use Rattle.tcl_host.specs.declared.ending.Ending.{Ending}
use Rattle.report_texts.specs.Form.{opening, closing}
use Rattle.report_texts.proofs.Writing.{writes_as}
use Rattle.report_texts.proofs.Whole.{not_opened, not_told, not_closed, all_told}
use Rattle.report_texts.proofs.reporting.write_reports.Goals as goal

pub returns-in_default : goal.returns-in_default
returns-in_default g c =
    let front = opening c.args.form.now.format (length c.args.reports.now) in
    let same : c.as_slice.result.now ≡ front = search rules in
    not_opened c.args.form.now c.args.reports.now _ _ _ _ c.in_default.field-0 c.in_default.field-0
    (writes_as (Unit {0}) _ _ c.as_slice.result.now front _ _ (Err c.in_default.field-0) same c.in_default.ensures)

pub returns-in_default-write_parts : goal.returns-in_default-write_parts
returns-in_default-write_parts g c =
    let front = opening c.args.form.now.format (length c.args.reports.now) in
    let same : c.as_slice.result.now ≡ front = search rules in
    let opened = writes_as (Unit {0}) _ _ c.as_slice.result.now front _ _ (Ok c.in-Ok.field-0) same c.in-Ok.ensures in
    not_told c.args.form.now c.args.reports.now _ _ _ opened.0 _ _ _ c.in_default-write_parts.field-0 c.in_default-write_parts.field-0 c.in_default-write_parts.ensures

pub returns-in_default-write_closing : goal.returns-in_default-write_closing
returns-in_default-write_closing g c =
    let form = c.args.form.now in
    let front = opening form.format (length c.args.reports.now) in
    let same : c.as_slice.result.now ≡ front = search rules in
    let opened = writes_as (Unit {0}) _ _ c.as_slice.result.now front _ _ (Ok c.in-Ok.field-0) same c.in-Ok.ensures in
    let es = c.write_parts.new.endings.items in
    not_closed form c.args.reports.now _ _ _ opened.0 _ _ _ es c.in-Ok-write_parts.well c.in-Ok-write_parts.ensures _ _
    c.in_default-write_closing.field-0 c.in_default-write_closing.field-0
    (writes_as (Unit {0}) _ _ (closing form.format c.as_slice-3.result.now) (closing form.format es) _ _ (Err c.in_default-write_closing.field-0)
    (ap (λ (z : List Ending). closing form.format z) c.as_slice-3.ensures.value) c.in_default-write_closing.ensures)

pub returns : goal.returns
returns g c =
    let form = c.args.form.now in
    let front = opening form.format (length c.args.reports.now) in
    let same : c.as_slice.result.now ≡ front = search rules in
    let opened = writes_as (Unit {0}) _ _ c.as_slice.result.now front _ _ (Ok c.in-Ok.field-0) same c.in-Ok.ensures in
    let es = c.write_parts.new.endings.items in
    all_told form c.args.reports.now _ _ _ opened.0 _ _ _ es c.in-Ok-write_parts.well c.in-Ok-write_parts.ensures _ _
    (writes_as (Unit {0}) _ _ (closing form.format c.as_slice-3.result.now) (closing form.format es) _ _ (Ok c.in-Ok-write_closing.field-0)
    (ap (λ (z : List Ending). closing form.format z) c.as_slice-3.ensures.value) c.in-Ok-write_closing.ensures)
