use Rattle.std.proofs.Common.{◌++◌, Ok, Err}
use Rattle.report_texts.proofs.Writing.{writes_as, writes_then, gives_up}
use Rattle.report_texts.proofs.reporting.Around.write.Goals as goal

pub returns-in_default : goal.returns-in_default
returns-in_default g c =
    let head = c.args.self.now.head in
    let middle = c.args.middle.now in
    gives_up _ _ (head ++ middle) c.args.self.now.tail _ _
    (gives_up _ _ head middle _ _ (writes_as (Unit {0}) _ _ c.as_slice.result.now head _ _ (Err c.in_default.field-0) c.as_slice.ensures c.in_default.ensures))

pub returns-in_default-write_all : goal.returns-in_default-write_all
returns-in_default-write_all g c =
    let head = c.args.self.now.head in
    let middle = c.args.middle.now in
    let first = writes_as (Unit {0}) _ _ c.as_slice.result.now head _ _ (Ok c.in-Ok.field-0) c.as_slice.ensures c.in-Ok.ensures in
    gives_up _ _ (head ++ middle) c.args.self.now.tail _ _
    (writes_then (Unit {0}) _ _ _ head middle _ _ (Err c.in_default-write_all.field-0) first.0 c.in_default-write_all.ensures)

pub returns : goal.returns
returns g c =
    let head = c.args.self.now.head in
    let middle = c.args.middle.now in
    let tail = c.args.self.now.tail in
    let first = writes_as (Unit {0}) _ _ c.as_slice.result.now head _ _ (Ok c.in-Ok.field-0) c.as_slice.ensures c.in-Ok.ensures in
    let both = writes_then (Unit {0}) _ _ _ head middle _ _ (Ok c.in-Ok-write_all.field-0) first.0 c.in-Ok-write_all.ensures in
    let last = writes_as (Unit {0}) _ _ c.as_slice-2.result.now tail _ _ c.write_all-3.result c.as_slice-2.ensures c.write_all-3.ensures in
    writes_then (Unit {0}) _ _ _ (head ++ middle) tail _ _ c.write_all-3.result both.0 last
