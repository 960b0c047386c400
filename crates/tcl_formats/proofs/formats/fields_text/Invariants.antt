use Rattle.std.proofs.Common.{◌≡◌, take, flat_map}
use Rattle.tcl_formats.specs.Formats.{field_text}
use Rattle.tcl_formats.proofs.formats.fields_text.Given as goal

abbrev pub invariant-loop-field : goal.invariant-loop-field
invariant-loop-field l = l.text ≡ flat_map field_text (take l.field-index l.fields)
