-- The bytes of a value, whatever its form.
use Rattle.std.specs.Prelude.{ℕ, List}
use Rattle.tcl_values.specs.declared.value.Form.{Form}
use Rattle.tcl_values.specs.Fews.{few_bytes}
use Rattle.tcl_values.specs.declared.value.Form.TheVariants.{Short, Shared, Listed}

abbrev pub bytes_of : Form → List ℕ
bytes_of (Short text) = few_bytes text
bytes_of (Shared text) = text.value
bytes_of (Listed list) = list
