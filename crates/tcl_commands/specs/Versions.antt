-- Versions of packages: package(n), and exp_version of expect(1).
use Rattle.std.specs.Prelude.{ℕ, Bool, ◌&&◌, List, [], ◌∷◌, drop, codes, bytes_eq, Option, Some, None, Ok, Err, ℤ, int_le, if◌then◌else◌}
use Rattle.std.specs.Ordering.{int_eq}
use Rattle.tcl_words.specs.Bytes as ascii
use Rattle.command_table.specs.declared.options.PackageOption.{PackageOption}
use Rattle.command_table.specs.declared.options.PackageOption.TheVariants.{Require}
use Rattle.command_table.specs.declared.switches.Switches.TheVariants as switches
use Rattle.command_table.specs.Options.{package_option, package_count}
use Rattle.command_table.specs.Switches.{words_behind}
use Rattle.tcl_results.specs.Front.{front, front_of}
use Rattle.tcl_results.specs.Given.{arg, arg_or, if_fits}
use Rattle.tcl_results.specs.Said.{Said, ◌>>=◌, as_number}
use Rattle.tcl_lists.specs.Splitting.{some_parts}
use Rattle.tcl_results.specs.Texts.{bad_option, no_package, version_conflict}

-- The version of expect(1) that the commands follow.
abbrev pub expect_version : List ℕ
expect_version = codes "5.45.4"

-- The version of a package, if it exists.
abbrev pub version_of : List ℕ → Option (List ℕ)
version_of name =
    if bytes_eq name (codes "Expect") then Some expect_version
    else if bytes_eq name (codes "Tcl") then Some (codes "8.6")
    else None

-- A part of a version, or `0` if there is none. Dots separate the parts.
abbrev pub part : ℕ → List ℕ → List ℕ
part n version = arg_or (ascii.digit_0 ∷ []) n (some_parts (ascii.dot ∷ []) version)

-- The first two parts of a version.
abbrev pub numbers : List ℕ → Said (ℤ × ℤ)
numbers version = as_number (part 0 version) >>= λ major. as_number (part 1 version) >>= λ minor. Ok (major, minor)

-- The version `have` serves where `need` is asked for.
abbrev pub serves : ℤ × ℤ → ℤ × ℤ → Bool
serves have need = int_eq have.0 need.0 && int_le need.1 have.1

-- The version of a package, if it serves where `need` is asked for.
abbrev pub if_serves : List ℕ → List ℕ → List ℕ → Said (List ℕ)
if_serves name have need = numbers have >>= λ h. numbers need >>= λ n. if serves h n then Ok have else Err (version_conflict name have need)

abbrev pub required : List ℕ → List (List ℕ) → Option (List ℕ) → Said (List ℕ)
required name needs None = Err (no_package name)
required name [] (Some have) = Ok have
required name (need ∷ more) (Some have) = if_serves name have need

abbrev pub required_by : List (List ℕ) → Said (List ℕ)
required_by words = required (arg 0 words) (drop 1 words) (version_of (arg 0 words))

-- The result of an option with the arguments after it.
abbrev pub package_by : PackageOption → List ℕ → List (List ℕ) → Said (List ℕ)
package_by Require command args = front switches.Require 1 args >>= λ p. if_fits (words_behind switches.Require) command p.1 (required_by p.1)

-- An unknown option is reported before a wrong number of arguments.
abbrev pub package_named : List ℕ → List ℕ → Option PackageOption → List (List ℕ) → Said (List ℕ)
package_named command word None args = Err (bad_option word)
package_named command word (Some option) args = if_fits (package_count option) command args (package_by option command args)

abbrev pub package_command : List ℕ → List (List ℕ) → Said (List ℕ)
package_command command args = package_named command (arg 0 args) (package_option (arg 0 args)) (drop 1 args)

-- The version of Expect, or nothing if it serves where another one is asked for.
abbrev pub version_told : List (List ℕ) → Said (List ℕ)
version_told [] = Ok expect_version
version_told (need ∷ more) = if_serves (codes "Expect") expect_version need >>= λ version. Ok []

-- exp_version ?version?
abbrev pub exp_version : List ℕ → List (List ℕ) → Said (List ℕ)
exp_version command args = front_of switches.Version command args >>= λ p. version_told p.1
