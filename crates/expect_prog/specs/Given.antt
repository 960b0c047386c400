-- The scripts made from an order's settings and files.
use Rattle.std.specs.Prelude.{◌≡◌, ◌++◌, ℕ, List, map, Bool, false}
use Rattle.std.specs.List.{flat_map}
use Rattle.std.specs.Borrow.{Bor}
use Rattle.command_line.specs.Given.{names_of}
use Rattle.command_line.specs.declared.order.Alone.{Alone}
use Rattle.command_line.specs.declared.order.Scripts.{Scripts}
use Rattle.report_texts.specs.declared.form.Format.{Format}
use Rattle.report_texts.specs.declared.form.Format.TheVariants.{Text, Bare, Escaped, Summary, Json, JsonLines, Tap}
use Rattle.expect_core.specs.declared.settings.Settings.{Settings}
use Rattle.dialogue_sched.specs.declared.script.Script.{Script}
use Rattle.dialogue_sched.specs.Pairs.{Paired}
use Rattle.expect_prog.specs.Variables.{Variables, AreGiven, AreAlone}
use Rattle.expect_prog.specs.Each.{AreRowsGiven, names_given}
use Rattle.expect_prog.specs.Secrets.{AreSecrets, pairs_of}
use Rattle.expect_prog.specs.declared.files.Cast.{Cast}
use Rattle.expect_prog.specs.declared.files.Single.{Single}

-- Whether reports in a format contain the variables, given whether they were requested. Summaries and TAP never do.
abbrev pub vars_told : Format → Bool → Bool
vars_told Text asked = asked
vars_told Bare asked = asked
vars_told Escaped asked = asked
vars_told Summary asked = false
vars_told Json asked = asked
vars_told JsonLines asked = asked
vars_told Tap asked = false

-- The settings of each script of an order: its step limit, its last moment in milliseconds, these variables at the
-- start, and whether its report includes its variables.
abbrev pub settings_given : Scripts → Variables → Settings
settings_given order vars = record { steps = order.steps; limit_ms = order.limit_ms; vars = vars; host = order.host; tells_vars = vars_told order.form.format order.form.shown.vars }

-- The scripts of sources, in their order, with the same settings.
abbrev pub scripts_given : Settings → List (List ℕ) → List Script
scripts_given settings sources = map (λ source. record { source = source; settings = settings }) sources

-- These sources were read at these paths, one at each, in their order.
abbrev pub AreHeld : (List ℕ → List ℕ → Type 0) → List (Bor (List ℕ)) → List (List ℕ) → Type 0
AreHeld holds files sources = Paired (λ file source. holds file.now source) files sources

-- The scripts of an order's sources: those of each row, with the variables of all scripts and then those of the row.
abbrev pub all_scripts : Scripts → Variables → List Variables → List (List ℕ) → List Script
all_scripts order vars rows sources = flat_map (λ row. scripts_given (settings_given order (vars ++ row)) sources) rows

-- The scripts of an order's files, in their order, and their names. Each file has one script per row, whose source was
-- read at the file's path. All have the order's settings, and the variables and secrets that it requests.
pub record AreOfFiles (holds : List ℕ → List ℕ → Type 0) (sets : List (List ℕ) → Type 0) (order : Scripts) (cast : Cast) : Type 0 where
  pub rows : List Variables
  pub each : AreRowsGiven holds order.each rows
  pub vars : Variables
  pub asked : AreGiven sets order.variables vars
  pub hidden : AreSecrets holds order.variables.secrets.items cast.secrets
  pub sources : List (List ℕ)
  pub held : AreHeld holds order.sources.items sources
  pub given : cast.scripts.items ≡ all_scripts order (vars ++ pairs_of cast.secrets) rows sources
  pub named : cast.names ≡ names_given rows (names_of order.sources.items)

-- The settings of a script that is run as a command: its step limit, its last moment in milliseconds, and these
-- variables at the start. It has no report that could include its variables.
abbrev pub alone_settings : Alone → Variables → Settings
alone_settings order vars = record { steps = order.steps; limit_ms = order.limit_ms; vars = vars; host = order.host; tells_vars = false }

-- The script of a command. Its source was read at the path of its file, and it has the command's settings, arguments,
-- variables and secrets.
pub record IsOfFile (holds : List ℕ → List ℕ → Type 0) (sets : List (List ℕ) → Type 0) (order : Alone) (one : Single) : Type 0 where
  pub vars : Variables
  pub given : AreAlone sets order vars
  pub hidden : AreSecrets holds order.variables.secrets.items one.secrets
  pub held : holds order.source.now one.script.source
  pub settings : one.script.settings ≡ alone_settings order (vars ++ pairs_of one.secrets)
