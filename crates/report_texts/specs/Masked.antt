-- Reports with names in place of secrets.
use Rattle.std.specs.Prelude.{◌≡◌, ℕ, List, [], ◌∷◌, ◌++◌, map, take, drop, length, slice_get, slice_set, Some}
use Rattle.secret_words.specs.declared.secrets.Secret.{Secret}
use Rattle.secret_words.specs.Masking.{masked}
use Rattle.expect_core.specs.declared.request.Act.{Act}
use Rattle.expect_core.specs.declared.request.Act.TheVariants as act
use Rattle.expect_core.specs.declared.request.Request.{Request}
use Rattle.session.specs.declared.place.ErrorPlace.{ErrorPlace}
use Rattle.session.specs.declared.place.ErrorPlace.TheVariants as place
use Rattle.session.specs.declared.report.Report.{Report}
use Rattle.dialogue_sched.specs.Pairs.{Paired}
use Rattle.report_texts.specs.Written.{StandsFor}

abbrev pub masked_act : List Secret → Act → Act
masked_act ss (act.Spawn words) = act.Spawn (map (masked ss) words)
masked_act ss (act.Write bytes) = act.Write (masked ss bytes)
masked_act ss act.End = act.End
masked_act ss act.Close = act.Close
masked_act ss act.Wait = act.Wait

abbrev pub masked_request : List Secret → Request → Request
masked_request ss r = record { child = r.child; act = masked_act ss r.act }

-- A name and its value.
abbrev pub masked_pair : List Secret → List ℕ × List ℕ → List ℕ × List ℕ
masked_pair ss p = (masked ss p.0, masked ss p.1)

-- The place of a command in a script. The texts before and after it are masked by themselves.
abbrev pub masked_command : List Secret → List ℕ → ℕ → ErrorPlace
masked_command ss script at = place.Command (masked ss (take at script) ++ masked ss (drop at script)) (length (masked ss (take at script)))

abbrev pub masked_place : List Secret → ErrorPlace → ErrorPlace
masked_place ss (place.Command script at) = masked_command ss script at
masked_place ss (place.Procedure name) = place.Procedure (masked ss name)

abbrev pub shown_report : List Secret → Report → Report
shown_report ss r = record {
  ending = r.ending;
  fault = masked ss r.fault;
  trail = map (masked_place ss) r.trail;
  transcript = masked ss r.transcript;
  vars = map (masked_pair ss) r.vars;
  requests = map (masked_request ss) r.requests;
  sent = r.sent;
  steps = r.steps;
  starting = r.starting;
}

-- A report as it is shown. Without secrets it is unchanged.
abbrev pub masked_report : List Secret → Report → Report
masked_report [] r = r
masked_report (s ∷ ss) r = shown_report (s ∷ ss) r

-- A report with names in place of secrets. If memory for it is refused, the report of a script that was refused memory.
abbrev pub IsMasked : List Secret → Report → Report → Type 0
IsMasked ss r told = StandsFor (masked_report ss r) told

abbrev pub AllMasked : List Secret → List Report → List Report → Type 0
AllMasked ss rs told = Paired (IsMasked ss) rs told

-- The report at index i was so replaced. No other report changed.
abbrev pub MaskedAt : List Secret → ℕ → List Report → List Report → Type 0
MaskedAt ss i olds news = (old : Report) × (new : Report) × (slice_get olds i ≡ Some old) × IsMasked ss old new × (news ≡ slice_set olds i new)
