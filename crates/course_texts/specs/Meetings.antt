-- What a script's `expect` commands match, in lines between those of its events.
use Rattle.std.specs.Prelude.{◌≡◌, ℕ, ◌+◌, nat_le, List, [], ◌∷◌, ◌++◌, length, drop, codes, Bool, false, if◌then◌else◌, Option, Some, None, Result, Ok, Err}
use Rattle.std.specs.List.{slice_get}
use Rattle.tcl_subst.specs.Variables.{Variables, value_of}
use Rattle.exp_match.specs.declared.entry.Entry.{Entry}
use Rattle.exp_match.specs.declared.entry.Want.{Want}
use Rattle.exp_match.specs.declared.entry.Want.TheVariants as want
use Rattle.expect_core.specs.declared.plan.Met.{Met}
use Rattle.expect_core.specs.declared.plan.Plan.{Plan}
use Rattle.expect_core.specs.declared.request.Request.{Request}
use Rattle.session.specs.Watching.{Meeting}
use Rattle.course_texts.specs.declared.meetings.Teller.{Teller}
use Rattle.report_texts.specs.Report.{labelled}
use Rattle.report_texts.specs.Escape.{quoted}
use Rattle.secret_words.specs.declared.secrets.Secret.{Secret}
use Rattle.course_texts.specs.Patterns.{want_text}
use Rattle.course_texts.specs.Shown.{shown_bytes}
use Rattle.course_texts.specs.Waits.{margin, tail_of, request_lines}

-- The name of an element of `expect_out` for a group.
unfoldable pub group_name : ℕ → List ℕ → List ℕ
group_name digit what = codes "expect_out(" ++ digit ∷ codes "," ++ what ++ codes ")"

-- The digits of the groups that a match can have.
abbrev pub groups_of : Want → List ℕ
groups_of (want.Exact text nocase) = codes "0"
groups_of (want.Glob glob nocase) = codes "0"
groups_of (want.Regular r) = codes "0123456789"
groups_of (want.Keyword k) = []

-- A value. If it has more than 200 bytes, its length and its last 200 bytes.
unfoldable pub plain_text : List ℕ → List ℕ
plain_text bytes =
    if nat_le (length bytes) 200 then quoted bytes
    else labelled (codes "of ") (length bytes) ++ codes " bytes, the last are " ++ quoted (tail_of bytes)

-- The same of a value with names in place of secrets.
abbrev pub shown_text : List Secret → List ℕ → List ℕ
shown_text ss bytes = plain_text (shown_bytes ss bytes)

unfoldable pub stored_line : List Secret → List ℕ → List ℕ → List ℕ
stored_line ss name bytes = margin ++ codes "  " ++ name ++ codes " " ++ shown_text ss bytes ++ codes "\n"

abbrev pub line_of : {F : Type 0} → List Secret → List ℕ → Result (List ℕ) F → List ℕ
line_of ss name (Ok bytes) = stored_line ss name bytes
line_of ss name (Err f) = []

-- The line of a variable, if it has a value.
abbrev pub stored_part : List Secret → List ℕ → Variables → List ℕ
stored_part ss name vars = line_of ss name (value_of name vars)

-- The lines of a group's indices, if the entry has `-indices`.
abbrev pub places_part : List Secret → Bool → ℕ → Variables → List ℕ
places_part ss indices digit vars = if indices then stored_part ss (group_name digit (codes "start")) vars ++ stored_part ss (group_name digit (codes "end")) vars else []

abbrev pub group_part : List Secret → Bool → Variables → ℕ → List ℕ
group_part ss indices vars digit = places_part ss indices digit vars ++ stored_part ss (group_name digit (codes "string")) vars

abbrev pub group_lines : List Secret → Bool → Variables → List ℕ → List ℕ
group_lines ss indices vars [] = []
group_lines ss indices vars (d ∷ ds) = group_part ss indices vars d ++ group_lines ss indices vars ds

-- The child whose output matched, if any.
unfoldable pub of_child : Option ℕ → List ℕ
of_child None = []
of_child (Some n) = labelled (codes " by child ") n

unfoldable pub met_line : List Secret → Want → Option ℕ → List ℕ
met_line ss w child = margin ++ want_text ss w ++ codes " was met" ++ of_child child ++ codes "\n"

-- The line of `expect_out(buffer)`, if a child's output matched.
abbrev pub buffer_part : List Secret → Option ℕ → Variables → List ℕ
buffer_part ss None vars = []
buffer_part ss (Some n) vars = stored_part ss (codes "expect_out(buffer)") vars

-- The lines of an entry that matched, and of the values in `expect_out`.
abbrev pub entry_lines : List Secret → Variables → Option ℕ → Entry → List ℕ
entry_lines ss vars child e = met_line ss e.want child ++ (group_lines ss e.indices vars (groups_of e.want) ++ buffer_part ss child vars)

abbrev pub found_lines : List Secret → Variables → Option ℕ → Option Entry → List ℕ
found_lines ss vars child None = []
found_lines ss vars child (Some e) = entry_lines ss vars child e

-- The number of the child at a place, from 1.
abbrev pub number_of : Option ℕ → Option ℕ
number_of None = None
number_of (Some i) = Some (i + 1)

abbrev pub met_lines : List Secret → Plan → Variables → Option Met → List ℕ
met_lines ss p vars None = []
met_lines ss p vars (Some m) = found_lines ss vars (number_of m.child) (slice_get p.list.entries m.entry)

-- The lines of what an `expect` matched.
abbrev pub plan_lines : List Secret → Plan → Variables → List ℕ
plan_lines ss p vars = met_lines ss p vars p.met

-- The requests after the first `n`, and what was matched then.
abbrev pub meeting_text : List Secret → ℕ → Plan → Variables → List Request → List ℕ
meeting_text ss n p vars asked = request_lines ss (drop n asked) ++ plan_lines ss p vars

-- Each match after the requests before it, and then the remaining requests. The first `n` requests are left out.
abbrev pub course_text : List Secret → ℕ → List Meeting → List Request → List ℕ
course_text ss n [] asked = request_lines ss (drop n asked)
course_text ss n (m ∷ ms) asked = meeting_text ss n m.plan m.vars m.asked ++ course_text ss (length m.asked) ms asked

-- A teller that writes this text, unless memory is refused.
abbrev pub Writes : Teller → Plan → Variables → List Request → Teller → Type 0
Writes old p vars asked new =
    (new.secrets ≡ old.secrets) × (new.refused ≡ false → (old.refused ≡ false) × (new.text ≡ old.text ++ meeting_text old.secrets old.told p vars asked) × (new.told ≡ length asked))
