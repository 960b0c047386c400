-- What a script asks of its children, and what it waits for, in lines between those of its events.
use Rattle.std.specs.Prelude.{ℕ, ◌+◌, ◌-◌, nat_le, List, [], ◌∷◌, ◌++◌, length, drop, codes, if◌then◌else◌, Option, Some, None}
use Rattle.exp_match.specs.Choice.{in_groups}
use Rattle.exp_match.specs.declared.entry.Entry.{Entry}
use Rattle.exp_match.specs.declared.entry.Want.{Want}
use Rattle.exp_match.specs.declared.entry.Want.TheVariants as want
use Rattle.expect_core.specs.declared.child.Child.{Child}
use Rattle.expect_core.specs.declared.plan.Plan.{Plan}
use Rattle.expect_core.specs.declared.request.Request.{Request}
use Rattle.expect_core.specs.Awaited.{buffer_of}
use Rattle.expect_core.specs.Deadlines.{as_moment}
use Rattle.session.specs.Left.{Kept}
use Rattle.session.specs.Awaited.{answering, starting, hearing, expecting}
use Rattle.report_texts.specs.declared.acts.Spelling.TheVariants.{Quoted}
use Rattle.report_texts.specs.Acts.{act_text}
use Rattle.report_texts.specs.Report.{labelled}
use Rattle.report_texts.specs.Escape.{quoted}
use Rattle.course_texts.specs.Nearest.{front_of}
use Rattle.secret_words.specs.declared.secrets.Secret.{Secret}
use Rattle.course_texts.specs.Patterns.{is_hidden, want_text}
use Rattle.course_texts.specs.Shown.{shown_bytes, shown_requests}

-- The columns of an event's moment, as spaces. They are closed, so that the text of a line stays in pieces.
unfoldable pub margin : List ℕ
margin = codes "             "

-- The line of a request.
unfoldable pub request_line : Request → List ℕ
request_line r = margin ++ labelled (codes "asks child ") r.child ++ codes ": " ++ act_text Quoted r.act ++ codes "\n"

abbrev pub plain_lines : List Request → List ℕ
plain_lines [] = []
plain_lines (r ∷ rs) = request_line r ++ plain_lines rs

-- The lines of requests, with names in place of secrets.
abbrev pub request_lines : List Secret → List Request → List ℕ
request_lines ss rs = plain_lines (shown_requests ss rs)

-- A line about a child, if there is one.
abbrev pub child_line : List ℕ → Option ℕ → List ℕ
child_line words None = []
child_line words (Some c) = margin ++ labelled words c ++ codes "\n"

-- The line of the answer that the script waits for.
unfoldable pub answer_line : Option ℕ → List ℕ
answer_line child = child_line (codes "waits for the answer of child ") child

-- The line of the start that the script waits for.
unfoldable pub start_line : Option ℕ → List ℕ
start_line child = child_line (codes "waits for the start of child ") child

-- The line of the output that a command awaits of the program that it runs.
unfoldable pub output_line : Option ℕ → List ℕ
output_line child = child_line (codes "waits for the end of child ") child

-- The verdict for a pattern of which only a front matches in the bytes.
unfoldable pub only_line : List ℕ → List ℕ
only_line front = codes "  no, only " ++ quoted front ++ codes "\n"

-- The verdict for a pattern that did not match in the bytes, given its longest front that does.
abbrev pub verdict_by : List ℕ → List ℕ → List ℕ
verdict_by [] front = codes "  no\n"
verdict_by (b ∷ bytes) [] = codes "  no, nothing of it\n"
verdict_by (b ∷ bytes) (c ∷ front) = only_line (c ∷ front)

-- The verdict for a pattern that did not match. Its fronts are looked for only in up to 4,000 bytes.
abbrev pub verdict_in : List ℕ → Want → List ℕ
verdict_in bytes w = if nat_le (length bytes) 4000 then verdict_by bytes (front_of w bytes) else codes "  no\n"

abbrev pub plain_verdict : List ℕ → Want → List ℕ
plain_verdict bytes (want.Exact text nocase) = verdict_in bytes (want.Exact text nocase)
plain_verdict bytes (want.Glob glob nocase) = verdict_in bytes (want.Glob glob nocase)
plain_verdict bytes (want.Regular r) = codes "  no\n"
plain_verdict bytes (want.Keyword k) = codes "\n"

-- The verdict for a pattern that did not match, or for a keyword whose event has not happened. Of a pattern in which a
-- secret occurs it shows no front.
abbrev pub verdict : List Secret → List ℕ → Want → List ℕ
verdict ss bytes w = if is_hidden ss w then codes "  no\n" else plain_verdict bytes w

unfoldable pub entry_line : List Secret → List ℕ → Entry → List ℕ
entry_line ss bytes e = margin ++ codes "    " ++ want_text ss e.want ++ verdict ss bytes e.want

-- The line of an entry, if it belongs to one of these groups.
abbrev pub own_line : List Secret → List ℕ → List ℕ → Entry → List ℕ
own_line ss bytes groups e = if in_groups groups e then entry_line ss bytes e else []

abbrev pub own_lines : List Secret → List ℕ → List ℕ → List Entry → List ℕ
own_lines ss bytes groups [] = []
own_lines ss bytes groups (e ∷ es) = own_line ss bytes groups e ++ own_lines ss bytes groups es

-- The last 200 bytes of a text, or all of a shorter one.
abbrev pub tail_of : List ℕ → List ℕ
tail_of bytes = drop (length bytes - 200) bytes

-- The number of bytes from a child that no pattern has consumed, and the last of them.
unfoldable pub plain_buffer : ℕ → List ℕ → List ℕ
plain_buffer c bytes =
    margin ++ labelled (codes "  child ") c ++ labelled (codes " has ") (length bytes) ++ codes " bytes, the last are " ++ quoted (tail_of bytes) ++ codes "\n"

-- The same, with names in place of secrets.
abbrev pub buffer_line : List Secret → ℕ → List ℕ → List ℕ
buffer_line ss c bytes = plain_buffer c (shown_bytes ss bytes)

-- Each child with its bytes and its patterns.
abbrev pub side_lines : List Secret → List Child → List Entry → List (ℕ × List ℕ) → List ℕ
side_lines ss children entries [] = []
side_lines ss children entries ((i, groups) ∷ sides) =
    (buffer_line ss (i + 1) (buffer_of (i + 1) children) ++ own_lines ss (buffer_of (i + 1) children) groups entries) ++ side_lines ss children entries sides

unfoldable pub deadline_line : ℕ → List ℕ
deadline_line m = margin ++ labelled (codes "waits for output until ") m ++ codes " ms\n"

unfoldable pub endless_line : List ℕ
endless_line = margin ++ codes "waits for output\n"

-- The line of the moment until which an `expect` waits, if there is one.
abbrev pub until_line : Option ℕ → List ℕ
until_line None = endless_line
until_line (Some m) = deadline_line m

-- The lines of the `expect` that waits.
abbrev pub expect_lines : List Secret → List Child → Option Plan → List ℕ
expect_lines ss children None = []
expect_lines ss children (Some p) = until_line (as_moment p.deadline) ++ side_lines ss children p.list.entries p.sides

-- The lines of what a session waits for.
unfoldable pub wait_lines : List Secret → Kept → List ℕ
wait_lines ss k = answer_line (answering k) ++ start_line (starting k) ++ output_line (hearing k) ++ expect_lines ss k.dialogue.own.children (expecting k)
