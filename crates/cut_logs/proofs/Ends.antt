-- Of a front of a log, the log of the events whose lines are whole is made; a log stays as it is.
use Rattle.std.proofs.Common.{◌≡◌, ◌≢◌, ◌⊎◌, inl, inr, ℕ, zero, suc, ◌-◌, ◌<◌, ◌≤◌, ◌^◌, List, [], ◌∷◌, ◌++◌, length, take, drop, Bool, true, false, Option, Some, None, refl, sym, ap, subst, ◌∙◌, append_assoc, append-nil, length-append, arith}
use Rattle.std.specs.Prelude.{codes, if◌then◌else◌, is_none}
use Rattle.std.specs.List.{AllByRecursion}
use Rattle.std.specs.Fmt.{decimal}
use Rattle.std.proofs.lemmas.List.{take-append-drop, take_all, length-take-le}
use Rattle.std.proofs.lemmas.List.Concat.{flat_map-append}
use Rattle.child_events.specs.declared.child_numbers.ChildNumbers.{ChildNumbers}
use Rattle.child_events.specs.declared.child_numbers.ChildNumbers.TheVariants.{To16, To999}
use Rattle.child_events.specs.declared.event.HallEvent.{HallEvent}
use Rattle.child_events.specs.declared.faults.LogFault.{LogFault}
use Rattle.child_events.specs.Log.{line_of, lines_text, version_name, heading, total_line, joined, AreLogged, CountedLog, LogText}
use Rattle.child_events.specs.Reading.{first_fault}
use Rattle.child_events.proofs.Parts.{Without}
use Rattle.child_events.proofs.Plain.{without_joined}
use Rattle.child_events.proofs.Meant.{plain_decimal}
use Rattle.child_events.proofs.Whole.{heading_is, log_sound}
use Rattle.child_events.proofs.Fronts.{heading_len, cut_off}
use Rattle.cut_logs.specs.Cut.{whole, lines, is_log, mended}
use Rattle.cut_logs.proofs.Newlines.{whole_behind, whole_ended, lines_behind, Within, Behind, first_line}
use Rattle.cut_logs.proofs.Lines.{whole_lines, Cut, Whole, cut_lines}

-- the line of a total of n, without its newline
abbrev total : ℕ → List ℕ
total n = joined 32 (codes "total" ∷ decimal n ∷ [])

total_plain : (n : ℕ) → n < 10 ^ 16 → Without 10 (total n)
total_plain n few = without_joined (codes "total" ∷ decimal n ∷ []) (refl, (plain_decimal n (omega arith), tt))

heading_plain : (nums : ChildNumbers) → Without 10 (version_name nums)
heading_plain To16 = without_joined (codes "exprun-log" ∷ codes "2" ∷ []) (refl, (refl, tt))
heading_plain To999 = without_joined (codes "exprun-log" ∷ codes "3" ∷ []) (refl, (refl, tt))

pub no_fault : (bytes : List ℕ) → first_fault bytes ≡ None → is_log bytes ≡ true
unfolding is_log
no_fault bytes none = ap (λ (o : Option LogFault). is_none o) none

pub one_fault : (bytes : List ℕ) (f : LogFault) → first_fault bytes ≡ Some f → is_log bytes ≡ false
unfolding is_log
one_fault bytes f one = ap (λ (o : Option LogFault). is_none o) one

a_fault : (bytes : List ℕ) → first_fault bytes ≢ None → is_log bytes ≡ false
unfolding is_log
a_fault bytes some = by_fault (first_fault bytes) some
  where
    by_fault : (o : Option LogFault) → o ≢ None → is_none o ≡ false
    by_fault None some = absurd (some refl)
    by_fault (Some f) some = refl

mended_log : (bytes : List ℕ) → whole bytes ≡ bytes → first_fault bytes ≡ None → mended bytes ≡ bytes
mended_log bytes is good =
    ap (λ (w : List ℕ). if is_log w then w else w ++ total_line (lines bytes - 1)) is
    ∙ ap (λ (t : Bool). if t then bytes else bytes ++ total_line (lines bytes - 1)) (no_fault bytes good)

mended_cut : (front text : List ℕ) (k : ℕ) → whole front ≡ text → lines front ≡ suc k → first_fault text ≢ None → mended front ≡ text ++ total_line k
mended_cut front text k is count bad =
    let before : lines front - 1 ≡ k = omega arith in
    ap (λ (w : List ℕ). if is_log w then w else w ++ total_line (lines front - 1)) is
    ∙ ap (λ (t : Bool). if t then text else text ++ total_line (lines front - 1)) (a_fault text bad)
    ∙ ap (λ (n : ℕ). text ++ total_line n) before

-- a log ends with a newline
log_whole : (bytes : List ℕ) (es : List HallEvent) → LogText bytes es → whole bytes ≡ bytes
log_whole bytes es (inl log) = ap whole log.0 ∙ whole_lines es ∙ sym log.0
log_whole bytes es (inr log) =
    let text = log.1.0 ∙ sym (append_assoc (heading log.0) (lines_text es) (total_line (length es))) in
    ap whole text ∙ whole_ended (heading log.0 ++ lines_text es) (total (length es)) ∙ sym text

pub whole_stays : (bytes : List ℕ) (es : List HallEvent) → LogText bytes es → mended bytes ≡ bytes
whole_stays bytes es log = mended_log bytes (log_whole bytes es log) (log_sound bytes es log)

first_hold : (P : HallEvent → Type 0) (k : ℕ) (es : List HallEvent) → AllByRecursion P es → AllByRecursion P (take k es)
first_hold P zero es h = tt
first_hold P (suc k) [] h = tt
first_hold P (suc k) (e ∷ es) h = (h.0, first_hold P k es h.1)

logged_first : (nums : ChildNumbers) (k : ℕ) (es : List HallEvent) → AreLogged nums es → AreLogged nums (take k es)
logged_first nums k es logged = (first_hold _ k es logged.0, first_hold _ k es logged.1)

-- the lines of the first k events, and what stands behind them
rejoined : (nums : ChildNumbers) (k : ℕ) (es : List HallEvent) (end : List ℕ) → (heading nums ++ lines_text (take k es)) ++ (lines_text (drop k es) ++ end) ≡ heading nums ++ (lines_text es ++ end)
rejoined nums k es end =
    append_assoc (heading nums) (lines_text (take k es)) (lines_text (drop k es) ++ end)
    ∙ ap (λ (b : List ℕ). heading nums ++ b) (
    sym (append_assoc (lines_text (take k es)) (lines_text (drop k es)) end)
    ∙ ap (λ (b : List ℕ). b ++ end) (sym (flat_map-append (λ e. line_of e ++ 10 ∷ []) (take k es) (drop k es)) ∙ ap lines_text (take-append-drop k es))
    )

-- the heading and the lines of the first k events are no log
no_log : (nums : ChildNumbers) (k : ℕ) (es : List HallEvent) → AreLogged nums es → length es < 10 ^ 16 → first_fault (heading nums ++ lines_text (take k es)) ≢ None
no_log nums k es logged few =
    let end = total_line (length es) in
    let size = length-append (lines_text (drop k es)) end in
    let front = length-append (heading nums) (lines_text (take k es)) in
    cut_off nums (heading nums ++ lines_text (take k es)) (lines_text (drop k es) ++ end) es (rejoined nums k es end, logged) few (omega (arith, heading_len nums)) (omega arith)

pub front_mended : (nums : ChildNumbers) (front rest : List ℕ) (es : List HallEvent) → CountedLog nums (front ++ rest) es → length es < 10 ^ 16 → length (heading nums) ≤ length front → CountedLog nums (mended front) (take (lines front - 1) es)
front_mended nums front rest es log few long =
    by_heading (first_line (version_name nums) (lines_text es ++ total_line (length es)) front rest (heading_plain nums) (log.0 ∙ heading_is nums (lines_text es ++ total_line (length es))))
  where
    cut : (more : List ℕ) (k : ℕ) → front ≡ version_name nums ++ 10 ∷ more → lines more ≡ k → Cut es more → CountedLog nums (mended front) (take (lines front - 1) es)
    cut more k is count part =
        let less : k ≤ length es = let e = part.few in omega arith in
        let all : lines front ≡ suc k = ap lines is ∙ lines_behind (version_name nums) more (heading_plain nums) ∙ ap suc count in
        let before : lines front - 1 ≡ k = omega arith in
        let text : whole front ≡ heading nums ++ lines_text (take k es) =
        ap whole is ∙ whole_behind (version_name nums) more ∙ sym (heading_is nums (whole more)) ∙ ap (λ (b : List ℕ). heading nums ++ b) (part.text ∙ ap (λ (n : ℕ). lines_text (take n es)) count) in
        let made = mended_cut front (heading nums ++ lines_text (take k es)) k text all (no_log nums k es log.1 few)
        ∙ append_assoc (heading nums) (lines_text (take k es)) (total_line k)
        ∙ ap (λ (n : ℕ). heading nums ++ (lines_text (take k es) ++ total_line n)) (sym (length-take-le k es less)) in
        subst (λ (n : ℕ). CountedLog nums (mended front) (take n es)) (sym before) (made, logged_first nums k es log.1)

    by_rest : (more : List ℕ) → front ≡ version_name nums ++ 10 ∷ more → Cut es more ⊎ Whole es more rest → CountedLog nums (mended front) (take (lines front - 1) es)
    by_rest more is (inl part) = cut more (lines more) is refl part
    by_rest more is (inr all) =
        let ended : front ++ rest ≡ front = ap (λ (r : List ℕ). front ++ r) all.nothing ∙ append-nil front in
        let same : CountedLog nums front es = subst (λ (b : List ℕ). CountedLog nums b es) ended log in
        let count : lines front ≡ suc (suc (length es)) = ap lines is ∙ lines_behind (version_name nums) more (heading_plain nums) ∙ ap suc all.count in
        let every : take (lines front - 1) es ≡ es = take_all (lines front - 1) es (omega arith) in
        subst (λ (b : List ℕ). CountedLog nums b (take (lines front - 1) es)) (sym (whole_stays front es (inr (nums, same, few)))) (subst (CountedLog nums front) (sym every) same)

    by_heading : Within (version_name nums) front ⊎ Behind (version_name nums) (lines_text es ++ total_line (length es)) front rest → CountedLog nums (mended front) (take (lines front - 1) es)
    by_heading (inl is) = let short = is.short in let size = length-append (version_name nums) (10 ∷ []) in absurd (omega arith)
    by_heading (inr is) = by_rest is.more is.text (cut_lines nums es (total (length es)) is.more rest log.1 (total_plain (length es) few) is.left)
