-- A line of output, read from the left.
use Rattle.std.proofs.Common.{◌≡◌, ℕ, ◌<◌, ◌≤◌, List, [], ◌∷◌, length, Bool, true, false, not, ◌&&◌, Option, Some, Result, Ok, Err, refl, sym, ap, ◌∙◌, arith}
use Rattle.std.specs.Prelude.{◌==◌, ◌%◌, ◌||◌, nat_le, nat_lt, codes, if◌then◌else◌}
use Rattle.std.specs.Str.{bytes_eq}
use Rattle.std.proofs.lemmas.Bool.Decides.{nat_tests}
use Rattle.std.proofs.lemmas.Slice.Eq.{bytes_eq-Decides}
use Rattle.hex.specs.Hex.{decode_of}
use Rattle.child_events.specs.declared.child_numbers.ChildNumbers.{ChildNumbers}
use Rattle.child_events.specs.declared.event.What.TheVariants as what
use Rattle.child_events.specs.declared.event.HallEvent.TheVariants as hall
use Rattle.child_events.specs.declared.fields.Stamp.{Stamp}
use Rattle.child_events.specs.declared.line.LogLine.TheVariants as line
use Rattle.child_events.specs.declared.faults.LogFault.{LogFault}
use Rattle.child_events.specs.declared.faults.LogFault.TheVariants as fault
use Rattle.child_events.specs.Log.{least_child, most_child, longest}
use Rattle.child_events.specs.Reading.{◌>>=◌, or_fault, parts, all_lower_hex, number_of, number_within, moment_of, stamp_of, stamped, piece_of, decoded, fields_event, line_event, NumberFirst}
use Rattle.child_events.specs.Judging.{judged, said_event, Decodes, ArePairs, IsStampOf, IsPieceLine, SaysPiece}
use Rattle.child_events.proofs.Judged.{lower_whole, piece_checked}

-- a word that writes a number isn't empty
some_digits : (w : List ℕ) (k : ℕ) → number_of w ≡ Some k → (length w == 0) ≡ false
some_digits [] k is = absurd (cc)
some_digits (d ∷ w) k is = grind (arith, nat_tests)

within : (n : ℕ) (w : List ℕ) (low high k : ℕ) (outside : LogFault) → number_of w ≡ Some k → (nat_le low k && nat_le k high) ≡ true → number_within n w low high outside ≡ Ok k
within n w low high k outside is fits =
    ap (λ (o : Option ℕ). or_fault (fault.Number n) o >>= λ i. if nat_le low i && nat_le i high then Ok i else Err outside) is
    ∙ ap (λ (t : Bool). if t then Ok k else Err outside) fits

any_moment : (m most : ℕ) → m ≤ most → (nat_le 0 m && nat_le m most) ≡ true
any_moment m most le = grind (arith, nat_tests)

module _ (nums : ChildNumbers) (n script child moment : ℕ) (s c m : List ℕ) (stamp : Stamp)
    (script_is : number_of s ≡ Some script) (child_is : number_of c ≡ Some child) (moment_is : number_of m ≡ Some moment) (fits : IsStampOf nums script child moment stamp) where
  stamp_is : stamp_of nums n s c m ≡ Ok stamp
  stamp_is =
      ap (λ (r : Result ℕ LogFault). r >>= λ i. number_within n c (least_child nums) (most_child nums) (fault.NoSuchChild n) >>= λ j. moment_of n m >>= λ k. Ok (record { script = i; child = j; moment = k })) (within n s 1 64 script (fault.NoSuchScript n) script_is fits.script_fits)
      ∙ ap (λ (r : Result ℕ LogFault). r >>= λ j. moment_of n m >>= λ k. Ok (record { script = script; child = j; moment = k })) (within n c (least_child nums) (most_child nums) child (fault.NoSuchChild n) child_is fits.child_fits)
      ∙ ap (λ (r : Result ℕ LogFault). r >>= λ k. Ok (record { script = script; child = child; moment = k })) (within n m 0 9000000000000000 moment (fault.Number n) moment_is (any_moment moment 9000000000000000 fits.moment_fits))
      ∙ ap Ok (sym fits.same)

  fields_are : (x : List ℕ) → (length x == 0) ≡ false → fields_event nums n (codes "out" ∷ s ∷ c ∷ m ∷ x ∷ []) ≡ stamped (Ok stamp) (piece_of n x >>= λ piece. Ok (what.Out piece))
  fields_are x some =
      by_tests (length s == 0) (length c == 0) (length m == 0) (length x == 0) (stamp_of nums n s c m)
      (some_digits s script script_is) (some_digits c child child_is) (some_digits m moment moment_is) some stamp_is
    where
      by_tests : (p q r t : Bool) (at : Result Stamp LogFault) → p ≡ false → q ≡ false → r ≡ false → t ≡ false → at ≡ Ok stamp →
          (if p || (q || (r || (t || false))) then Err (fault.Shape n) else stamped at (piece_of n x >>= λ piece. Ok (what.Out piece)))
          ≡ stamped (Ok stamp) (piece_of n x >>= λ piece. Ok (what.Out piece))
      by_tests true q r t at hp hq hr ht is = absurd (cc)
      by_tests false true r t at hp hq hr ht is = absurd (cc)
      by_tests false false true t at hp hq hr ht is = absurd (cc)
      by_tests false false false true at hp hq hr ht is = absurd (cc)
      by_tests false false false false at hp hq hr ht is = ap (λ (r : Result Stamp LogFault). stamped r (piece_of n x >>= λ piece. Ok (what.Out piece))) is

-- digits are no dash
no_dash : (w : List ℕ) → all_lower_hex w ≡ true → bytes_eq w (codes "-") ≡ false
no_dash w lower = by_test (bytes_eq w (codes "-")) refl
  where
    by_test : (t : Bool) → bytes_eq w (codes "-") ≡ t → t ≡ false
    by_test true is = absurd (let dash = ap all_lower_hex ((bytes_eq-Decides w (codes "-")).0 is) in cc)
    by_test false is = refl

-- what stands behind the head of a piece's line
pub piece_said_line : (nums : ChildNumbers) (text r₁ r₂ r₃ r₄ : List ℕ) (script child moment : ℕ) (stamp : Stamp) → length text ≤ longest nums →
    parts 32 text ≡ codes "out" ∷ parts 32 r₁ → NumberFirst r₁ script r₂ → NumberFirst r₂ child r₃ → NumberFirst r₃ moment r₄ → IsStampOf nums script child moment stamp → ArePairs r₄ → IsPieceLine nums text stamp r₄
piece_said_line nums text r₁ r₂ r₃ r₄ script child moment stamp short out s c m fits pairs = record {
  pairs = pairs;
  event = λ n. ap (λ (t : Bool). if t then Err (fault.TooLong n) else fields_event nums n (parts 32 text)) few ∙ fields n;
}
  where
    few : nat_lt (longest nums) (length text) ≡ false
    few = grind (arith, nat_tests)

    some : (length r₄ == 0) ≡ false
    some = let long = pairs.some in grind (arith, nat_tests)

    fields : (n : ℕ) → fields_event nums n (parts 32 text) ≡ said_event n (line.Piece stamp r₄)
    fields n =
        ap (fields_event nums n) (
        out
        ∙ ap (λ (ws : List (List ℕ)). codes "out" ∷ ws) (
        s.split
        ∙ ap (λ (ws : List (List ℕ)). s.word ∷ ws) (c.split ∙ ap (λ (ws : List (List ℕ)). c.word ∷ ws) (m.split ∙ ap (λ (ws : List (List ℕ)). m.word ∷ ws) (lower_whole r₄ pairs.lower)))
        )
        )
        ∙ fields_are nums n script child moment s.word c.word m.word stamp s.number c.number m.number fits r₄ some

-- such a line is an event
pub piece_judged : (nums : ChildNumbers) (n : ℕ) (line : List ℕ) (stamp : Stamp) (digits : List ℕ) → IsPieceLine nums line stamp digits → Ok tt ≡ judged (line_event nums n line)
piece_judged nums n line stamp digits is =
    piece_checked n digits (no_dash digits is.pairs.lower) is.pairs.even is.pairs.lower is.pairs.few
    ∙ sym (only (piece_of n digits))
    ∙ sym (ap judged (is.event n))
  where
    only : (r : Result (List ℕ) LogFault) → judged (stamped (Ok stamp) (r >>= λ piece. Ok (what.Out piece))) ≡ judged r
    only (Ok bytes) = refl
    only (Err f) = refl

-- that of the bytes that the digits write
pub piece_event : (nums : ChildNumbers) (n : ℕ) (line : List ℕ) (stamp : Stamp) (digits bytes : List ℕ) → IsPieceLine nums line stamp digits → decode_of digits ≡ Ok bytes → line_event nums n line ≡ Ok (hall.Child stamp.script stamp.child stamp.moment (what.Out bytes))
piece_event nums n line stamp digits bytes is decodes = is.event n ∙ ap (λ (r : Result (List ℕ) LogFault). stamped (Ok stamp) (r >>= λ piece. Ok (what.Out piece))) piece
  where
    even : (length digits % 2 == 0) ≡ true
    even = let whole = is.pairs.even in grind (arith, nat_tests)

    few : nat_lt 8192 (length digits) ≡ false
    few = let short = is.pairs.few in grind (arith, nat_tests)

    by_tests : (d e l g : Bool) → d ≡ false → e ≡ true → l ≡ true → g ≡ false →
        (if d then Ok [] else if not (e && l) then Err (fault.Hex n) else if g then Err (fault.TooLong n) else decoded n (decode_of digits)) ≡ decoded n (decode_of digits)
    by_tests true e l g hd he hl hg = absurd (cc)
    by_tests false false l g hd he hl hg = absurd (cc)
    by_tests false true false g hd he hl hg = absurd (cc)
    by_tests false true true true hd he hl hg = absurd (cc)
    by_tests false true true false hd he hl hg = refl

    piece : piece_of n digits ≡ Ok bytes
    piece =
        by_tests (bytes_eq digits (codes "-")) (length digits % 2 == 0) (all_lower_hex digits) (nat_lt 8192 (length digits)) (no_dash digits is.pairs.lower) even is.pairs.lower few
        ∙ ap (decoded n) decodes

-- where the digits behind the head of a line are such, they are read with it
pub piece_read : (nums : ChildNumbers) (text digits bytes : List ℕ) (stamp : Stamp) → (ArePairs digits → IsPieceLine nums text stamp digits) → 0 < length digits → length digits ≤ 8192
    → Decodes digits (Some bytes) → SaysPiece nums text stamp bytes
piece_read nums text digits bytes stamp head some few decodes = λ n.
    piece_event nums n text stamp digits bytes (head (record { lower = decodes.1; even = decodes.0; some = some; few = few })) decodes.2
