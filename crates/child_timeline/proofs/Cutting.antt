-- Bytes that are cut into pieces.
use Rattle.std.proofs.Common.{◌≡◌, ℕ, suc, ◌+◌, ◌-◌, ◌*◌, ◌/◌, ◌<◌, ◌≤◌, List, [], ◌∷◌, ◌++◌, length, take, drop, sym, ap, ◌∙◌, append_assoc, arith, length-drop}
use Rattle.std.specs.Prelude.{map}
use Rattle.child_events.specs.declared.event.HallEvent.{HallEvent}
use Rattle.child_timeline.specs.Timeline.{pieces_and_rest, written}

next_left : (n k : ℕ) → k < n → n - k ≡ suc (n - (k + 1))
next_left n k lt = omega (arith, lt)

-- a piece more
pub piece_more : (c m n k : ℕ) (rest : List ℕ) (es all : List HallEvent) → k < n → es ++ map (written c m) (pieces_and_rest (n - k) rest) ≡ all → (es ++ written c m (take 4096 rest) ∷ []) ++ map (written c m) (pieces_and_rest (n - (k + 1)) (drop 4096 rest)) ≡ all
piece_more c m n k rest es all lt same =
    append_assoc es (written c m (take 4096 rest) ∷ []) (map (written c m) (pieces_and_rest (n - (k + 1)) (drop 4096 rest)))
    ∙ sym (ap (λ (j : ℕ). es ++ map (written c m) (pieces_and_rest j rest)) (next_left n k lt))
    ∙ same

-- and the last one
pub piece_last : (c m n k : ℕ) (rest : List ℕ) (es all : List HallEvent) → n ≤ k → es ++ map (written c m) (pieces_and_rest (n - k) rest) ≡ all → es ++ written c m rest ∷ [] ≡ all
piece_last c m n k rest es all le same = sym (ap (λ (j : ℕ). es ++ map (written c m) (pieces_and_rest j rest)) (let none : n - k ≡ 0 = omega (arith, le) in none)) ∙ same

pub all_pieces : (c m n : ℕ) (bytes : List ℕ) (es : List HallEvent) → es ++ map (written c m) (pieces_and_rest (n - 0) bytes) ≡ es ++ map (written c m) (pieces_and_rest n bytes)
all_pieces c m n bytes es = ap (λ (j : ℕ). es ++ map (written c m) (pieces_and_rest j bytes)) (let all : n - 0 ≡ n = omega arith in all)

pub piece_on : (c m n k : ℕ) (piece rest rest' : List ℕ) (es es' all : List HallEvent) → k < n → piece ≡ take 4096 rest → rest' ≡ drop 4096 rest → es' ≡ es ++ written c m piece ∷ [] → es ++ map (written c m) (pieces_and_rest (n - k) rest) ≡ all → es' ++ map (written c m) (pieces_and_rest (n - (k + 1)) rest') ≡ all
piece_on c m n k piece rest rest' es es' all lt first behind grown same =
    ap (λ (xs : List HallEvent). xs ++ map (written c m) (pieces_and_rest (n - (k + 1)) rest')) (grown ∙ ap (λ (p : List ℕ). es ++ written c m p ∷ []) first)
    ∙ ap (λ (r : List ℕ). (es ++ written c m (take 4096 rest) ∷ []) ++ map (written c m) (pieces_and_rest (n - (k + 1)) r)) behind
    ∙ piece_more c m n k rest es all lt same

long_enough : (len r k : ℕ) → k < (len - 1) / 4096 → r + 4096 * k ≡ len → 4096 ≤ r
long_enough len r k lt long = omega arith

pub long_on : (len k : ℕ) (rest rest' : List ℕ) → k < (len - 1) / 4096 → rest' ≡ drop 4096 rest → length rest + 4096 * k ≡ len → length rest' + 4096 * (k + 1) ≡ len
long_on len k rest rest' lt behind long =
    let enough : 4096 ≤ length rest = long_enough len (length rest) k lt long in
    let less : length rest' ≡ length rest - 4096 = ap (λ (r : List ℕ). length r) behind ∙ length-drop 4096 rest in
    omega (arith, enough, less, long)
