-- Names, braces and comments at a place of a text.
use Rattle.std.proofs.Common.{◌≡◌, ℕ, ◌+◌, ◌<◌, ◌≤◌, true, false, List, length, drop, get_or, ap}
use Rattle.std.proofs.lemmas.List.{drop_all}
use Rattle.tcl_words.specs.Lists.{is_empty}
use Rattle.tcl_words.specs.Commands.{comment_len, comment_step}
use Rattle.tcl_words.proofs.Readings.{byte_at, reading_here, reading_over}

pub comment_here : (s : List ℕ) (i : ℕ) → i < length s → comment_len (drop i s) ≡ comment_step (λ k. comment_len (drop (i + 1 + k) s)) (get_or s i 0) (drop (i + 1) s)
unfolding comment_len
comment_here s i h = reading_here 0 comment_step s i h

pub comment_over : (s : List ℕ) (i : ℕ) → length s ≤ i → comment_len (drop i s) ≡ 0
unfolding comment_len
comment_over s i h = reading_over 0 comment_step s i h

pub more_behind : (s : List ℕ) (i : ℕ) → i < length s → is_empty (drop i s) ≡ false
more_behind s i h = ap is_empty (byte_at s i h)

pub none_behind : (s : List ℕ) (i : ℕ) → length s ≤ i → is_empty (drop i s) ≡ true
none_behind s i h = ap is_empty (drop_all i s h)
