-- The secrets of scripts, which are read from files.
use Rattle.std.specs.Prelude.{◌≡◌, ◌<◌, ℕ, ◌-◌, ◌==◌, nat_lt, Bool, true, false, ◌&&◌, IsTrue, List, [], ◌∷◌, ◌++◌, length, take, drop, map, bytes_eq, if◌then◌else◌}
use Rattle.std.specs.List.{list_any, position_or_len, before_first, after_first}
use Rattle.std.specs.Borrow.{Bor}
use Rattle.tcl_words.specs.Bytes as ascii
use Rattle.secret_words.specs.declared.secrets.Secret.{Secret}
use Rattle.expect_prog.specs.Variables.{Variables, is_settable}
use Rattle.expect_prog.specs.declared.complaint.Complaint.{Complaint}
use Rattle.expect_prog.specs.declared.complaint.Complaint.TheVariants as line

-- Bytes end with these.
abbrev pub ends_with : List ℕ → List ℕ → Bool
ends_with end bytes = bytes_eq (drop (length bytes - length end) bytes) end

-- Bytes without their last one, if it is this byte.
abbrev pub without_last : ℕ → List ℕ → List ℕ
without_last c bytes = if ends_with (c ∷ []) bytes then take (length bytes - 1) bytes else bytes

-- Bytes without one newline at their end: LF, or CR LF.
abbrev pub unended : List ℕ → List ℕ
unended bytes = if ends_with (ascii.newline ∷ []) bytes then without_last ascii.carriage_return (take (length bytes - 1) bytes) else bytes

-- One of the secrets has this name.
abbrev pub is_given_in : List Secret → List ℕ → Bool
is_given_in ss name = list_any (λ s. bytes_eq s.name name) ss

abbrev pub is_equals : ℕ → Bool
is_equals b = b == ascii.equals

-- NAME and FILE of a word: what stands before its first `=`, and after it.
abbrev pub name_of : List ℕ → List ℕ
name_of word = before_first is_equals word

abbrev pub file_of : List ℕ → List ℕ
file_of word = after_first is_equals word

-- A word has an `=`, and before it a name that a variable can get.
abbrev pub gives_name : List ℕ → Bool
gives_name word = nat_lt (position_or_len is_equals word) (length word) && is_settable (name_of word)

-- The secret of a word: its NAME, and the bytes of the file at FILE without a newline at their end.
pub record IsSecret (holds : List ℕ → List ℕ → Type 0) (word : List ℕ) (s : Secret) : Type 0 where
  pub gives : IsTrue (gives_name word)
  pub named : s.name ≡ name_of word
  pub file : List ℕ
  pub held : holds (file_of word) file
  pub bytes : s.bytes ≡ unended file
  pub some : 0 < length s.bytes

-- The secrets of words, in order. No name is given twice.
pub data AreSecrets (holds : List ℕ → List ℕ → Type 0) : List (Bor (List ℕ)) → List Secret → Type 0 where
  no_secret : AreSecrets holds [] []
  one_more : (words : List (Bor (List ℕ))) (ss : List Secret) (word : Bor (List ℕ)) (s : Secret) → AreSecrets holds words ss → is_given_in ss s.name ≡ false → IsSecret holds word.now s
      → AreSecrets holds (words ++ word ∷ []) (ss ++ s ∷ [])

-- The line for a word that sets no variable, or whose name was given before.
abbrev pub NameLine : List Secret → Bor (List ℕ) → Complaint → Type 0
NameLine before word (line.BadSecret named) = (named ≡ word) × (gives_name word.now ≡ false)
NameLine before word (line.SecretAgain named) = (named ≡ word) × (gives_name word.now ≡ true) × (is_given_in before (name_of word.now) ≡ true)
NameLine before word c = ⊥

-- The line for a file that is too long, or holds no secret.
abbrev pub FileLine : Bor (List ℕ) → Bor (List ℕ) → List ℕ → Complaint → Type 0
FileLine word path file (line.LongList named) = (named ≡ path) × 1048576 < length file
FileLine word path file (line.EmptySecret named) = (named ≡ word) × (unended file ≡ [])
FileLine word path file line.Memory = Unit {0}
FileLine word path file c = ⊥

-- A variable whose value is a secret.
abbrev pub pair_of : Secret → List ℕ × List ℕ
pair_of s = (s.name, s.bytes)

abbrev pub pairs_of : List Secret → Variables
pairs_of ss = map pair_of ss
