-- As many bytes decide whether a match of a text begins as of the tree that is read of it.
use Rattle.std.proofs.Common.{◌≡◌, ℕ, List, Bool, Option, Some, None, IfSome, IsSomeAnd, subst}
use Rattle.std.specs.Str.{chars}
use Rattle.regex_hir.specs.Meaning.{meaning}
use Rattle.regex_hir.specs.declared.hir.Hir.{Hir}
use Rattle.regex_syntax.specs.Brackets.{Nested}
use Rattle.regex_syntax.specs.Captures.{SameCaptures}
use Rattle.regex_syntax.specs.Grammar.{Names, read}
use Rattle.regex_syntax.specs.Verdict.{Reads}
use Rattle.regex_hir.specs.Re.{Re}
use Rattle.exp_match.specs.Reach.{HasOpening, IsReach, Opens, beginning, reach}
use Rattle.exp_match.specs.Unbuilt.{IsGivenFor}
use Rattle.exp_match.specs.Written.{config_of}

by_reading : (a : Re) (m : ℕ) → reach (beginning a) ≡ Some m → (Q : Nested Re × Names → Type 0) → ((x : Nested Re × Names) → Q x → SameCaptures a x.0.value)
    → (o : Option (Nested Re × Names)) → IsSomeAnd o Q → IsSomeAnd o (λ p. HasOpening m p.0.value)
by_reading a m is Q same None q = absurd q
by_reading a m is Q same (Some x) q = (a, same x q, is)

pub text_opens : (given : List ℕ) (nocase lines : Bool) (hir : Hir) (names : Names) → Reads (config_of nocase lines) given hir names
    → (known : Option ℕ) → IsReach known (beginning (meaning hir)) → (source : List ℕ) → IsGivenFor source given
    → IfSome known (Opens (record { source = source; nocase = nocase; lines = lines }))
unfolding Reads
text_opens given nocase lines hir names reads None is source for = tt
text_opens given nocase lines hir names reads (Some m) is source for =
    subst (λ (text : List ℕ). IsSomeAnd (read (config_of nocase lines) text) (λ p. HasOpening m p.0.value)) for
    (by_reading (meaning hir) m is _ (λ x q. q.1) (read (config_of nocase lines) (chars given)) reads)
