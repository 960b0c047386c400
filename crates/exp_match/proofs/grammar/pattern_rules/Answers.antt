use Rattle.std.specs.Str.{chars}
use Rattle.exp_match.proofs.Accepting.{pattern_parts, a_pattern}
use Rattle.exp_match.proofs.Derived.{derived}
use Rattle.exp_match.proofs.Followed.{followed}
use Rattle.exp_match.proofs.Meant.{token_means}
use Rattle.exp_match.proofs.grammar.pattern_rules.Goals as goal

pub returns : goal.returns
returns c = λ text. (
  λ is. let p = pattern_parts text is in (p.0, p.1, derived token_means (chars text) p.2),
  λ r. a_pattern text r.0 r.1 (followed (chars text) r.2),
)
