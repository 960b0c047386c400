use Rattle.std.proofs.Common.{◌≡◌, false, List, subst}
use Rattle.secret_words.specs.declared.secrets.Secret.{Secret}
use Rattle.expect_prog.specs.Secrets.{is_given_in}
use Rattle.expect_prog.proofs.SecretsRead.{no_words, secrets_more}
use Rattle.expect_prog.proofs.secrets.secrets_given.Goals as goal

pub loop-word-init : goal.loop-word-init
loop-word-init g c = no_words g.S.Sources.holds c.new-secrets.result c.new-secrets.ensures

pub loop-word-preserved : goal.loop-word-preserved
loop-word-preserved g c =
    secrets_more g.S.Sources.holds c.args.words.now c.loop-word.word-index _ c.loop-word.secrets c.push.new.self c.in_ok-secret.secret c.loop-word-test.true c.loop-word.invariant
    (subst (λ (ss : List Secret). is_given_in ss c.in_ok-secret.secret.name ≡ false) c.as_slice.ensures c.in_ok-secret.ensures.anew) c.in_ok-secret.ensures.given c.in_ok-push.ensures.pushed
