-- Secrets that were read at their words, one after another.
use Rattle.std.proofs.Common.{◌≡◌, ℕ, ◌+◌, ◌<◌, false, List, [], ◌∷◌, ◌++◌, length, take, slice_index_or, Bor, sym, subst}
use Rattle.std.proofs.lemmas.List.{take_more}
use Rattle.secret_words.specs.declared.secrets.Secret.{Secret}
use Rattle.expect_prog.specs.Secrets.{AreSecrets, IsSecret, is_given_in, no_secret, one_more}

module _ (holds : List ℕ → List ℕ → Type 0) where
  pub no_words : (ss : List Secret) → ss ≡ [] → AreSecrets holds [] ss
  no_words ss none = subst (λ (l : List Secret). AreSecrets holds [] l) (sym none) no_secret

  pub secrets_more : (words : List (Bor (List ℕ))) (i : ℕ) (d : Bor (List ℕ)) (ss ss' : List Secret) (s : Secret) → i < length words → AreSecrets holds (take i words) ss → is_given_in ss s.name ≡ false → IsSecret holds (slice_index_or words i d).now s → ss' ≡ ss ++ s ∷ [] → AreSecrets holds (take (i + 1) words) ss'
  secrets_more words i d ss ss' s within before anew given made =
      let more : AreSecrets holds (take (i + 1) words) (ss ++ s ∷ [])
      = subst (λ (ws : List (Bor (List ℕ))). AreSecrets holds ws (ss ++ s ∷ [])) (sym (take_more words i d within)) (one_more (take i words) ss (slice_index_or words i d) s before anew given) in
      subst (λ (l : List Secret). AreSecrets holds (take (i + 1) words) l) (sym made) more
