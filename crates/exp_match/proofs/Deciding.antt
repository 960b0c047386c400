-- What is left to decide, an entry after another.
use Rattle.std.proofs.Common.{◌≡◌, ℕ, ◌+◌, ◌<◌, ◌≤◌, List, length, drop, get_or, Option, None, refl, sym, ap, subst, ◌∙◌, ⊎_elim, arith}
use Rattle.std.proofs.lemmas.Bool.{cases_lt}
use Rattle.std.proofs.lemmas.List.{at_drop_more, at_drop_all}
use Rattle.std.proofs.lemmas.Option.{get_or_from_slice_get}
use Rattle.exp_match.specs.Choice.{Found, FindsIn, NoneBefore}
use Rattle.exp_match.specs.Decide.{found_in, chosen_or, decide_from, full_or_none, decide}
use Rattle.exp_match.specs.declared.entry.Entry.{Entry}

module _ (entries : List Entry) (groups bytes : List ℕ) (n : ℕ) (e : Entry) (is : e ≡ get_or entries n e) where
  pub none_more : FindsIn groups e bytes None → NoneBefore entries groups bytes n → NoneBefore entries groups bytes (n + 1)
  none_more here before k x lt there =
      ⊎_elim (λ (less : k < n). before k x less there)
      (λ (more : n ≤ k).
      let place : n ≡ k = omega arith in
      let same : e ≡ x = is ∙ ap (λ i. get_or entries i e) place ∙ get_or_from_slice_get entries k x e there in
      subst (λ y. FindsIn groups y bytes None) same here)
      (cases_lt k n)

module _ (entries : List Entry) (groups bytes : List ℕ) (most n : ℕ) where
  -- the entries from n on decide
  abbrev pub IsLeft : Type 0
  IsLeft = decide_from n (drop n entries) groups bytes (full_or_none entries groups bytes most) ≡ decide entries groups bytes most

  pub by_entry : IsLeft → n < length entries → (e : Entry) → e ≡ get_or entries n e → (found : Option Found) → found ≡ found_in groups e bytes
      → chosen_or n found (decide_from (n + 1) (drop (n + 1) entries) groups bytes (full_or_none entries groups bytes most)) ≡ decide entries groups bytes most
  by_entry left lt e is found finds =
      let other = full_or_none entries groups bytes most in
      let on = decide_from (n + 1) (drop (n + 1) entries) groups bytes other in
      ap (λ f. chosen_or n f on) (finds ∙ ap (λ x. found_in groups x bytes) is)
      ∙ sym (at_drop_more (λ es. decide_from n es groups bytes other) entries n e lt) ∙ left

  pub at_end : IsLeft → length entries ≤ n → full_or_none entries groups bytes most ≡ decide entries groups bytes most
  at_end left past = sym (at_drop_all (λ es. decide_from n es groups bytes (full_or_none entries groups bytes most)) entries n past) ∙ left

pub at_start : (entries : List Entry) (groups bytes : List ℕ) (most : ℕ) → IsLeft entries groups bytes most 0
unfolding decide
at_start entries groups bytes most = refl
