-- Sources that were read at their paths, one after another.
use Rattle.std.proofs.Common.{◌≡◌, ℕ, ◌+◌, ◌<◌, List, [], ◌∷◌, ◌++◌, length, take, slice_index_or, Bor, sym, subst}
use Rattle.std.proofs.lemmas.List.{take_more}
use Rattle.dialogue_sched.proofs.Pairing.{Paired-push}
use Rattle.expect_prog.specs.Given.{AreHeld}

pub held_more : (holds : List ℕ → List ℕ → Type 0) (files : List (Bor (List ℕ))) (i : ℕ) (d : Bor (List ℕ)) (sources sources' : List (List ℕ)) (source : List ℕ) → i < length files → AreHeld holds (take i files) sources → holds (slice_index_or files i d).now source → sources' ≡ sources ++ source ∷ [] → AreHeld holds (take (i + 1) files) sources'
held_more holds files i d sources sources' source within held read made =
    let file = slice_index_or files i d in
    let more : AreHeld holds (take i files ++ file ∷ []) (sources ++ source ∷ [])
    = Paired-push (λ (f : Bor (List ℕ)) (s : List ℕ). holds f.now s) (take i files) sources file source held read in
    let paths : AreHeld holds (take (i + 1) files) (sources ++ source ∷ [])
    = subst (λ (fs : List (Bor (List ℕ))). AreHeld holds fs (sources ++ source ∷ [])) (sym (take_more files i d within)) more in
    subst (λ (ss : List (List ℕ)). AreHeld holds (take (i + 1) files) ss) (sym made) paths
