-- What functions that evaluate come to.
use Rattle.std.proofs.Common.{◌≡◌, ℕ, zero, suc, ◌==◌, ◌+◌, ◌-◌, ◌^◌, ◌<◌, Bool, false, Option, Result, List, [], ◌∷◌, ◌++◌, drop, length, append_assoc, refl, sym, ◌∙◌, ap, arith}
use Rattle.std.proofs.Math.Path.{fun_ext}
use Rattle.std.proofs.lemmas.List.{append-nil}
use Rattle.tcl_words.specs.Pieces.{Spelled}
use Rattle.tcl_control.specs.Arms.{Arms}
use Rattle.tcl_scripts.specs.Commands.{commands}
use Rattle.tcl_scripts.specs.Literals.{AreLiterals}
use Rattle.tcl_results.specs.declared.code.Code.{Code}
use Rattle.tcl_results.specs.declared.code.Code.TheVariants.{Ok, Error, Return, Break, Continue, Again, AgainLater}
use Rattle.tcl_subst.specs.declared.fill_step.FillStep.{FillStep}
use Rattle.tcl_subst.specs.declared.fill_step.FillStep.TheVariants.{Value, NeedScript, Fault}
use Rattle.tcl_subst.specs.Filling.{Fill, Full as Filled, Asks, Failed as Unfilled}
use Rattle.tcl_subst.specs.Recipes.{Filling, given}
use Rattle.tcl_subst.specs.Rests.{rest}
use Rattle.tcl_eval.specs.Alone.{WaitsAlone, alone}
use Rattle.tcl_eval.specs.declared.out.Leave.{Leave}
use Rattle.tcl_eval.specs.declared.out.Exception.{Exception}
use Rattle.tcl_eval.specs.declared.out.Exception.TheVariants as x
use Rattle.tcl_eval.specs.declared.engine.Engine.{Engine}
use Rattle.tcl_eval.specs.declared.frame.Frame.{Frame}
use Rattle.tcl_eval.specs.declared.frame.End.TheVariants.{StepLimit}
use Rattle.tcl_eval.specs.Tree.{State, Tree, Over}
use Rattle.tcl_eval.specs.Potential.{bodies, frame_weight}
use Rattle.tcl_eval.specs.Meaning.{Next, Eval, on_ok, on_said, tree_of, condition, arms, spread, stepped, fill_word, fill_parts, fill_words, each, eval, sequence}
use Rattle.tcl_eval.specs.Rest.{frames_rest, arm_rest}
use Rattle.tcl_eval.specs.Native.{Spent, at_ok, code_of, ended, flow, laid_rest}

-- so many scripts are left of filling a word
abbrev pub scripts_left : FillStep → ℕ → ℕ
scripts_left (NeedScript n) at = suc (2 ^ 64 - at)
scripts_left (Value v) at = 0
scripts_left (Fault f) at = 0

-- one frame from the laid ones to the stack
pub lay_step : (l m s r : List Frame) (f : Frame) (k : Next) → l ≡ f ∷ m → r ≡ f ∷ s → laid_rest l (frames_rest s) ≡ k → laid_rest m (frames_rest r) ≡ k
lay_step l m s r f k e h i =
    ap (λ x. laid_rest m (frames_rest x)) h
    ∙ (ap (λ x. laid_rest x (frames_rest s)) (sym e) ∙ i)

pub lay_even : (l m s r : List Frame) (f : Frame) (n : ℕ) → l ≡ f ∷ m → r ≡ f ∷ s → bodies l + bodies s ≡ n → bodies m + bodies r ≡ n
lay_even l m s r f n e h i =
    let a : bodies l ≡ frame_weight f + bodies m = ap bodies e in
    let b : bodies r ≡ frame_weight f + bodies s = ap bodies h in
    omega arith

-- ---- what follows a script

-- an exception passes what goes on at `Ok`
pub code_passes : (x : Exception) (go : List ℕ → State → Tree) (k : Next) (v : List ℕ) (st : State) → on_ok go k (code_of x) v st ≡ k (code_of x) v st
code_passes x.Error go k v st = refl
code_passes (x.Return c) go k v st = refl
code_passes x.Break go k v st = refl
code_passes x.Continue go k v st = refl
code_passes x.Again go k v st = refl
code_passes x.AgainLater go k v st = refl

-- other codes pass what goes on at `Ok`
passes : (f g on : List ℕ → State → Tree) (k : Next) (c : Code) (v : List ℕ) (st : State) → ((v : List ℕ) (st : State) → f v st ≡ g v st) → on_ok f (on_ok on k) c v st ≡ on_ok g k c v st
passes f g on k Ok v st same = same v st
passes f g on k Error v st same = refl
passes f g on k (Return c) v st same = refl
passes f g on k Break v st same = refl
passes f g on k Continue v st same = refl
passes f g on k Again v st same = refl
passes f g on k AgainLater v st same = refl

pub passed_on : (f g on : List ℕ → State → Tree) (k : Next) → ((v : List ℕ) (st : State) → f v st ≡ g v st) → on_ok f (on_ok on k) ≡ on_ok g k
passed_on f g on k same = fun_ext (λ c. fun_ext (λ v. fun_ext (λ st. passes f g on k c v st same)))

each_code : (k : Next) (c : Code) (v : List ℕ) (st : State) → on_ok (at_ok k) k c v st ≡ k c v st
each_code k Ok v st = refl
each_code k Error v st = refl
each_code k (Return c) v st = refl
each_code k Break v st = refl
each_code k Continue v st = refl
each_code k Again v st = refl
each_code k AgainLater v st = refl

-- what follows a script is what follows it at `Ok` and at other codes
any_code : (k : Next) → on_ok (at_ok k) k ≡ k
any_code k = fun_ext (λ c. fun_ext (λ v. fun_ext (λ st. each_code k c v st)))

-- a value within a command that is the command's
pub word_came : (r : Result (List ℕ) Leave) (st : State) (k : Next) → flow r st (on_ok (at_ok k) k) (at_ok k) ≡ ended r st k
word_came r st k = ap (λ (n : Next). flow r st n (at_ok k)) (any_code k)

-- one part behind another
pub spent_on : (a b c : Engine) (paid : ℕ) → Spent a b 0 0 → Spent b c 0 paid → Spent a c 0 paid
spent_on a b c paid p q = record { kept = q.kept ∙ p.kept; less = omega (arith, p.less, q.less); down = omega (arith, p.down, q.down) }

-- ---- conditions of `if`

-- the first condition, and the arms behind it
pub arms_some : (depth : ℕ) (l m : Arms) (test body : List ℕ) (k : Next) (st : State) → l.0 ≡ (test, body) ∷ m.0 → m.1 ≡ l.1
    → on_said (tree_of test) k (λ t st. condition (eval depth) t k (arm_rest depth body m k) st) st ≡ arms (eval depth) l.0 l.1 k st
arms_some depth l m test body k st first same =
    ap (λ (x : List (List ℕ × List ℕ)). arms (eval depth) x m.1 k st) (sym first) ∙ ap (λ (o : Option (List ℕ)). arms (eval depth) l.0 o k st) same

-- ---- words

-- what is behind a word passes its errors and codes on
pub word_passes : (ev : Eval) (p : Fill) (k : Next) (on go : List ℕ → State → Tree) (st : State) → fill_word ev p (on_ok on k) go st ≡ fill_word ev p k go st
word_passes ev (Filled v) k on go st = refl
word_passes ev (Asks text more) k on go st = ap (λ (x : Next). ev text x st) (passed_on _ _ on k (λ v st. word_passes ev (more v st.vars) k on go st))
word_passes ev (Unfilled f name) k on go st = refl

-- behind a script of a word
pub word_frame : (ev : Eval) (f : Filling) (k : Next) (on : List ℕ → State → Tree)
    → on_ok (λ v st. fill_word ev (rest (given v f) st.vars) (on_ok on k) on st) (on_ok on k) ≡ on_ok (λ v st. fill_word ev (rest (given v f) st.vars) k on st) k
word_frame ev f k on = passed_on _ _ on k (λ v st. word_passes ev (rest (given v f) st.vars) k on on st)

-- the word at a place, and the words behind it
pub words_some : (ev : Eval) (to next : ℕ) (w : Spelled) (words : List Spelled) (done : List (List ℕ)) (k : Next) (go : List (List ℕ) → State → Tree) (st : State) → drop next words ≡ w ∷ drop to words
    → fill_parts ev w k (λ v st. on_said (spread w.expand v done) k (λ done st. fill_words ev (drop to words) done k go st) st) st ≡ fill_words ev (drop next words) done k go st
words_some ev to next w words done k go st is = ap (λ (l : List Spelled). fill_words ev l done k go st) (sym is)

stepped_none : (n : ℕ) (st : State) (go : State → Tree) → n ≡ 0 → stepped n st go ≡ Over StepLimit st
stepped_none zero st go e = refl
stepped_none (suc n) st go e = absurd (omega arith)

-- no step is left for a turn of a `foreach`
pub each_spent : (ev : Eval) (names : List (List ℕ)) (left : List (List (List ℕ))) (body : List ℕ) (k : Next) (st st' : State)
    → (length left == 0) ≡ false → st.left ≡ 0 → st' ≡ st → Over StepLimit st' ≡ each ev names left body k st
each_spent ev names [] body k st st' some none same = absurd (cc)
each_spent ev names (es ∷ left) body k st st' some none same = ap (λ (s : State). Over StepLimit s) same ∙ sym (stepped_none st.left st _ none)

-- words that are literals are filled with those
pub literals_fill : (ev : Eval) (words : List Spelled) (values done : List (List ℕ)) (k : Next) (go : List (List ℕ) → State → Tree) (st : State) → AreLiterals words values → fill_words ev words done k go st ≡ go (done ++ values) st
literals_fill ev [] [] done k go st a = ap (λ (l : List (List ℕ)). go l st) (sym (append-nil done))
literals_fill ev [] (v ∷ values) done k go st a = absurd a
literals_fill ev (w ∷ words) [] done k go st a = absurd a
literals_fill ev (w ∷ words) (v ∷ values) done k go st a =
    ap (λ (f : Fill). fill_word ev f k (λ v st. on_said (spread w.expand v done) k (λ done st. fill_words ev words done k go st) st) st) (a.0.1 st.vars)
    ∙ ap (λ (b : Bool). on_said (spread b v done) k (λ done st. fill_words ev words done k go st) st) a.0.0
    ∙ literals_fill ev words values (done ++ v ∷ []) k go st a.1
    ∙ ap (λ (l : List (List ℕ)). go l st) (append_assoc done (v ∷ []) values)

-- what follows the script that a word is
pub alone_frame : (ev : Eval) (f : Filling) (k : Next) (on : List ℕ → State → Tree) → WaitsAlone f
    → on_ok (λ v st. fill_word ev (rest (given v f) st.vars) (on_ok on k) on st) (on_ok on k) ≡ on_ok (λ v st. fill_word ev (alone v) k on st) k
alone_frame ev f k on waits =
    passed_on _ _ on k (λ v st. ap (λ (x : Fill). fill_word ev x (on_ok on k) on st) (waits v st.vars) ∙ word_passes ev _ k on on st)

-- ---- scripts

-- a script, one level deeper
pub deeper : (n : ℕ) (script : List ℕ) (k : Next) (st : State) → 0 < n → sequence (eval (n - 1)) script (commands script) k [] st ≡ eval n script k st
deeper zero script k st some = absurd (omega arith)
deeper (suc n) script k st some = let e : suc n - 1 ≡ n = omega arith in ap (λ (m : ℕ). sequence (eval m) script (commands script) k [] st) e
