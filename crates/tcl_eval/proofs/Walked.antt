-- An expression's value, by how far its evaluation comes with the operands that were worked out.
use Rattle.std.proofs.Common.{◌≡◌, ℕ, Bool, true, false, List, [], ◌∷◌, ◌++◌, Option, Some, None, Result, Ok as Fine, Err, ℤ, ap, sym, refl, ◌∙◌, if◌then◌else◌}
use Rattle.std.proofs.Math.Path.{fun_ext}
use Rattle.tcl_words.specs.Pieces.{Spelled}
use Rattle.tcl_expr.specs.declared.faults.ExprFault.{ExprFault}
use Rattle.tcl_expr.specs.Number.{number_text}
use Rattle.tcl_expr.specs.Truth.{truth_of}
use Rattle.tcl_expr.specs.Tree.{Tree as Expression, number, word, operand, unary, binary, lazy, choice}
use Rattle.tcl_expr.specs.Value.{Valued, valued, failed, asks, ◌>>=◌, computed as computed_value, on_test, second, eval, outcome, outcome_of, known, faulty, needs, prefixed, combined, decides, on_truth, bit, bit_text}
use Rattle.tcl_results.specs.declared.code.Code.TheVariants.{Error}
use Rattle.tcl_results.specs.Texts.{expr_fault}
use Rattle.tcl_eval.specs.Tree.{State}
use Rattle.tcl_eval.specs.Meaning.{To, on_bool, tested, computed, value_from}

module _ {A : Type 0} (word_value : Spelled → To A → (List ℕ → State → A) → State → A) where
  abbrev Go : Type 0
  Go = List ℕ → List (List ℕ) → State → A

  -- what follows, by how far it comes
  abbrev pub walked : Valued → Expression → List (List ℕ) → To A → Go → State → A
  walked (valued a left) t vs k go st = go a left st
  walked (failed f) t vs k go st = k Error (expr_fault [] f) st
  walked (asks w) t vs k go st = word_value w k (λ v st. value_from word_value t (vs ++ v ∷ []) k go st) st

  abbrev pub Way : Type 0
  Way = List (List ℕ) → To A → Go → State → A

  -- A tree over these operands goes this way with the operands that are left, and with one operand more it goes the same way with one more left.
  record Goes (way : Way) (t : Expression) (vs left : List (List ℕ)) : Type 0 where
    now : (k : To A) (go : Go) (st : State) → value_from word_value t vs k go st ≡ way left k go st
    later : (v : List ℕ) (k : To A) (go : Go) (st : State) → value_from word_value t (vs ++ v ∷ []) k go st ≡ way (left ++ v ∷ []) k go st

  -- one operand more behind those of a value is left with it
  abbrev Stays : Valued → Expression → List (List ℕ) → Type 0
  Stays (valued a left) t vs = (v : List ℕ) (k : To A) (go : Go) (st : State) → value_from word_value t (vs ++ v ∷ []) k go st ≡ go a (left ++ v ∷ []) st
  Stays (failed f) t vs = Unit {0}
  Stays (asks w) t vs = Unit {0}

  record Walks (r : Valued) (t : Expression) (vs : List (List ℕ)) : Type 0 where
    is : (k : To A) (go : Go) (st : State) → value_from word_value t vs k go st ≡ walked r t vs k go st
    stays : Stays r t vs

  module _ (t : Expression) (vs : List (List ℕ)) where
    goes_failed : (f : ExprFault) (left : List (List ℕ)) → Goes (λ left k go st. k Error (expr_fault [] f) st) t vs left → Walks (failed f) t vs
    goes_failed f left g = record { is = g.now; stays = tt }

    goes_value : (a : List ℕ) (left : List (List ℕ)) → Goes (λ left k go st. go a left st) t vs left → Walks (valued a left) t vs
    goes_value a left g = record { is = g.now; stays = g.later }

    goes_computed : (r : Result ℤ ExprFault) (left : List (List ℕ)) → Goes (λ left k go st. computed r k (λ v st. go v left st) st) t vs left → Walks (computed_value left r) t vs
    goes_computed (Fine z) left g = goes_value (number_text z) left g
    goes_computed (Err f) left g = goes_failed f left g

    goes_test : (o : Option Bool) (a : List ℕ) (way : Bool → Way) (left : List (List ℕ)) (f : Bool → Valued)
        → Goes (λ left k go st. on_bool o a k (λ b st. way b left k go st) st) t vs left
        → ((b : Bool) → Goes (way b) t vs left → Walks (f b) t vs)
        → Walks (on_test a o f) t vs
    goes_test None a way left f g h = record { is = g.now; stays = tt }
    goes_test (Some b) a way left f g h = h b g

    goes_if : (c : Bool) (yes' no' : Way) (left : List (List ℕ)) (x y : Valued)
        → Goes (λ left k go st. if c then yes' left k go st else no' left k go st) t vs left
        → (Goes yes' t vs left → Walks x t vs) → (Goes no' t vs left → Walks y t vs)
        → Walks (if c then x else y) t vs
    goes_if true yes' no' left x y g h i = h g
    goes_if false yes' no' left x y g h i = i g

    -- the way leads into the value of a part
    goes_into : (then' : To A → Go → Go) (y : Valued) (part : Expression) (left : List (List ℕ)) (f : List ℕ → List (List ℕ) → Valued)
        → Goes (λ left k go st. value_from word_value part left k (then' k go) st) t vs left
        → Walks y part left
        → ((b : List ℕ) (left : List (List ℕ)) → Goes (λ left k go st. then' k go b left st) t vs left → Walks (f b left) t vs)
        → Walks (y >>= f) t vs
    goes_into then' (valued b left') part left f g w h =
        h b left' (record {
          now = λ k go st. g.now k go st ∙ w.is k (then' k go) st;
          later = λ v k go st. g.later v k go st ∙ w.stays v k (then' k go) st;
        })
    goes_into then' (failed e) part left f g w h = record { is = λ k go st. g.now k go st ∙ w.is k (then' k go) st; stays = tt }
    goes_into then' (asks w') part left f g w h = record {
      is = λ k go st.
          g.now k go st ∙ w.is k (then' k go) st
          ∙ ap (λ (go' : List ℕ → State → A). word_value w' k go' st) (fun_ext (λ v. fun_ext (λ st. sym (g.later v k go st))));
      stays = tt;
    }

    -- the way is the value of a part
    goes_straight : (y : Valued) (part : Expression) (left : List (List ℕ)) → Goes (λ left k go st. value_from word_value part left k go st) t vs left → Walks y part left → Walks y t vs
    goes_straight (valued b left') part left g w = record { is = λ k go st. g.now k go st ∙ w.is k go st; stays = λ v k go st. g.later v k go st ∙ w.stays v k go st }
    goes_straight (failed e) part left g w = record { is = λ k go st. g.now k go st ∙ w.is k go st; stays = tt }
    goes_straight (asks w') part left g w = record {
      is = λ k go st.
          g.now k go st ∙ w.is k go st
          ∙ ap (λ (go' : List ℕ → State → A). word_value w' k go' st) (fun_ext (λ v. fun_ext (λ st. sym (g.later v k go st))));
      stays = tt;
    }

  walks : (t : Expression) (vs : List (List ℕ)) → Walks (eval t vs) t vs
  unfolding eval
  walks (number z) vs = record { is = λ k go st. refl; stays = λ v k go st. refl }
  walks (word w) vs = record { is = λ k go st. refl; stays = λ v k go st. refl }
  walks (operand w) [] = record { is = λ k go st. refl; stays = tt }
  walks (operand w) (v ∷ vs) = record { is = λ k go st. refl; stays = λ u k go st. refl }
  walks (unary op t) vs =
      goes_into (unary op t) vs (λ k go a vs st. computed (prefixed op a) k (λ v st. go v vs st) st) (eval t vs) t vs
      (λ a vs. computed_value vs (prefixed op a)) (record { now = λ k go st. refl; later = λ v k go st. refl }) (walks t vs)
      (λ a left g. goes_computed (unary op t) vs (prefixed op a) left g)
  walks (binary op l r) vs =
      goes_into (binary op l r) vs (λ k go a vs st. value_from word_value r vs k (λ b vs st. computed (combined op a b) k (λ v st. go v vs st) st) st) (eval l vs) l vs
      (λ a vs. eval r vs >>= λ b vs. computed_value vs (combined op a b)) (record { now = λ k go st. refl; later = λ v k go st. refl }) (walks l vs)
      (λ a left g.
      goes_into (binary op l r) vs (λ k go b vs st. computed (combined op a b) k (λ v st. go v vs st) st) (eval r left) r left
      (λ b vs. computed_value vs (combined op a b)) g (walks r left)
      (λ b left g. goes_computed (binary op l r) vs (combined op a b) left g))
  walks (lazy op l r) vs =
      goes_into (lazy op l r) vs
      (λ k go a vs st. tested a k (λ t st. if decides op t then go (bit_text t) vs st else value_from word_value r vs k (λ b vs st. computed (on_truth b (truth_of b) (λ t. Fine (bit t))) k (λ v st. go v vs st) st) st) st)
      (eval l vs) l vs
      (λ a vs. on_test a (truth_of a) (λ t. if decides op t then valued (bit_text t) vs else (eval r vs >>= second)))
      (record { now = λ k go st. refl; later = λ v k go st. refl }) (walks l vs)
      (λ a left g.
      goes_test (lazy op l r) vs (truth_of a) a
      (λ t left k go st. if decides op t then go (bit_text t) left st else value_from word_value r left k (λ b vs st. computed (on_truth b (truth_of b) (λ t. Fine (bit t))) k (λ v st. go v vs st) st) st)
      left (λ t. if decides op t then valued (bit_text t) left else (eval r left >>= second)) g
      (λ t g.
      goes_if (lazy op l r) vs (decides op t) (λ left k go st. go (bit_text t) left st)
      (λ left k go st. value_from word_value r left k (λ b vs st. computed (on_truth b (truth_of b) (λ t. Fine (bit t))) k (λ v st. go v vs st) st) st)
      left (valued (bit_text t) left) (eval r left >>= second) g
      (λ g. goes_value (lazy op l r) vs (bit_text t) left g)
      (λ g.
      goes_into (lazy op l r) vs (λ k go b vs st. computed (on_truth b (truth_of b) (λ t. Fine (bit t))) k (λ v st. go v vs st) st) (eval r left) r left
      second g (walks r left)
      (λ b left g. goes_computed (lazy op l r) vs (on_truth b (truth_of b) (λ t. Fine (bit t))) left g))))
  walks (choice c a b) vs =
      goes_into (choice c a b) vs
      (λ k go x vs st. tested x k (λ t st. if t then value_from word_value a vs k go st else value_from word_value b vs k go st) st)
      (eval c vs) c vs
      (λ x vs. on_test x (truth_of x) (λ t. if t then eval a vs else eval b vs))
      (record { now = λ k go st. refl; later = λ v k go st. refl }) (walks c vs)
      (λ x left g.
      goes_test (choice c a b) vs (truth_of x) x
      (λ t left k go st. if t then value_from word_value a left k go st else value_from word_value b left k go st)
      left (λ t. if t then eval a left else eval b left) g
      (λ t g.
      goes_if (choice c a b) vs t (λ left k go st. value_from word_value a left k go st) (λ left k go st. value_from word_value b left k go st)
      left (eval a left) (eval b left) g
      (λ g. goes_straight (choice c a b) vs (eval a left) a left g (walks a left))
      (λ g. goes_straight (choice c a b) vs (eval b left) b left g (walks b left))))

  module _ (t : Expression) (vs : List (List ℕ)) (k : To A) (go : List ℕ → State → A) (st : State) where
    abbrev alone : Go
    alone v vs st = go v st

    known_by : (r : Valued) → Walks r t vs → (a : List ℕ) → outcome_of r ≡ known a → value_from word_value t vs k alone st ≡ go a st
    known_by (valued b left) w a e = let q : b ≡ a = cc in w.is k alone st ∙ ap (λ b. go b st) q
    known_by (failed f) w a e = absurd cc
    known_by (asks x) w a e = absurd cc

    faulty_by : (r : Valued) → Walks r t vs → (f : ExprFault) → outcome_of r ≡ faulty f → value_from word_value t vs k alone st ≡ k Error (expr_fault [] f) st
    faulty_by (valued b left) w f e = absurd cc
    faulty_by (failed g) w f e = let q : g ≡ f = cc in w.is k alone st ∙ ap (λ f. k Error (expr_fault [] f) st) q
    faulty_by (asks x) w f e = absurd cc

    needs_by : (r : Valued) → Walks r t vs → (x : Spelled) → outcome_of r ≡ needs x → value_from word_value t vs k alone st ≡ word_value x k (λ v st. value_from word_value t (vs ++ v ∷ []) k alone st) st
    needs_by (valued b left) w x e = absurd cc
    needs_by (failed f) w x e = absurd cc
    needs_by (asks y) w x e =
        let q : y ≡ x = cc in
        w.is k alone st ∙ ap (λ y. word_value y k (λ v st. value_from word_value t (vs ++ v ∷ []) k alone st) st) q

    pub value_known : (a : List ℕ) → outcome t vs ≡ known a → value_from word_value t vs k (λ v vs st. go v st) st ≡ go a st
    unfolding outcome
    value_known a e = known_by (eval t vs) (walks t vs) a e

    pub value_faulty : (f : ExprFault) → outcome t vs ≡ faulty f → value_from word_value t vs k (λ v vs st. go v st) st ≡ k Error (expr_fault [] f) st
    unfolding outcome
    value_faulty f e = faulty_by (eval t vs) (walks t vs) f e

    pub value_needs : (x : Spelled) → outcome t vs ≡ needs x → value_from word_value t vs k (λ v vs st. go v st) st ≡ word_value x k (λ v st. value_from word_value t (vs ++ v ∷ []) k (λ v vs st. go v st) st) st
    unfolding outcome
    value_needs x e = needs_by (eval t vs) (walks t vs) x e
