-- A desk that was turned so far, and looked at since.
use Rattle.std.proofs.Common.{◌≡◌, List, sym, ap, subst}
use Rattle.std.specs.declared.io.traits.Read.{Ghosts as ReadGhosts}
use Rattle.child_hands.specs.declared.keeper.Keeper.{Ghosts}
use Rattle.child_desk.specs.declared.ends.Ends.{Ends}
use Rattle.child_desk.specs.declared.book.Book.{Book}
use Rattle.child_desk.specs.declared.line.ScriptState.{ScriptState}
use Rattle.child_desk.specs.Book.{Looks, logged}
use Rattle.child_hands.specs.Record.{events_in}
use Rattle.child_desk.specs.Heard.{HearsAll, recorded}
use Rattle.child_desk.specs.Line.{HearsNoHand, KeepsAll, Leaves}
use Rattle.child_desk.proofs.Kept.{leaves_all, leaves_same, all_left, all_then, all_still}
use Rattle.child_desk.proofs.Hears.{all_silent}

module _ {K O : Type 0} {g : Ghosts K O} {r : ReadGhosts O} where
  pub kept_same : (xs ys zs : List ScriptState) (ds es fs : List (Ends K O g r)) (a b c : Book) → KeepsAll xs ds a ys es b → zs ≡ ys → HearsNoHand es fs → c ≡ b → KeepsAll xs ds a zs fs c
  kept_same xs ys zs ds es fs a b c k lines hands book =
      subst (λ (d : Book). KeepsAll xs ds a zs fs d) (sym book)
      (subst (λ (ls : List ScriptState). KeepsAll xs ds a ls fs b) (sym lines) (all_then xs ys ys ds es fs a b b k (all_still ys es fs b b (leaves_all b) hands)))

  -- nothing was taken and nothing was asked
  pub kept_left : (xs ys : List ScriptState) (ds es : List (Ends K O g r)) (a b : Book) → ys ≡ xs → es ≡ ds → Leaves a b → KeepsAll xs ds a ys es b
  kept_left xs ys ds es a b lines ends leaves =
      subst (λ (ls : List ScriptState). KeepsAll xs ds a ls es b) (sym lines)
      (subst (λ (fs : List (Ends K O g r)). KeepsAll xs ds a xs fs b) (sym ends) (all_left xs ds a b leaves))

  pub heard_left : (ds es : List (Ends K O g r)) (a b : Book) → es ≡ ds → logged b ≡ logged a → HearsAll ds (logged a) es (logged b)
  heard_left ds es a b ends log =
      subst (λ (fs : List (Ends K O g r)). HearsAll ds (logged a) fs (logged b)) (sym ends) (all_silent ds (logged a) (logged b) (λ s c. ap (recorded s c) log))

  -- nothing happened while a desk waited for room
  pub kept_waiting : (xs ys : List ScriptState) (ds es : List (Ends K O g r)) (a b : Book) → ys ≡ xs → es ≡ ds → Looks a b → KeepsAll xs ds a ys es b
  kept_waiting xs ys ds es a b lines ends looks = kept_left xs ys ds es a b lines ends (leaves_same a b looks)

  pub heard_waiting : (ds es : List (Ends K O g r)) (a b : Book) → es ≡ ds → Looks a b → HearsAll ds (logged a) es (logged b)
  heard_waiting ds es a b ends looks = heard_left ds es a b ends (ap events_in looks.items)

  -- a desk said that nothing earlier comes, and rested
  pub stood_by : (xs ys zs : List ScriptState) (ds es fs : List (Ends K O g r)) (a b c : Book) → ys ≡ xs → es ≡ ds → Leaves a b → zs ≡ ys → HearsNoHand es fs → c ≡ b → KeepsAll xs ds a zs fs c
  stood_by xs ys zs ds es fs a b c lines ends leaves more hands book =
      kept_same xs ys zs ds es fs a b c (kept_left xs ys ds es a b lines ends leaves) more hands book
