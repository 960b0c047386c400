-- What a word is that may be a flag of `spawn` other than -noecho, of `exec` other than -keepnewline, or of `send`.
use Rattle.std.proofs.Common.{◌≡◌, ◌≢◌, ℕ, Bool, true, false, ◌||◌, List, refl, codes}
use Rattle.std.proofs.lemmas.Bool.{cond_both}
use Rattle.std.specs.Str.{bytes_eq}
use Rattle.command_table.specs.Flags.{spawn_role, exec_role, send_role, other_role}
use Rattle.command_table.specs.declared.flags.Own.{Own}
use Rattle.command_table.specs.declared.flags.Own.TheVariants as switch
use Rattle.command_table.specs.declared.flags.Role.{Role}
use Rattle.command_table.specs.declared.flags.Role.TheVariants as role
use Rattle.expect_grammar.specs.FlagRules.{IsChoice, IsShown}
use Rattle.expect_grammar.proofs.Words.{found, either, neither, missed}

-- what a word of a role is, if it is no other flag of the command
pub data OtherIs (own : Own) : List ℕ → Role → Type 0 where
  choice : (word : List ℕ) (on : Bool) → IsChoice word on own → OtherIs own word (role.Choice on)
  shown : (word : List ℕ) → IsShown word own → OtherIs own word role.Shown
  ignore : own ≡ switch.Spawn → OtherIs own (codes "-ignore") role.ShownWithValue
  none : (word : List ℕ) → ((on : Bool) → ¬ IsChoice word on own) → (own ≡ switch.Spawn → word ≢ codes "-ignore") → ¬ IsShown word own → OtherIs own word role.Bad

no_terminal : (word : List ℕ) → bytes_eq word (codes "-tty") ≡ false → bytes_eq word (codes "-notty") ≡ false → (on : Bool) → ¬ IsChoice word on switch.Spawn
no_terminal word t n true IsChoice.tty = missed word (codes "-tty") t refl
no_terminal word t n false IsChoice.notty = missed word (codes "-notty") n refl

no_pace : (word : List ℕ) → bytes_eq word (codes "-h") ≡ false → bytes_eq word (codes "-s") ≡ false → (on : Bool) → ¬ IsChoice word on switch.Send
no_pace word h s true IsChoice.human = missed word (codes "-h") h refl
no_pace word h s false IsChoice.slow = missed word (codes "-s") s refl

no_shown : (word : List ℕ) → bytes_eq word (codes "-nottycopy") || bytes_eq word (codes "-nottyinit") ≡ false → ¬ IsShown word switch.Spawn
no_shown word n IsShown.nottycopy = missed word (codes "-nottycopy") (neither (bytes_eq word (codes "-nottycopy")) (bytes_eq word (codes "-nottyinit")) n).0 refl
no_shown word n IsShown.nottyinit = missed word (codes "-nottyinit") (neither (bytes_eq word (codes "-nottycopy")) (bytes_eq word (codes "-nottyinit")) n).1 refl

spawn_is : (word : List ℕ) → OtherIs switch.Spawn word (spawn_role word)
spawn_is word =
    cond_both (bytes_eq word (codes "-tty")) _ _ (OtherIs switch.Spawn word)
    (found word (codes "-tty") (λ w. OtherIs switch.Spawn w (role.Choice true)) (OtherIs.choice (codes "-tty") true IsChoice.tty))
    (λ t. cond_both (bytes_eq word (codes "-notty")) _ _ (OtherIs switch.Spawn word)
    (found word (codes "-notty") (λ w. OtherIs switch.Spawn w (role.Choice false)) (OtherIs.choice (codes "-notty") false IsChoice.notty))
    (λ n. cond_both (bytes_eq word (codes "-nottycopy") || bytes_eq word (codes "-nottyinit")) _ _ (OtherIs switch.Spawn word)
    (λ z. OtherIs.shown word (either word (codes "-nottycopy") (codes "-nottyinit") (λ w. IsShown w switch.Spawn) IsShown.nottycopy IsShown.nottyinit z))
    (λ s. cond_both (bytes_eq word (codes "-ignore")) _ _ (OtherIs switch.Spawn word)
    (found word (codes "-ignore") (λ w. OtherIs switch.Spawn w role.ShownWithValue) (OtherIs.ignore refl))
    (λ i. OtherIs.none word (no_terminal word t n) (λ e. missed word (codes "-ignore") i) (no_shown word s)))))

unignored : (word : List ℕ) → bytes_eq word (codes "-ignorestderr") ≡ false → ¬ IsShown word switch.Exec
unignored word n IsShown.ignorestderr = missed word (codes "-ignorestderr") n refl

-- only `spawn` and `send` have a choice
unchosen : (word : List ℕ) (own : Own) → own ≢ switch.Spawn → own ≢ switch.Send → (on : Bool) → ¬ IsChoice word on own
unchosen word switch.Spawn spawns sends on is = spawns refl
unchosen word switch.Send spawns sends on is = sends refl
unchosen word switch.None spawns sends on is = elim is [ ]
unchosen word switch.Exec spawns sends on is = elim is [ ]
unchosen word switch.Default spawns sends on is = elim is [ ]
unchosen word switch.Timer spawns sends on is = elim is [ ]
unchosen word switch.Wait spawns sends on is = elim is [ ]

-- only `spawn` and `exec` have flags that change nothing
neither_shown : (word : List ℕ) (own : Own) → own ≢ switch.Spawn → own ≢ switch.Exec → ¬ IsShown word own
neither_shown word switch.Spawn spawns executes is = spawns refl
neither_shown word switch.Exec spawns executes is = executes refl
neither_shown word switch.None spawns executes is = elim is [ ]
neither_shown word switch.Send spawns executes is = elim is [ ]
neither_shown word switch.Default spawns executes is = elim is [ ]
neither_shown word switch.Timer spawns executes is = elim is [ ]
neither_shown word switch.Wait spawns executes is = elim is [ ]

exec_is : (word : List ℕ) → OtherIs switch.Exec word (exec_role word)
exec_is word =
    cond_both (bytes_eq word (codes "-ignorestderr")) _ _ (OtherIs switch.Exec word)
    (found word (codes "-ignorestderr") (λ w. OtherIs switch.Exec w role.Shown) (OtherIs.shown (codes "-ignorestderr") IsShown.ignorestderr))
    (λ n. OtherIs.none word (unchosen word switch.Exec (λ e. cc) (λ e. cc)) (λ e. cc) (unignored word n))

send_is : (word : List ℕ) → OtherIs switch.Send word (send_role word)
send_is word =
    cond_both (bytes_eq word (codes "-h")) _ _ (OtherIs switch.Send word)
    (found word (codes "-h") (λ w. OtherIs switch.Send w (role.Choice true)) (OtherIs.choice (codes "-h") true IsChoice.human))
    (λ h. cond_both (bytes_eq word (codes "-s")) _ _ (OtherIs switch.Send word)
    (found word (codes "-s") (λ w. OtherIs switch.Send w (role.Choice false)) (OtherIs.choice (codes "-s") false IsChoice.slow))
    (λ s. OtherIs.none word (no_pace word h s) (λ e. cc) (neither_shown word switch.Send (λ e. cc) (λ e. cc))))

is_neither : (word : List ℕ) (own : Own) → own ≢ switch.Spawn → own ≢ switch.Send → own ≢ switch.Exec → OtherIs own word role.Bad
is_neither word own spawns sends executes = OtherIs.none word (unchosen word own spawns sends) (λ e. absurd (spawns e)) (neither_shown word own spawns executes)

pub other_is : (own : Own) (word : List ℕ) → OtherIs own word (other_role own word)
other_is switch.None word = is_neither word switch.None (λ e. cc) (λ e. cc) (λ e. cc)
other_is switch.Spawn word = spawn_is word
other_is switch.Exec word = exec_is word
other_is switch.Send word = send_is word
other_is switch.Default word = is_neither word switch.Default (λ e. cc) (λ e. cc) (λ e. cc)
other_is switch.Timer word = is_neither word switch.Timer (λ e. cc) (λ e. cc) (λ e. cc)
other_is switch.Wait word = is_neither word switch.Wait (λ e. cc) (λ e. cc) (λ e. cc)
