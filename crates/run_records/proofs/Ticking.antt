-- Ticks put into a list of events.
use Rattle.std.proofs.Common.{List, [], ◌∷◌, Option, Some, None}
use Rattle.child_events.specs.declared.event.Event.{Event}
use Rattle.child_events.specs.declared.event.Event.TheVariants as event
use Rattle.child_events.specs.World.{after_own}
use Rattle.dialogue_sched.specs.Ticks.{WithTicks, none, kept, tick}

pub unchanged : (es : List Event) → WithTicks es es
unchanged [] = none
unchanged (e ∷ es) = kept e es es (unchanged es)

-- ticks alone
abbrev pub OnlyTicks : List Event → Type 0
OnlyTicks es = WithTicks [] es

-- put in twice
pub put_twice : (xs ys zs : List Event) → WithTicks xs ys → WithTicks ys zs → WithTicks xs zs
put_twice xs ys [] p none = p
put_twice xs (y ∷ ys) (z ∷ zs) (kept e xs' ys' p) (kept f ys'' zs' q) = kept e xs' zs' (put_twice xs' ys' zs' p q)
put_twice xs (y ∷ ys) (z ∷ zs) (tick m xs' ys' p) (kept f ys'' zs' q) = tick m xs' zs' (put_twice xs' ys' zs' p q)
put_twice xs ys (z ∷ zs) p (tick m ys' zs' q) = tick m xs zs' (put_twice xs ys zs' p q)

-- what one more event adds to both
pub after_both : (o : Option Event) (xs ys : List Event) → WithTicks xs ys → WithTicks (after_own o xs) (after_own o ys)
after_both None xs ys p = p
after_both (Some e) xs ys p = kept e xs ys p

-- where there are ticks alone, what is behind the first is ticks alone
pub ticks_behind : (o : Option Event) (es : List Event) → OnlyTicks (after_own o es) → OnlyTicks es
ticks_behind None es p = p
ticks_behind (Some (event.Tick m)) es (tick n xs ys p) = p
ticks_behind (Some (event.Child c m w)) es p = elim p [ ]

-- and the first may be put in
pub tick_more : (o : Option Event) (es xs ys : List Event) → OnlyTicks (after_own o es) → WithTicks xs ys → WithTicks xs (after_own o ys)
tick_more None es xs ys p q = q
tick_more (Some (event.Tick m)) es xs ys p q = tick m xs ys q
tick_more (Some (event.Child c m w)) es xs ys p q = elim p [ ]
