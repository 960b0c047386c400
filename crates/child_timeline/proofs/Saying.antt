-- A text between quotes, byte by byte.
use Rattle.std.proofs.Common.{◌≡◌, ℕ, ◌+◌, ◌<◌, ◌≤◌, List, [], ◌∷◌, ◌++◌, length, drop, get_or, Option, Some, None, refl, sym, ap, ◌∙◌, append_assoc, append-nil}
use Rattle.std.specs.Prelude.{option_map}
use Rattle.std.proofs.lemmas.List.{drop_more, drop_all}
use Rattle.child_timeline.specs.declared.quoted.QuoteState.{QuoteState}
use Rattle.child_timeline.specs.declared.quoted.QuoteState.TheVariants.{Plain}
use Rattle.child_timeline.specs.Quoted.{Step, step, in_front, at_end, behind, text_from}

-- bytes in front of the rest of a text
abbrev pub joined : List ℕ → Option (List ℕ) → Option (List ℕ)
joined front rest = option_map (λ r. front ++ r) rest

front_more : (front r : List ℕ) (said : Option ℕ) → front ++ in_front said r ≡ (front ++ in_front said []) ++ r
front_more front r None = ap (λ (f : List ℕ). f ++ r) (sym (append-nil front))
front_more front r (Some b) = sym (append_assoc front (b ∷ []) r)

joined_more : (front : List ℕ) (said : Option ℕ) (rest : Option (List ℕ)) → joined front (option_map (in_front said) rest) ≡ joined (front ++ in_front said []) rest
joined_more front said None = refl
joined_more front said (Some r) = ap Some (front_more front r said)

-- a byte more
pub said_more : (bs front : List ℕ) (p : QuoteState) (i : ℕ) (s : Step) → i < length bs → step p (get_or bs i 0) ≡ Some s → joined front (text_from p (drop i bs)) ≡ joined (front ++ in_front s.0 []) (text_from s.1 (drop (i + 1) bs))
said_more bs front p i s lt h =
    ap (λ (r : List ℕ). joined front (text_from p r)) (drop_more bs i 0 lt)
    ∙ ap (λ (o : Option Step). joined front (behind o (λ q. text_from q (drop (i + 1) bs)))) h
    ∙ joined_more front s.0 (text_from s.1 (drop (i + 1) bs))

-- a byte that no text has there
pub said_none : (bs front : List ℕ) (p : QuoteState) (i : ℕ) → i < length bs → step p (get_or bs i 0) ≡ None → joined front (text_from p (drop i bs)) ≡ None
said_none bs front p i lt h =
    ap (λ (r : List ℕ). joined front (text_from p r)) (drop_more bs i 0 lt)
    ∙ ap (λ (o : Option Step). joined front (behind o (λ q. text_from q (drop (i + 1) bs)))) h

pub said_all : (bs front : List ℕ) (p : QuoteState) (i : ℕ) → length bs ≤ i → joined front (text_from p (drop i bs)) ≡ joined front (at_end p)
said_all bs front p i le = ap (λ (r : List ℕ). joined front (text_from p r)) (drop_all i bs le)

same_text : (o : Option (List ℕ)) → o ≡ joined [] o
same_text None = refl
same_text (Some r) = refl

pub said_first : (bs : List ℕ) → text_from Plain bs ≡ joined [] (text_from Plain bs)
said_first bs = same_text (text_from Plain bs)
