-- What a refused build tells of its text.
use Rattle.std.proofs.Common.{◌≡◌, inl, inr, ℕ, Bool, true, List, Option, Some, refl, sym, subst}
use Rattle.std.specs.Prelude.{IsSomeAnd}
use Rattle.std.specs.List.{slice_get}
use Rattle.regex.specs.Failures.{IsRightKind}
use Rattle.regex.specs.Patterns.{Config}
use Rattle.regex.specs.Sources.{IsRefusal}
use Rattle.regex.specs.declared.error.Error.{Error}
use Rattle.regex.specs.declared.error.Error.TheVariants as error
use Rattle.exp_match.specs.Scan.{is_pattern}
use Rattle.exp_match.specs.Unbuilt.{IsGivenFor, IsOfOne, IsOfRegular, IsOfWord, IsUnbuiltWord, refusal_of}
use Rattle.exp_match.specs.declared.faults.PatternFault.{PatternFault}
use Rattle.exp_match.specs.declared.faults.PatternFault.TheVariants as fault
use Rattle.exp_match.specs.Written.{config_of}

pub tells_of_text : (nocase lines : Bool) (text given : List ℕ) (e : Error) → is_pattern text ≡ true → IsGivenFor text given → IsRefusal (config_of nocase lines) given e
    → IsRightKind (config_of nocase lines) given e → IsOfRegular (record { source = text; nocase = nocase; lines = lines }) (refusal_of e)
tells_of_text nocase lines text given (error.Syntax e) is for refused kind = (is, given, for, inr (e.kind, kind, refused e refl))
tells_of_text nocase lines text given error.CompiledTooBig is for refused kind = (is, given, for, inl kind)
tells_of_text nocase lines text given error.Internal is for refused kind = tt
tells_of_text nocase lines text given error.OutOfMemory is for refused kind = tt

-- the same, where the builder's settings are these
pub tells_of_entry : (nocase lines : Bool) (made : Config) (text given entry : List ℕ) (e : Error) → made ≡ config_of nocase lines → entry ≡ given → is_pattern text ≡ true
    → IsGivenFor text given → IsRefusal made entry e → IsRightKind made entry e → IsOfRegular (record { source = text; nocase = nocase; lines = lines }) (refusal_of e)
tells_of_entry nocase lines made text given entry e same written is for refused kind =
    tells_of_text nocase lines text given e is for
    (subst (λ (c : Config). IsRefusal c given e) same (subst (λ (s : List ℕ). IsRefusal made s e) written refused))
    (subst (λ (c : Config). IsRightKind c given e) same (subst (λ (s : List ℕ). IsRightKind made s e) written kind))

-- what is told of a word is told of the arguments among which it stands
pub tells_of_one : (args : List (List ℕ)) (at : ℕ) (word : List ℕ) (f : PatternFault) → slice_get args at ≡ Some word → IsOfWord word f → IsOfOne args f
tells_of_one args at word (fault.BadFlag flag) there of = tt
tells_of_one args at word (fault.BadRegex pattern) there of = tt
tells_of_one args at word fault.Refused there of = (at, subst (λ (found : Option (List ℕ)). IsSomeAnd found IsUnbuiltWord) (sym there) of)
tells_of_one args at word fault.Memory there of = tt
