-- A text cut at its spaces.
--   whole     a text in which none is found is one word
--   cut       else its words are the one before the first space, and those of what stands behind it
--   then      the same, where the latter are known
--   too-many  four words or more are no command
use Rattle.std.proofs.Common.{◌≡◌, ℕ, ◌<◌, ◌==◌, List, [], ◌∷◌, length, Some, None, Bor, refl, ap, ap₂, sym, ◌∙◌, arith}
use Rattle.std.specs.List.{slice_split}
use Rattle.std.proofs.lemmas.List.Splits.{length-slice_split, slice_split_none, slice_split_first}
use Rattle.std.proofs.lemmas.List.Sums.{fails_before_first}
use Rattle.std.proofs.lemmas.Str.Pattern.{IsSplitOnceResult, split_once_first}
use Rattle.answer_core.specs.Command.{command_of}

abbrev pub words : List ℕ → List (List ℕ)
words text = slice_split (λ byte. byte == 32) text

pub whole : (text : List ℕ) → IsSplitOnceResult 32 text None → words text ≡ text ∷ []
whole text split =
    let none = split_once_first 32 text None split (omega arith) in
    slice_split_none (λ byte. byte == 32) text (λ place other inside. fails_before_first (λ byte. byte == 32) text place other (omega (arith, none, inside)))

pub cut : (text : List ℕ) (word behind : Bor (List ℕ)) → IsSplitOnceResult 32 text (Some (word, behind)) → words text ≡ word.now ∷ words behind.now
cut text word behind split =
    let (inside, front, back) = split_once_first 32 text (Some (word, behind)) split (omega arith) in
    slice_split_first (λ byte. byte == 32) text 0 inside ∙ ap₂ (λ first rest. first ∷ words rest) (sym front) (sym back)

pub then : (text : List ℕ) (word behind : Bor (List ℕ)) (others : List (List ℕ)) → IsSplitOnceResult 32 text (Some (word, behind)) → words behind.now ≡ others
    → words text ≡ word.now ∷ others
then text word behind others split are = cut text word behind split ∙ ap (λ words. word.now ∷ words) are

pub too-many : (first second third behind : List ℕ) → command_of (first ∷ second ∷ third ∷ words behind) ≡ None
too-many first second third behind = by (words behind) (omega (arith, length-slice_split (λ byte. byte == 32) behind))
  where
    by : (others : List (List ℕ)) → 0 < length others → command_of (first ∷ second ∷ third ∷ others) ≡ None
    by [] some = absurd (omega (arith, some))
    by (fourth ∷ others) some = refl
