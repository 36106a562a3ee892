-- A text that is read from its front ends as a reference to a range does exactly where it is one.
use Rattle.std.proofs.Common.{◌≡◌, ℕ, eqb, List, [], ◌∷◌, fold, Bool, true, false, ◌&&◌, if◌then◌else◌, Option, Some, None, refl, ◌∙◌}
use Rattle.std.specs.List.{list_all}
use Rattle.std.specs.Option.{option_map_or}
use Rattle.import_core.specs.declared.range_text.Ending.{Ending}
use Rattle.import_core.specs.declared.range_text.Ending.TheVariants.{Before, Column, Row, Other}
use Rattle.import_core.specs.RangeText.{after_last_colon, is_capital, is_digit, is_end, is_range_reference}
use Rattle.import_core.specs.Ending.{row_or_other, within, goes_on, ends_reference}

-- whether what is left is right behind what was read, if no colon comes
abbrev rest_is_end : Ending → List ℕ → Bool
rest_is_end Before bytes = false
rest_is_end Column bytes = is_end bytes
rest_is_end Row bytes = list_all is_digit bytes
rest_is_end Other bytes = false

of_digits : (byte : ℕ) (bytes : List ℕ) → rest_is_end (row_or_other byte) bytes ≡ list_all is_digit (byte ∷ bytes)
of_digits byte bytes = elim (is_digit byte) as (λ b. rest_is_end (if b then Row else Other) bytes ≡ (b && list_all is_digit bytes)) [ true ↦ refl | false ↦ refl ]

no_colon : (ending : Ending) (byte : ℕ) (bytes : List ℕ) → rest_is_end (within ending byte) bytes ≡ rest_is_end ending (byte ∷ bytes)
no_colon Before byte bytes = refl
no_colon Column byte bytes = elim (is_capital byte) as (λ b. rest_is_end (if b then Column else row_or_other byte) bytes ≡ (if b then is_end bytes else list_all is_digit (byte ∷ bytes))) [
  | true ↦ refl
  | false ↦ of_digits byte bytes
]
no_colon Row byte bytes = of_digits byte bytes
no_colon Other byte bytes = refl

one_byte : (ending : Ending) (byte : ℕ) (bytes : List ℕ) (later : Option (List ℕ))
    → option_map_or is_end later (rest_is_end (goes_on ending byte) bytes)
    ≡ option_map_or is_end (option_map_or Some later (if eqb byte 58 then Some bytes else None)) (rest_is_end ending (byte ∷ bytes))
one_byte ending byte bytes (Some rest) = refl
one_byte ending byte bytes None = elim (eqb byte 58) as (λ b. rest_is_end (if b then Column else within ending byte) bytes
    ≡ option_map_or is_end (if b then Some bytes else None) (rest_is_end ending (byte ∷ bytes))) [
      | true ↦ refl
      | false ↦ no_colon ending byte bytes
    ]

read : (bytes : List ℕ) (ending : Ending) → ends_reference (fold goes_on ending bytes) ≡ option_map_or is_end (after_last_colon bytes) (rest_is_end ending bytes)
read [] Before = refl
read [] Column = refl
read [] Row = refl
read [] Other = refl
read (byte ∷ bytes) ending = read bytes (goes_on ending byte) ∙ one_byte ending byte bytes (after_last_colon bytes)

pub read_whole : (bytes : List ℕ) → ends_reference (fold goes_on Before bytes) ≡ is_range_reference bytes
read_whole bytes = read bytes Before

pub ruleset endings = (read_whole)
