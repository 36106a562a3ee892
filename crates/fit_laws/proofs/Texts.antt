-- The answers of ADDRESS and ARRAYTOTEXT are one text, which fits every shape.
--   address-fits, array-to-text-fits   these answers
use Rattle.std.proofs.Common.{ℕ, ℤ, Bool, true, List, Option, Some, None, Result}
use Rattle.std.specs.Int.{saturate_signed, w32}
use Rattle.value_core.specs.declared.position.CellReferenceIndex.{CellReferenceIndex}
use Rattle.book_core.specs.Contents.{Contents}
use Rattle.kind_table.specs.declared.static_result.StaticResult.{StaticResult}
use Rattle.result_core.specs.Finding.{value_found}
use Rattle.result_core.specs.declared.found.Found.{Found}
use Rattle.argument_core.specs.Argument.{given_or, truth_in}
use Rattle.argument_core.specs.Check.{after}
use Rattle.argument_core.specs.Count.{one_or_two, two_to_five}
use Rattle.argument_core.specs.declared.counts.OneOrTwo.{OneOrTwo}
use Rattle.argument_core.specs.declared.counts.TwoToFive.{TwoToFive}
use Rattle.address_core.specs.Address.{address_text}
use Rattle.text_functions.specs.Address.{address_at, address_call, addressed, line_in, string_or_value, style_in, text_if}
use Rattle.text_functions.specs.ArrayToText.{array_to_text_call, form_in, string_of, value_text}
use Rattle.reference_fits.specs.AnswersFit.{AnswerFits}
use Rattle.reference_fits.proofs.Sizes.{after-fits}

module _ (book : Contents) (cell : CellReferenceIndex) (s : StaticResult) where
  text-fits : (text : Option (List ℕ)) → AnswerFits book s (string_or_value text)
  text-fits (Some text) = tt
  text-fits None = tt

  address-at-fits : (row column style : ℤ) (fourth fifth : Option Found) → AnswerFits book s (address_at book cell row column style fourth fifth)
  address-at-fits row column style fourth fifth =
      after-fits book s (given_or (truth_in book cell) true fourth) (λ a1. after (text_if book cell fifth) (λ sheet. addressed row column style a1 sheet)) (λ a1.
      after-fits book s (text_if book cell fifth) (λ sheet. addressed row column style a1 sheet) (λ sheet.
      text-fits (address_text (saturate_signed w32 row) (saturate_signed w32 column) (saturate_signed w32 style) a1 sheet)))

  module _ (asked : TwoToFive) where
    styled : (row column : ℤ) → AnswerFits book s (after (style_in book cell asked.third) (λ style. address_at book cell row column style asked.fourth asked.fifth))
    styled row column = after-fits book s (style_in book cell asked.third) (λ style. address_at book cell row column style asked.fourth asked.fifth)
        (λ style. address-at-fits row column style asked.fourth asked.fifth)

    placed : (row : ℤ) → AnswerFits book s
        (after (line_in book cell asked.second) (λ column. after (style_in book cell asked.third) (λ style. address_at book cell row column style asked.fourth asked.fifth)))
    placed row = after-fits book s (line_in book cell asked.second) (λ column. after (style_in book cell asked.third) (λ style. address_at book cell row column style asked.fourth asked.fifth))
        (λ column. styled row column)

    rowed : AnswerFits book s (after (line_in book cell asked.first) (λ row.
        after (line_in book cell asked.second) (λ column. after (style_in book cell asked.third) (λ style. address_at book cell row column style asked.fourth asked.fifth))))
    rowed = after-fits book s (line_in book cell asked.first) (λ row.
        after (line_in book cell asked.second) (λ column. after (style_in book cell asked.third) (λ style. address_at book cell row column style asked.fourth asked.fifth)))
        (λ row. placed row)

  pub address-fits : (args : List Found) → AnswerFits book s (address_call book cell args)
  address-fits args = after-fits book s (two_to_five args) (λ asked. after (line_in book cell asked.first) (λ row.
      after (line_in book cell asked.second) (λ column. after (style_in book cell asked.third) (λ style. address_at book cell row column style asked.fourth asked.fifth))))
      (λ asked. rowed asked)

  written : (asked : OneOrTwo) (strict : Bool) → AnswerFits book s (after (value_text strict (value_found book cell asked.first)) string_of)
  written asked strict = after-fits book s (value_text strict (value_found book cell asked.first)) string_of (λ text. tt)

  formed : (asked : OneOrTwo) → AnswerFits book s (after (form_in book cell asked.second) (λ strict. after (value_text strict (value_found book cell asked.first)) string_of))
  formed asked = after-fits book s (form_in book cell asked.second) (λ strict. after (value_text strict (value_found book cell asked.first)) string_of) (λ strict. written asked strict)

  pub array-to-text-fits : (args : List Found) → AnswerFits book s (array_to_text_call book cell args)
  array-to-text-fits args =
      after-fits book s (one_or_two args) (λ asked. after (form_in book cell asked.second) (λ strict. after (value_text strict (value_found book cell asked.first)) string_of)) (λ asked. formed asked)
