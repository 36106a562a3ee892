-- The answers of CHOOSE fit.
--   at-most-greatest   a size among others is at most the greatest
--   choose-fits        the law for CHOOSE
use Rattle.std.proofs.Common.{◌≡◌, ℕ, zero, suc, ◌≤◌, max, arith, List, [], ◌∷◌, map, fold, All, Option, Some, None, Result, Ok, Err, refl, slice_get, ap}
use Rattle.std.specs.List.{AllZip}
use Rattle.std.proofs.lemmas.Int.{ints, clamps}
use Rattle.value_core.specs.declared.error.Error.{Error}
use Rattle.value_core.specs.declared.position.CellReferenceIndex.{CellReferenceIndex}
use Rattle.rectangle_core.specs.Rectangle.{element_at, height, or_blank, width}
use Rattle.rectangle_core.specs.declared.value.Value.{Value}
use Rattle.rectangle_core.specs.declared.value.Value.TheVariants.{One, Missing, Grid}
use Rattle.kind_values.specs.Size.{columns_of, greatest, rows_of}
use Rattle.book_core.specs.Contents.{Contents}
use Rattle.kind_table.specs.Fit.{Fits, SizeFits}
use Rattle.kind_table.specs.FitLaws.{scalar_arguments_fit}
use Rattle.kind_table.specs.Shape.{IsWellFormed, as_range, scalar_arguments}
use Rattle.kind_table.specs.declared.static_result.StaticResult.{StaticResult}
use Rattle.result_core.specs.Finding.{value_found, value_of, with_reference}
use Rattle.result_core.specs.declared.found.Found.{Found}
use Rattle.result_core.specs.declared.found.Found.TheVariants.{Cell, Same}
use Rattle.argument_core.specs.Check.{after}
use Rattle.reference_functions.specs.Choosing.{choice_at, choose_call, choose_in, chosen_element, or_value_error, place_named}
use Rattle.reference_fits.specs.AnswersFit.{AnswerFits}
use Rattle.reference_fits.proofs.Sizes.{as_range-fits, cell-fits, rectangle-fits, size-smaller}

start-at-most : (least : ℕ) (sizes : List ℕ) → least ≤ fold max least sizes
start-at-most least [] = omega arith
start-at-most least (size ∷ sizes) = let h = start-at-most (max least size) sizes in omega (arith, ints, clamps, h)

first-at-most : (least size : ℕ) (sizes : List ℕ) → size ≤ fold max least (size ∷ sizes)
first-at-most least size sizes = let h = start-at-most (max least size) sizes in omega (arith, ints, clamps, h)

pub at-most-greatest : (size : Value → ℕ) (value : Found → Value) (least : ℕ) (args : List Found) (place : ℕ) (found : Found)
    → slice_get args place ≡ Some found → size (value found) ≤ fold max least (map size (map value args))
at-most-greatest size value least [] place found e = absurd cc
at-most-greatest size value least (arg ∷ args) zero found e =
    let same : arg ≡ found = cc in let k = ap (λ (f : Found). size (value f)) same in
    let h = first-at-most least (size (value arg)) (map size (map value args)) in omega (arith, k, h)
at-most-greatest size value least (arg ∷ args) (suc place) found e = at-most-greatest size value (max least (size (value arg))) args place found e

module _ (book : Contents) (cell : CellReferenceIndex) where
  value-fits : (s : StaticResult) (v : Value) (h w : ℕ) → rows_of v ≤ h → columns_of v ≤ w → SizeFits s h w → Fits s v
  value-fits s (One e) h w p q f = tt
  value-fits s Missing h w p q f = tt
  value-fits s (Grid rows) h w p q f = size-smaller s (height rows) (width rows) h w p q f

  -- a choice with reference
  choice-fits : (s : StaticResult) (found : Found) (h w : ℕ) → 1 ≤ h → 1 ≤ w
      → rows_of (value_found book cell found) ≤ h → columns_of (value_found book cell found) ≤ w → SizeFits s h w
      → Fits s (value_of book (with_reference found))
  choice-fits s (Cell at) h w i j p q f = cell-fits book s at (size-smaller s 1 1 h w i j f)
  choice-fits s (Same made) h w i j p q f = value-fits s (value_of book made) h w p q f

  module _ (s : StaticResult) (choices : List Found) (h w : ℕ) (i : 1 ≤ h) (j : 1 ≤ w) (fit : SizeFits s h w)
      (tall : (place : ℕ) (found : Found) → slice_get choices place ≡ Some found → rows_of (value_found book cell found) ≤ h)
      (wide : (place : ℕ) (found : Found) → slice_get choices place ≡ Some found → columns_of (value_found book cell found) ≤ w) where
    at-place : (place : ℕ) (choice : Option Found) → slice_get choices place ≡ choice → AnswerFits book s (after (or_value_error choice) (λ found. Ok (with_reference found)))
    at-place place (Some found) e = choice-fits s found h w i j (tall place found e) (wide place found e) fit
    at-place place None e = tt

    named : (place : Result ℕ Error) → AnswerFits book s (after (after place (choice_at choices)) (λ found. Ok (with_reference found)))
    named (Ok place) = at-place place (slice_get choices place) refl
    named (Err e) = tt

    chosen : (condition : Value) → rows_of condition ≤ h → columns_of condition ≤ w → AnswerFits book s (choose_in book cell choices condition)
    chosen (One element) p q = named (place_named element)
    chosen Missing p q = tt
    chosen (Grid rows) p q = rectangle-fits s (height rows) (width rows) (λ i j. chosen_element book cell choices (or_blank (element_at rows i j)))
        (size-smaller s (height rows) (width rows) h w p q fit)

  pub choose-fits : (ss : List StaticResult) (args : List Found) → All IsWellFormed ss → AllZip Fits ss (map (value_found book cell) args)
      → AnswerFits book (as_range (scalar_arguments ss)) (choose_call book cell args)
  choose-fits ss [] each fit = tt
  choose-fits ss (first ∷ []) each fit = tt
  choose-fits ss (first ∷ second ∷ rest) each fit =
      let v : Found → Value = value_found book cell in
      let args : List Found = first ∷ second ∷ rest in
      let h : ℕ = greatest (map rows_of (map v args)) in
      let w : ℕ = greatest (map columns_of (map v args)) in
      chosen (as_range (scalar_arguments ss)) (second ∷ rest) h w (start-at-most 1 (map rows_of (map v args))) (start-at-most 1 (map columns_of (map v args)))
      (as_range-fits (scalar_arguments ss) h w (scalar_arguments_fit ss (map v args) each fit))
      (λ place found e. at-most-greatest rows_of v 1 args (suc place) found e)
      (λ place found e. at-most-greatest columns_of v 1 args (suc place) found e)
      (v first)
      (at-most-greatest rows_of v 1 args 0 first refl)
      (at-most-greatest columns_of v 1 args 0 first refl)
